-- Proofs of what the verdict broken carries.
use Rattle.std.specs.Prelude.{◌≡◌, refl, List, ℕ, ◌<◌, length, ℤ, pos, negsuc, ◌<ℤ◌}
use Rattle.std.proofs.Common.{sym, ap, ◌∙◌, arith, lt→ltb, ltb→lt}
use Rattle.rules.specs.Table.{Node, Good}
use Rattle.rules.specs.Rows.{rows_of}
use Rattle.rules.specs.Judge.{shortfall, None, Verdict, row_at, Judged}
use Rattle.rules.specs.Judge.VerdictWith.{broken}
use Rattle.rules.specs.Judge.JudgedBy.{is-outside, is-not-binary, is-broken, is-passed}
use Rattle.rules.specs.Refusals.{JudgeRefused}
use Rattle.rules.specs.Demands.{Answer}
use Rattle.rules.specs.Demands.Answer.{refused, answered}
use Rattle.rules.proofs.Shortfalls.{broken-short}
use Rattle.rules.specs.Before.{verdict_before, ruling_before}
use Rattle.rules.specs.Before as Before
use Rattle.rules.proofs.Errors.Figures.{figures_exist}
use Rattle.rules.proofs.Unaltered.{judged-before, judged_now}
use Rattle.rules.specs.Outcome.{judge_outcome}
use Rattle.headlines.proofs.Refusing.{judge_loop-allowed}
use Rattle.headlines.proofs.Answering.{judge-answers}
use Rattle.headlines.specs.Shortfall.{BrokenIsShort, SameVerdict, CarriesShortfall}

-- more than a tolerance is more than 0
positive : (e : ℕ) (d : ℤ) → pos e <ℤ d → pos 0 <ℤ d
positive e (pos n) h = record { lt = lt→ltb 0 n (let l = ltb→lt e n h.lt in omega arith) }
positive e (negsuc n) h = absurd h.lt

pub broken-is-short : BrokenIsShort
broken-is-short e xs r = (broken-short e xs r, λ h. positive e (shortfall xs r) ((broken-short e xs r).0 h))

module _ {T M L e : ℕ} {ns : List Node} {xs : List ℤ} where
  -- the row that broken names, and its shortfall
  named : {v : Verdict} {i : ℕ} {d : ℤ} → v ≡ broken i d → Judged T M L e ns xs v →
      (i < length (rows_of T M L ns)) × (d ≡ shortfall xs (row_at (rows_of T M L ns) i)) × (pos e <ℤ d)
  named f (is-outside h) = let z : ◌≡◌ {A = ℕ} 0 1 = cc in absurd (omega arith)
  named f (is-not-binary p h) = let z : ◌≡◌ {A = ℕ} 0 1 = cc in absurd (omega arith)
  named f (is-passed p q r x) = let z : ◌≡◌ {A = ℕ} 0 1 = cc in absurd (omega arith)
  named {i = i} {d} f (is-broken {i = j} p q h) =
      let r = row_at (rows_of T M L ns) j in
      let g : j ≡ i = cc in
      let k : shortfall xs r ≡ d = cc in
      let above = (broken-short e xs r).0 h.holds.1 in
      (rw g at h.holds.0, sym k ∙ ap (λ (n : ℕ). shortfall xs (row_at (rows_of T M L ns) n)) g, rw k at above)

module _ (t m l : ℕ) (table : List ℕ) (figures : List ℤ) (tolerance : ℤ) (ruling : Answer Verdict)
    (told : ruling ≡ judge_outcome t m l table figures tolerance) where
  pub same-verdict : SameVerdict t m l table figures tolerance ruling
  same-verdict u = (
    go ruling refl,
    λ x.
        let (none, (ns, e, good, tol, j)) = x in
        let loop = judge_loop-allowed t m l table figures tolerance none in
        let y = judged_now (figures_exist t m l e ns loop good.nodes) j in
        ap ruling_before ((judge-answers t m l table figures tolerance ruling told y.0).1 (none, (ns, e, good, tol, y.1))) ∙ ap answered y.2,
  )
    where
      go : (r : Answer Verdict) → ruling ≡ r → ruling_before r ≡ answered u →
          None (JudgeRefused t m l table figures tolerance) ×
          ((ns : List Node) × (e : ℕ) × Good m table ns × (tolerance ≡ pos e) × Before.Judged t m l e ns figures u)
      go (refused k) r f = let z : ◌≡◌ {A = ℕ} 0 1 = cc in absurd (omega arith)
      go (answered v) r f =
          let (none, (ns, e, good, tol, j)) = (judge-answers t m l table figures tolerance ruling told v).0 r in
          let g : verdict_before v ≡ u = cc in
          (none, (ns, e, good, tol, rw g at (judged-before j)))

  pub carries-shortfall : CarriesShortfall t m l table figures tolerance ruling
  carries-shortfall i d f =
      let (none, (ns, e, good, tol, j)) = (judge-answers t m l table figures tolerance ruling told (broken i d)).0 f in
      let (low, is, above) = named refl j in
      (ns, e, good, tol, low, is, above, positive e d above)
