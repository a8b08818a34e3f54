-- The verdict, computed: the first variable outside, the first atom variable that is not binary, the first broken row. It is the verdict of Judge.antt.
use Rattle.rules.specs.Verdicts.{apart, broken_at, first_broken, first_not_binary, first_outside, is_broken, is_not_binary, is_outside, or_else, verdict}
use Rattle.std.specs.Prelude.{◌≡◌, Bool, ◌↔◌, List, ℕ, ◌+◌, ◌*◌, ◌≤◌, ◌<◌, T as Is, length, ℤ, pos, neg_ℤ, ◌-ℤ◌, nat_abs, ◌<ℤ◌}
use Rattle.std.proofs.Math.Path.{refl, sym}
use Rattle.std.proofs.Common.{ap, ◌∙◌, inl, inr, ⊎_elim, arith, ltb→lt, lt→ltb}
use Rattle.std.proofs.Math.Logic.Iff as Iff
use Rattle.std.proofs.Math.Option.{Option, none, some}
use Rattle.std.proofs.Math.Decide.{dec_lt}
use Rattle.std.specs.Int.Signed.{lt_z}
use Rattle.lists.specs.Tests.{or_cases, or_left, or_right, and_left, and_right, and_both}
use Rattle.lists.specs.First.{first_found, Found}
use Rattle.rules.specs.Quantities.{zero, one, LoopAllowed}
use Rattle.rules.specs.Table.{Node}
use Rattle.rules.specs.TableRules.{NodesGood}
use Rattle.rules.specs.Rows.{Row, value_at, rows_of}
use Rattle.rules.specs.Judge.{Apart, Outside, NotBinary, Broken, shortfall, Lowest, None, Verdict, row_at, OutsideAt, NotBinaryAt, BrokenAt, Judged}
use Rattle.rules.specs.Judge.VerdictWith.{outside, not-binary, passed}
use Rattle.rules.specs.Judge.JudgedBy.{is-outside, is-not-binary, is-broken, is-passed}
use Rattle.rules.proofs.Shortfalls.{broken-short}
use Rattle.rules.specs.Errors.Figures.{root_error}
use Rattle.rules.proofs.Errors.Figures.{figure_of, figures_exist, root-figure}

below_iff : (a b : ℤ) → (a <ℤ b) ↔ Is (lt_z a b)
below_iff a b = (λ h. h.lt, λ t. record { lt = t })

apart_iff : (e : ℕ) (b x : ℤ) → Apart e b x ↔ Is (apart e b x)
apart_iff e b x = (lt→ltb e (nat_abs (x -ℤ b)), ltb→lt e (nat_abs (x -ℤ b)))

outside_iff : (e : ℕ) (x : ℤ) → Outside e x ↔ Is (is_outside e x)
outside_iff e x =
    let a = lt_z x (neg_ℤ (pos e)) in
    let b = lt_z (pos (one + e)) x in (
      ⊎_elim (λ h. or_left a b h.lt) (λ h. or_right a b h.lt),
      λ t. ⊎_elim (λ s. inl ((below_iff x (neg_ℤ (pos e))).1 s)) (λ s. inr ((below_iff (pos (one + e)) x).1 s)) (or_cases a b t),
    )

not-binary_iff : (e : ℕ) (x : ℤ) → NotBinary e x ↔ Is (is_not_binary e x)
not-binary_iff e x =
    let a = apart e (pos zero) x in
    let b = apart e (pos one) x in (
      λ h. and_both a b ((apart_iff e (pos zero) x).0 h.0) ((apart_iff e (pos one) x).0 h.1),
      λ t. ((apart_iff e (pos zero) x).1 (and_left a b t), (apart_iff e (pos one) x).1 (and_right a b t)),
    )

broken_iff : (e : ℕ) (xs : List ℤ) (r : Row) → Broken e xs r ↔ Is (is_broken e xs r)
broken_iff e xs r = Iff.trans (broken-short e xs r) (below_iff (pos e) (shortfall xs r))

-- ---- it is the verdict

-- what is found, of a property that a test decides
abbrev Search : (ℕ → Type 0) → Option ℕ → Type 0
Search P none = None P
Search P (some k) = Lowest P k

searched : (P : ℕ → Type 0) (f : ℕ → Bool) (n : ℕ) → ((i : ℕ) → P i ↔ ((i < n) × Is (f i))) → (o : Option ℕ) → Found f n 0 o → Search P o
searched P f n p none h = λ k x. let y = (p k).0 x in h k (omega arith) (omega (arith, y.0)) y.1
searched P f n p (some k) h =
    record { holds = (p k).1 (omega (arith, h.within), h.passes); below = λ j l x. h.earlier j (omega arith) l ((p j).0 x).1 }

search_lowest : (P : ℕ → Type 0) (o : Option ℕ) (k : ℕ) → Search P o → Lowest P k → o ≡ some k
search_lowest P none k s h = absurd (s k h.holds)
search_lowest P (some j) k s h = go (dec_lt j k) (dec_lt k j)
  where
    go : Dec (j < k) → Dec (k < j) → some j ≡ some k
    go (yes l) d = absurd (h.below j l s.holds)
    go (no l) (yes g) = absurd (s.below k g h.holds)
    go (no l) (no g) = ap (λ (i : ℕ). some i) (omega arith)

search_none : (P : ℕ → Type 0) (o : Option ℕ) → Search P o → None P → o ≡ none
search_none P none s h = refl
search_none P (some k) s h = absurd (h k s.holds)

module _ (T M L e : ℕ) (ns : List Node) (xs : List ℤ) where
  abbrev P₁ : ℕ → Type 0
  P₁ = OutsideAt e xs

  abbrev P₂ : ℕ → Type 0
  P₂ = NotBinaryAt (M * T) e xs

  abbrev P₃ : ℕ → Type 0
  P₃ = BrokenAt (Broken e xs) (rows_of T M L ns)

  outside_found : Search P₁ (first_outside T M L e ns xs)
  outside_found =
      searched P₁ (λ v. is_outside e (value_at xs v)) (length xs)
      (λ v. (λ h. (h.0, (outside_iff e (value_at xs v)).0 h.1), λ h. (h.0, (outside_iff e (value_at xs v)).1 h.1)))
      (first_outside T M L e ns xs) (first_found (λ v. is_outside e (value_at xs v)) (length xs) 0)

  not-binary-found : Search P₂ (first_not_binary T M L e ns xs)
  not-binary-found =
      searched P₂ (λ v. is_not_binary e (value_at xs v)) (M * T)
      (λ v. (λ h. (h.0, (not-binary_iff e (value_at xs v)).0 h.1), λ h. (h.0, (not-binary_iff e (value_at xs v)).1 h.1)))
      (first_not_binary T M L e ns xs) (first_found (λ v. is_not_binary e (value_at xs v)) (M * T) 0)

  broken-found : Search P₃ (first_broken T M L e ns xs)
  broken-found =
      searched P₃ (λ i. is_broken e xs (row_at (rows_of T M L ns) i)) (length (rows_of T M L ns))
      (λ i. let iff = broken_iff e xs (row_at (rows_of T M L ns) i) in (λ h. (h.0, iff.0 h.1), λ h. (h.0, iff.1 h.1)))
      (first_broken T M L e ns xs) (first_found (λ i. is_broken e xs (row_at (rows_of T M L ns) i)) (length (rows_of T M L ns)) 0)

  no_outside : None P₁ → first_outside T M L e ns xs ≡ none
  no_outside h = search_none P₁ (first_outside T M L e ns xs) outside_found h

  no_not-binary : None P₂ → first_not_binary T M L e ns xs ≡ none
  no_not-binary h = search_none P₂ (first_not_binary T M L e ns xs) not-binary-found h

  -- of a table whose nodes are good, which has one error figure for each variable
  module _ (good : NodesGood M ns) (0<N : 1 ≤ length ns) (loop : LoopAllowed T L) where
    all_hold : None P₁ → None P₂ → None P₃ → Judged T M L e ns xs (passed (length (rows_of T M L ns)) (root_error T L e ns))
    all_hold p q r =
        let figures = figures_exist T M L e ns loop good in
        is-passed p q r (_, figures, sym (root-figure T M L e ns loop good (figure_of T M L e ns loop good) figures 0<N))

    pub verdict-judged : Judged T M L e ns xs (verdict T M L e ns xs)
    unfolding verdict
    verdict-judged = go (first_outside T M L e ns xs) (first_not_binary T M L e ns xs) (first_broken T M L e ns xs) outside_found not-binary-found broken-found
      where
        go : (a b c : Option ℕ) → Search P₁ a → Search P₂ b → Search P₃ c →
            Judged T M L e ns xs
            (or_else a outside (or_else b not-binary (or_else c (broken_at T M L e ns xs) (passed (length (rows_of T M L ns)) (root_error T L e ns)))))
        go (some v) b c p q r = is-outside p
        go none (some v) c p q r = is-not-binary p q
        go none none (some i) p q r = is-broken p q r
        go none none none p q r = all_hold p q r

    pub judged-verdict : {v : Verdict} → Judged T M L e ns xs v → verdict T M L e ns xs ≡ v
    unfolding verdict
    judged-verdict (is-outside {v} h) = rw (search_lowest P₁ (first_outside T M L e ns xs) v outside_found h) refl
    judged-verdict (is-not-binary {v} p h) = rw (no_outside p, search_lowest P₂ (first_not_binary T M L e ns xs) v not-binary-found h) refl
    judged-verdict (is-broken {i} p q h) = rw (no_outside p, no_not-binary q, search_lowest P₃ (first_broken T M L e ns xs) i broken-found h) refl
    judged-verdict (is-passed {x} p q r (error, figures, is)) =
        rw (no_outside p, no_not-binary q, search_none P₃ (first_broken T M L e ns xs) broken-found r)
        (ap (passed (length (rows_of T M L ns))) (sym (root-figure T M L e ns loop good error figures 0<N) ∙ sym is))
