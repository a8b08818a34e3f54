-- All but read: refusals 1, 2, 13 and 7, which are about T, M, L and the table.
use Rattle.std.proofs.Common.{sym, subst, arith}
use Rattle.std.specs.Prelude.{List, ℕ, ◌≤◌, ◌<◌}
use Rattle.std.proofs.Math.Decide.{dec_lt}
use Rattle.rules.specs.Quantities.{SlotsAllowed, AtomsAllowed, LoopAllowed}
use Rattle.rules.specs.Table.{Node, Good}
use Rattle.rules.specs.TableTest.{good, nodes_in}
use Rattle.rules.proofs.TableTest.{good-sound, good-complete, good-nodes}
use Rattle.rules.specs.Refusals.{order, place, TableRefused}
use Rattle.rules.specs.Demands.{Answer, Exact}
use Rattle.rules.specs.Outcome.{between, table_checked}
use Rattle.rules.proofs.Ladder.{From, rung}
use Rattle.rules.proofs.Exactness.Tests.{between-true, between-false, passes, at_least}

module _ (T M L : ℕ) (table : List ℕ) where
  -- no refusal before place k applies, where what decides those is known
  table-from : (k : ℕ) → (place 1 < k → SlotsAllowed T) → (place 2 < k → AtomsAllowed M) → (place 13 < k → LoopAllowed T L) →
      (place 7 < k → Good M table (nodes_in table)) → {j : ℕ} → TableRefused T M L table j → k ≤ place j
  table-from k a b d c (TableRefused.slots x) = at_least (place 1) k (λ h. x (a h))
  table-from k a b d c (TableRefused.atoms x) = at_least (place 2) k (λ h. x (b h))
  table-from k a b d c (TableRefused.loop x) = at_least (place 13) k (λ h. x (d h))
  table-from k a b d c (TableRefused.not_good x) = at_least (place 7) k (λ h. x (nodes_in table) (c h))

  pub table-under : {j : ℕ} → TableRefused T M L table j → place j < place 8
  table-under (TableRefused.slots x) = omega arith
  table-under (TableRefused.atoms x) = omega arith
  table-under (TableRefused.loop x) = omega arith
  table-under (TableRefused.not_good x) = omega arith

  -- a call whose refusals before 8 are the table's
  module _ {A : Type 0} (Refused : ℕ → Type 0) (AnswerIs : A → Type 0) (up : (k : ℕ) → TableRefused T M L table k → Refused k)
      (down : (j : ℕ) → Refused j → place j < place 8 → TableRefused T M L table j) where
    before_8 : (k : ℕ) → k ≤ place 8 → (place 1 < k → SlotsAllowed T) → (place 2 < k → AtomsAllowed M) → (place 13 < k → LoopAllowed T L) →
        (place 7 < k → Good M table (nodes_in table)) → (j : ℕ) → Refused j → k ≤ place j
    before_8 k u a b d c j x = go (dec_lt (place j) (place 8))
      where
        go : Dec (place j < place 8) → k ≤ place j
        go (yes h) = table-from k a b d c (down j x h)
        go (no h) = omega arith

    pub table_exact : (rest : Answer A) →
        (SlotsAllowed T → AtomsAllowed M → LoopAllowed T L → Good M table (nodes_in table) → From order Refused AnswerIs (place 8) →
        Exact Refused AnswerIs rest) →
        Exact Refused AnswerIs (table_checked T M L table rest)
    unfolding table_checked
    table_exact rest f =
        rung order Refused AnswerIs (between 1 64 T) 1 _
        (before_8 (place 1) (omega arith) (λ h. absurd (omega arith)) (λ h. absurd (omega arith)) (λ h. absurd (omega arith)) (λ h. absurd (omega arith)))
        (λ e. up 1 (TableRefused.slots (between-false 1 64 T e)))
        (λ e. let s = between-true 1 64 T e in
        rung order Refused AnswerIs (between 1 16 M) 2 _
        (before_8 (place 2) (omega arith) (λ h. s) (λ h. absurd (omega arith)) (λ h. absurd (omega arith)) (λ h. absurd (omega arith)))
        (λ e. up 2 (TableRefused.atoms (between-false 1 16 M e)))
        (λ e. let m = between-true 1 16 M e in
        rung order Refused AnswerIs (between 1 T L) 13 _
        (before_8 (place 13) (omega arith) (λ h. s) (λ h. m) (λ h. absurd (omega arith)) (λ h. absurd (omega arith)))
        (λ e. up 13 (TableRefused.loop (between-false 1 T L e)))
        (λ e. let l = between-true 1 T L e in
        rung order Refused AnswerIs (good M table) 7 rest (before_8 (place 7) (omega arith) (λ h. s) (λ h. m) (λ h. l) (λ h. absurd (omega arith)))
        (λ e. up 7 (TableRefused.not_good (λ ns g. rw e at (good-complete M table ns g))))
        (λ e. let g = good-sound M table (passes (good M table) e) in f s m l g (before_8 (place 8) (omega arith) (λ h. s) (λ h. m) (λ h. l) (λ h. g))))))

  -- of the one table's nodes
  pub of-nodes : (P : List Node → Type 0) → P (nodes_in table) → (ns : List Node) → Good M table ns → P ns
  of-nodes P x ns g = subst P (sym (good-nodes M table ns g)) x
