-- The verdict, from its end.
use Rattle.std.specs.Prelude.{◌≡◌, List, ℕ, Ok, Err, ◌*◌, ℤ, length}
use Rattle.std.proofs.Math.Path.{refl, sym}
use Rattle.std.proofs.Common.{ap, ap₂, ◌∙◌}
use Rattle.std.proofs.Math.Option.{Option, none, some}
use Rattle.std.proofs.Math.Nat.{zero-add}
use Rattle.lists.specs.First.{first}
use Rattle.rules.specs.Table.{Node}
use Rattle.rules.specs.Rows.{rows_of}
use Rattle.rules.specs.Judge as Judge
use Rattle.rules.specs.Judge.VerdictWith.{outside, not-binary, broken, passed}
use Rattle.rules.specs.Judge.{shortfall, no_row}
use Rattle.rules.specs.Errors.Figures.{root_error}
use Rattle.rules.specs.Verdicts.{or_else, first_outside, first_not_binary, first_broken, broken_at, verdict}
use Rattle.judge_slot.specs.declared.Broken.{Broken}
use Rattle.judge_slot.specs.Searches.{Search, tested, first-broken, shortfall-of, all-clear}
use Rattle.judge_slot.specs.Searches as Searches
use Rattle.judge_limits.specs.Tests.{outside_at, not_binary_at}

module _ (T M L e : ℕ) (ns : List Node) (xs : List ℤ) where
  unfoldable pub rows_verdict : Judge.Verdict
  rows_verdict = or_else (first_broken T M L e ns xs) (broken_at T M L e ns xs) (passed (length (rows_of T M L ns)) (root_error T L e ns))

  unfoldable pub atoms_verdict : Judge.Verdict
  atoms_verdict = or_else (first_not_binary T M L e ns xs) not-binary rows_verdict

  pub verdict-is : verdict T M L e ns xs ≡ or_else (first_outside T M L e ns xs) outside atoms_verdict
  unfolding verdict atoms_verdict rows_verdict
  verdict-is = refl

  pub broken-is : (s : Search) → s ≡ tested e (shortfall xs) (Ok 0) (rows_of T M L ns) → first_broken T M L e ns xs ≡ Searches.broken s
  broken-is s p = sym (first-broken e (shortfall xs) no_row (rows_of T M L ns)) ∙ ap Searches.broken (sym p)

  pub broken-verdict : (b : Broken) → Err b ≡ tested e (shortfall xs) (Ok 0) (rows_of T M L ns) → broken b.row b.shortfall ≡ rows_verdict
  unfolding rows_verdict
  broken-verdict b p = rw (broken-is (Err b) p) (ap (broken b.row) (shortfall-of e (shortfall xs) no_row (rows_of T M L ns) b (sym p)))

  pub clear-verdict : (n f : ℕ) → Ok n ≡ tested e (shortfall xs) (Ok 0) (rows_of T M L ns) → f ≡ root_error T L e ns → passed n f ≡ rows_verdict
  unfolding rows_verdict
  clear-verdict n f p q =
      rw (broken-is (Ok n) p)
      (ap₂ passed (all-clear e (shortfall xs) (rows_of T M L ns) 0 n (sym p) ∙ zero-add (length (rows_of T M L ns))) q)

  pub atoms-found : (k v : ℕ) → k ≡ M * T → first (not_binary_at e xs) k 0 ≡ some v → not-binary v ≡ atoms_verdict
  unfolding atoms_verdict
  atoms-found k v h p = sym (ap (λ (o : Option ℕ). or_else o not-binary rows_verdict) (ap (λ (n : ℕ). first (not_binary_at e xs) n 0) (sym h) ∙ p))

  pub atoms-clear : (k : ℕ) → k ≡ M * T → first (not_binary_at e xs) k 0 ≡ none → rows_verdict ≡ atoms_verdict
  unfolding atoms_verdict
  atoms-clear k h p = sym (ap (λ (o : Option ℕ). or_else o not-binary rows_verdict) (ap (λ (n : ℕ). first (not_binary_at e xs) n 0) (sym h) ∙ p))

  pub outside_found : (v : ℕ) → first (outside_at e xs) (length xs) 0 ≡ some v → outside v ≡ verdict T M L e ns xs
  outside_found v p = sym (verdict-is ∙ ap (λ (o : Option ℕ). or_else o outside atoms_verdict) p)

  pub outside_clear : first (outside_at e xs) (length xs) 0 ≡ none → atoms_verdict ≡ verdict T M L e ns xs
  outside_clear p = sym (verdict-is ∙ ap (λ (o : Option ℕ). or_else o outside atoms_verdict) p)
