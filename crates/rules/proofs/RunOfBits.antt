-- A run from the truths of its atoms.
use Rattle.std.specs.Prelude.{◌≡◌, Bool, List, ℕ, suc, ◌-◌, ◌/◌, ◌%◌, ◌^◌, ◌≤◌, ◌<◌, get_or}
use Rattle.std.proofs.Common.{ap, ap₂, ◌∙◌, zero-add, arith}
use Rattle.lists.specs.Tabulate.{tabulate, length-tabulate, get_d_tabulate}
use Rattle.rules.specs.Quantities.{bit_at}
use Rattle.rules.specs.Refusals.{RunGood}
use Rattle.rules.specs.Evaluation.{bit_of}
use Rattle.rules.specs.Words.{word_from}
use Rattle.rules.proofs.Words.{word_low, word-bit}

-- `on t a` is that of atom a at slot t: bit a of the slot's number
module _ (T M : ℕ) (on : ℕ → ℕ → Bool) where
  abbrev pub run_of : List ℕ
  run_of = tabulate T (λ i. word_from (on (suc i)) M 0)

  run_at : (i : ℕ) → i < T → get_or run_of i 0 ≡ word_from (on (suc i)) M 0
  run_at i h = get_d_tabulate T (λ i. word_from (on (suc i)) M 0) i 0 h

  pub run-good : RunGood T M run_of
  run-good =
      let long = length-tabulate T (λ i. word_from (on (suc i)) M 0) in
      record { numbers = long; bits = λ i h. rw (run_at i (omega arith)) (word_low (on (suc i)) M 0) }

  pub run-bit : (a t : ℕ) → a < M → 1 ≤ t → t ≤ T → bit_at run_of t a ≡ bit_of (on t a)
  run-bit a t h l u =
      let slot : suc (t - 1) ≡ t = omega arith in
      ap (λ (x : ℕ). x / 2 ^ a % 2) (run_at (t - 1) (omega arith)) ∙ word-bit (on (suc (t - 1))) M 0 a h ∙ ap₂ (λ (s b : ℕ). bit_of (on s b)) slot (zero-add a)
