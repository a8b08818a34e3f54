-- The judge's verdict does not alter, and the evaluator's truth is the one of before.
use Rattle.std.specs.Prelude.{List, ℕ, suc, ◌*◌, ◌/◌, ◌%◌, length, get_or}
use Rattle.lists.specs.Tabulate.{tabulate}
use Rattle.rules.specs.Truth.{slot_bit}

-- ---- request N5, "The old bytes and the new words must say the same for every node and slot": the bits of the words, one after the other, are the
-- bytes; and whatever bytes and words there are, they say the same

abbrev pub bytes_of : (T : ℕ) → List ℕ → List ℕ
bytes_of T words = tabulate (length words * T) (λ i. slot_bit (get_or words (i / T) 0) (suc (i % T)))
