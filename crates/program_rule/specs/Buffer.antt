-- A lent page buffer of n bytes, after xs is written from its start.
use Rattle.std.specs.Prelude.{◌≡◌, List, ◌++◌, ℕ, ◌+◌, ◌≤◌, length, drop}
use Rattle.std.proofs.Common.{ap, ◌∙◌, arith}
use Rattle.std.proofs.lemmas.List.Edits.{sets, sets-eq}
use Rattle.std.proofs.Math.Seq.{length-sets}

-- it keeps its length
pub page-length : (n : ℕ) (xs l l' : List ℕ) → length l ≡ n → l' ≡ sets l 0 xs → length l' ≡ n
page-length n xs l l' e f = ap length f ∙ length-sets l 0 xs ∙ e

-- a page that fits it stands at its start, and what stood behind is kept
pub page-front : (xs l : List ℕ) → length xs ≤ length l → sets l 0 xs ≡ xs ++ drop (length xs) l
page-front xs l h =
    let f : 0 + length xs ≤ length l = omega arith in
    let z : 0 + length xs ≡ length xs = omega arith in
    sets-eq xs l 0 f ∙ ap (λ (n : ℕ). xs ++ drop n l) z
