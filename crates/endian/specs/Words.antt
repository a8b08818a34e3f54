-- The bytes of a word, the lowest first.
use Rattle.std.specs.Prelude.{◌≡◌, List, [], ◌∷◌, ℕ, zero, suc, ◌+◌, ◌*◌, ◌/◌, ◌%◌, ◌<◌}
use Rattle.std.proofs.Common.{ap, ap₂, ◌∙◌, arith}

-- the words below it have at most seven bytes: 2 to the power 56
abbrev pub seven_bytes : ℕ
seven_bytes = 72057594037927936

-- the n lowest bytes
abbrev pub little_endian : (n w : ℕ) → List ℕ
little_endian zero w = []
little_endian (suc n) w = w % 256 ∷ little_endian n (w / 256)

-- the bytes of a word that has two
abbrev pub two_bytes : ℕ → List ℕ
two_bytes w = w % 256 ∷ w / 256 ∷ []

-- a word with one more byte before its others
pub next-bytes : (n rest : ℕ) {w byte : ℕ} {bytes : List ℕ} → w ≡ rest * 256 + byte → byte < 256 → little_endian n rest ≡ bytes
    → little_endian (suc n) w ≡ byte ∷ bytes
next-bytes n rest {w} {byte} e h p =
    let low : w % 256 ≡ byte = omega arith in
    let high : w / 256 ≡ rest = omega arith in
    ap₂ ◌∷◌ low (ap (little_endian n) high ∙ p)

-- below 65536 they are the two lowest
pub two_bytes_lem : (w : ℕ) → w < 65536 → little_endian 2 w ≡ two_bytes w
two_bytes_lem w h =
    let e : w / 256 % 256 ≡ w / 256 = omega arith in
    rw e
