-- The words of digits: digits before the bytes of a word, whose last bytes go.
use Rattle.std.specs.Prelude.{◌≡◌, refl, List, [], ◌∷◌, ◌++◌, ℕ, zero, suc, ◌-◌, ◌/◌, ◌%◌, ◌≤◌, ◌<◌, length, take, replicate}
use Rattle.std.proofs.Common.{sym, ap, ◌∙◌, append_assoc, arith}
use Rattle.std.proofs.lemmas.List.{take-take, take-replicate}
use Rattle.endian.specs.Words.{little_endian}
use Rattle.text.specs.Decimal.{decimal}
use Rattle.text.specs.DecimalLaws.{pair_text}
use Rattle.text.proofs.DecimalLaws.{decimal-pairs, below_1000000}
use Rattle.mps_line.specs.Fields.{space, padded}

-- the bytes of `rest` with others before them, eight in all
abbrev pub after : (bytes : List ℕ) (rest : ℕ) → List ℕ
after bytes rest = take 8 (bytes ++ little_endian 8 rest)

-- what is cut off twice is cut off once
take-again : (k m : ℕ) (a b : List ℕ) → k ≤ m → take k (a ++ take m b) ≡ take k (a ++ b)
take-again zero m a b h = refl
take-again (suc k) m [] b h = take-take (suc k) m b h
take-again (suc k) m (x ∷ a) b h = ap (λ (l : List ℕ). x ∷ l) (take-again k m a b (omega arith))

-- two digits, and those of the number above them
pub pair-after : (rest n : ℕ) (w : ℕ) → 100 ≤ n → little_endian 8 w ≡ after (pair_text (n % 100)) rest → after (decimal (n / 100)) w ≡ after (decimal n) rest
pair-after rest n w h e =
    let upper : List ℕ = decimal (n / 100) in
    let low : List ℕ = pair_text (n % 100) in
    ap (λ (l : List ℕ). take 8 (upper ++ l)) e ∙ take-again 8 8 upper (low ++ little_endian 8 rest) (omega arith)
    ∙ ap (take 8) (sym (append_assoc upper low (little_endian 8 rest)) ∙ ap (λ (l : List ℕ). l ++ little_endian 8 rest) (sym (decimal-pairs n h)))

-- a text, and spaces in what room there is
take-spaces : (k m : ℕ) (text : List ℕ) → length text ≤ k → k ≤ m → take k (text ++ replicate m space) ≡ padded k text
take-spaces k m [] h g = take-replicate k m space g ∙ ap (λ (n : ℕ). replicate n space) (let e : k ≡ k - 0 = omega arith in e)
take-spaces zero m (x ∷ text) h g = absurd (omega arith)
take-spaces (suc k) m (x ∷ text) h g =
    ap (λ (l : List ℕ). x ∷ l) (take-spaces k m text (omega arith) (omega arith))
    ∙ ap (λ (n : ℕ). x ∷ (text ++ replicate n space)) (omega arith)

-- a letter and the digits of a number before spaces
pub letter-after : (letter n w : ℕ) → n < 1000000 → little_endian 8 w ≡ after (decimal n) 0x2020202020202020 →
    after (letter ∷ []) w ≡ padded 8 (letter ∷ decimal n)
letter-after letter n w h e =
    let spaces : List ℕ = replicate 8 space in
    ap (λ (l : List ℕ). letter ∷ take 7 l) e ∙ ap (λ (l : List ℕ). letter ∷ l) (take-again 7 8 [] (decimal n ++ spaces) (omega arith))
    ∙ take-spaces 8 8 (letter ∷ decimal n) (omega (arith, below_1000000 n h)) (omega arith)
