-- The reading of a text as a function, and that it is the grammar's: sound, complete, and so by one reading. None of it is trusted.
use Rattle.rules.specs.Reading.{reading, whole}
use Rattle.std.specs.Prelude.{◌≡◌, refl, Bool, true, false, cond, List, [], ◌∷◌, ◌++◌, ℕ, ◌≤◌, length, drop, replicate, ltb}
use Rattle.std.proofs.Common.{sym, ap, ◌∙◌, subst, append-nil, arith, zero-add, drop_of_length-le, drop-drop, ltb-false, le-ltb}
use Rattle.std.proofs.Math.Option.{Option, none, some}
use Rattle.std.proofs.Math.Seq.{drop-length}
use Rattle.lists.specs.Every.{Every}
use Rattle.rules.specs.Rule.{Rule}
use Rattle.rules.specs.Rule.Unary.{not}
use Rattle.rules.specs.Rule.Binary.{and, or, implies, until}
use Rattle.rules.specs.Rule.Rule.{atom, unary, binary}
use Rattle.rules.specs.Grammar.{Says}
use Rattle.rules.specs.Grammar.Level.{of}
use Rattle.rules.specs.Reading.Lexer.{spaces, digits, value, is_numeral, start, token_at, sign_at}
use Rattle.rules.proofs.Reading.Lexer.{token_none, sign-none}
use Rattle.rules.specs.Reading.Parser.{Parsed, parse, parsed}
use Rattle.rules.proofs.Reading.Derivation.{sound, complete, stops_at}
use Rattle.rules.proofs.Reading.Phrases.{placed, worded, all_after, spaces-split}
pub mod Lexer
pub mod Parser
pub mod Derivation
pub mod Numerals
pub mod Phrases

pub reading-complete : (text : List ℕ) (p : Rule) → Says text p → reading text ≡ some p
unfolding reading spaces digits
reading-complete text p d =
    let g = placed d text 0 [] (sym (append-nil text)) refl in
    let end : start text g.next ≡ length text =
    g.ends ∙ omega (arith, ap spaces (ap (λ (k : ℕ). drop k text) (zero-add (length text)) ∙ drop-length text)) in
    let over : length text ≤ start text g.next = omega arith in
    ap (whole text) (complete g.derives
    (stops_at text (of implies) g.next (λ b. sign-none text g.next b (token_none text g.next (start text g.next) refl over))))
    ∙ rw (le-ltb (start text g.next) (length text) over) refl

phrase-whole : (text : List ℕ) (p : Rule) (next : ℕ) → parsed (of implies) text 0 ≡ Parsed.part p next → length text ≤ start text next → Says text p
phrase-whole text p next e over =
    let g = worded (sound (of implies) text 0 p next e) in
    let l = drop next text in
    let k = spaces l in
    let none_left : drop k l ≡ [] = drop-drop k next text ∙ drop_of_length-le text over in
    let tail : l ≡ replicate k 32 = spaces-split l ∙ ap (λ (x : List ℕ). replicate k 32 ++ x) none_left ∙ append-nil (replicate k 32) in
    subst (λ (x : List ℕ). Says x p) (sym (g.splits ∙ ap (λ (x : List ℕ). g.word ++ x) tail)) (all_after k g.phrase)

ended-sound : (text : List ℕ) (p q : Rule) (next : ℕ) (b : Bool) → parsed (of implies) text 0 ≡ Parsed.part q next → ltb (start text next) (length text) ≡ b →
    cond b none (some q) ≡ some p → Says text p
ended-sound text p q next true e f h = let z : ◌≡◌ {A = ℕ} 0 1 = cc in absurd (omega arith)
ended-sound text p q next false e f h =
    let w : q ≡ p = cc in
    subst (Says text) w (phrase-whole text q next e (ltb-false (start text next) (length text) f))

whole-sound : (text : List ℕ) (p : Rule) (x : Parsed) → parsed (of implies) text 0 ≡ x → whole text x ≡ some p → Says text p
whole-sound text p Parsed.fail e h = let z : ◌≡◌ {A = ℕ} 0 1 = cc in absurd (omega arith)
whole-sound text p (Parsed.part q next) e h = ended-sound text p q next (ltb (start text next) (length text)) e refl h

pub reading-sound : (text : List ℕ) (p : Rule) → reading text ≡ some p → Says text p
unfolding reading
reading-sound text p e = whole-sound text p (parsed (of implies) text 0) refl e

-- "exactly the grammar, by one reading"
pub one-reading : (text : List ℕ) (p q : Rule) → Says text p → Says text q → p ≡ q
one-reading text p q a b =
    let e = reading-complete text p a in
    let f = reading-complete text q b in
    cc

decided : (text : List ℕ) (x : Option Rule) → reading text ≡ x → Dec ((p : Rule) × Says text p)
decided text none e = no (λ h. let f = reading-complete text h.0 h.1 in let z : ◌≡◌ {A = ℕ} 0 1 = cc in absurd (omega arith))
decided text (some p) e = yes (p, reading-sound text p e)

pub says? : (text : List ℕ) → Dec ((p : Rule) × Says text p)
says? text = decided text (reading text) refl

-- ---- worked examples

abbrev pub Reads : List ℕ × Option Rule → Type 0
Reads e = reading e.0 ≡ e.1

abbrev pub examples : List (List ℕ × Option Rule)
examples =
    -- `a0&a1|a0`, `a0Ua1Ua0`, `!a0Ua1`, ` ! a0 U a12 `
    (97 ∷ 48 ∷ 38 ∷ 97 ∷ 49 ∷ 124 ∷ 97 ∷ 48 ∷ [], some (binary or (binary and (atom 0) (atom 1)) (atom 0))) ∷
    (97 ∷ 48 ∷ 85 ∷ 97 ∷ 49 ∷ 85 ∷ 97 ∷ 48 ∷ [], some (binary until (atom 0) (binary until (atom 1) (atom 0)))) ∷
    (33 ∷ 97 ∷ 48 ∷ 85 ∷ 97 ∷ 49 ∷ [], some (binary until (unary not (atom 0)) (atom 1))) ∷
    (32 ∷ 33 ∷ 32 ∷ 97 ∷ 48 ∷ 32 ∷ 85 ∷ 32 ∷ 97 ∷ 49 ∷ 50 ∷ 32 ∷ [], some (binary until (unary not (atom 0)) (atom 12))) ∷
    -- `a0 a1`, `a01`, `a 0`, and the empty text
    (97 ∷ 48 ∷ 32 ∷ 97 ∷ 49 ∷ [], none) ∷
    (97 ∷ 48 ∷ 49 ∷ [], none) ∷
    (97 ∷ 32 ∷ 48 ∷ [], none) ∷
    ([], none) ∷
    []

pub examples-read : Every Reads examples
unfolding reading parsed parse token_at sign_at spaces digits value is_numeral
examples-read = (refl, (refl, (refl, (refl, (refl, (refl, (refl, (refl, tt))))))))
