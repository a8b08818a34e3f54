-- The computed text is the one that a rule is printed as, and every other text that says the rule has more bytes.
use Rattle.std.specs.Prelude.{◌≡◌, refl, Bool, true, false, cond, ◌||◌, ◌⊎◌, List, [], ◌∷◌, ◌++◌, ℕ, ◌+◌, ◌≤◌, ◌<◌, ltb, length}
use Rattle.std.proofs.Common.{ap, inl, inr, arith, ne_eqb}
use Rattle.rules.specs.Rule.{Unary, Binary, Window, Rule}
use Rattle.rules.specs.Rule.Unary.{not, eventually, always}
use Rattle.rules.specs.Rule.Binary.{and, or, implies, until}
use Rattle.rules.specs.Rule.Window.{within, throughout}
use Rattle.rules.specs.Rule.Rule.{atom, unary, binary, windowed}
use Rattle.rules.specs.Grammar.{Numeral, Says, sign, prefix, letter}
use Rattle.rules.specs.Grammar.Numeral.{digit, more}
use Rattle.text.specs.Decimal.{decimal}
use Rattle.text.proofs.DecimalLaws.{numeral-decimal}
use Rattle.printer_text.specs.Printed.{how_many, is_space, is_bracket, Printed}
use Rattle.printer_text.specs.Refused.{OneText}
use Rattle.printer_text.specs.Shown.{grade, bracketed, span_text, shown, printed}
use Rattle.printer_text.proofs.Shown.{printed-says}
use Rattle.printer_text.proofs.Compared.{many_append, Compared, no_fewer, compared}

-- ---- it has no space

digits_no_space : {ds : List ℕ} {n : ℕ} → Numeral ds n → how_many is_space ds ≡ 0
digits_no_space (digit {d} h) = let e = ne_eqb (48 + d) 32 (λ z. absurd (omega arith)) in rw e refl
digits_no_space (more {ds} {n} {d} m l h) =
    let e = ne_eqb (48 + d) 32 (λ z. absurd (omega arith)) in
    let f : how_many is_space ((48 + d) ∷ []) ≡ 0 = rw e refl in
    omega (arith, many_append is_space ds ((48 + d) ∷ []), digits_no_space m)

decimal_no_space : (n : ℕ) → how_many is_space (decimal n) ≡ 0
decimal_no_space n = digits_no_space (numeral-decimal n)

prefix_no_space : (u : Unary) → how_many is_space (prefix u ∷ []) ≡ 0
prefix_no_space not = refl
prefix_no_space eventually = refl
prefix_no_space always = refl

letter_no_space : (w : Window) → how_many is_space (letter w ∷ []) ≡ 0
letter_no_space within = refl
letter_no_space throughout = refl

sign_no_space : (o : Binary) → how_many is_space (sign o ∷ []) ≡ 0
sign_no_space implies = refl
sign_no_space or = refl
sign_no_space and = refl
sign_no_space until = refl

bracketed_no_space : (b : Bool) (s : List ℕ) → how_many is_space s ≡ 0 → how_many is_space (bracketed b s) ≡ 0
bracketed_no_space true s h = omega (arith, many_append is_space s (41 ∷ []))
bracketed_no_space false s h = h

span_no_space : (a b : ℕ) → how_many is_space (span_text a b) ≡ 0
span_no_space a b =
    omega (
      arith,
      many_append is_space (decimal a) (44 ∷ (decimal b ++ (93 ∷ []))),
      many_append is_space (decimal b) (93 ∷ []),
      decimal_no_space a,
      decimal_no_space b,
    )

shown_no_space : (p : Rule) (k : ℕ) → how_many is_space (shown k p) ≡ 0
shown_no_space (atom a) k = omega (arith, decimal_no_space a)
shown_no_space (unary u p) k = omega (arith, prefix_no_space u, shown_no_space p 4)
shown_no_space (windowed w a b p) k =
    omega (arith, letter_no_space w, many_append is_space (span_text a b) (shown 4 p), span_no_space a b, shown_no_space p 4)
shown_no_space (binary o p q) k =
    bracketed_no_space (ltb (grade o) k) (shown (grade o + 1) p ++ (sign o ∷ shown (grade o) q))
    (omega (
      arith,
      many_append is_space (shown (grade o + 1) p) (sign o ∷ shown (grade o) q),
      sign_no_space o,
      shown_no_space p (grade o + 1),
      shown_no_space q (grade o),
    ))

-- ---- it has the fewest brackets

pub printed-is : (p : Rule) → Printed p (printed p)
printed-is p = record { says = printed-says p; no_space = shown_no_space p 0; fewest = λ t d. no_fewer (compared d) is_bracket }

-- ---- and no other text is so

is_mark : ℕ → Bool
is_mark b = is_space b || is_bracket b

either_le : (x y : Bool) → (cond (x || y) 1 0 ≤ cond x 1 0 + cond y 1 0) × (cond y 1 0 ≤ cond (x || y) 1 0)
either_le true true = (omega arith, omega arith)
either_le true false = (omega arith, omega arith)
either_le false true = (omega arith, omega arith)
either_le false false = (omega arith, omega arith)

marks : (s : List ℕ) → (how_many is_mark s ≤ how_many is_space s + how_many is_bracket s) × (how_many is_bracket s ≤ how_many is_mark s)
unfolding is_mark
marks [] = (omega arith, omega arith)
marks (b ∷ s) =
    let h = either_le (is_space b) (is_bracket b) in
    let i = marks s in
    (omega (arith, h.0, i.0), omega (arith, h.1, i.1))

pub printed-only : (p : Rule) (s : List ℕ) → Printed p s → s ≡ printed p
unfolding is_mark
printed-only p s x = go (compared x.says)
  where
    go : Compared (printed p) s → s ≡ printed p
    go (Compared.same e) = e
    go (Compared.heavier h) =
        absurd (omega (
          arith,
          h is_mark 1 (omega arith) (omega arith),
          (marks s).0,
          (marks (printed p)).1,
          x.no_space,
          x.fewest (printed p) (printed-says p),
        ))

-- ---- it is the shortest

all-bytes : (s : List ℕ) → how_many (λ b. true) s ≡ length s
all-bytes [] = refl
all-bytes (b ∷ s) = omega (arith, all-bytes s)

pub shortest : (p : Rule) (t : List ℕ) → Says t p → (t ≡ printed p) ⊎ (length (printed p) < length t)
shortest p t d = go (compared d)
  where
    go : Compared (printed p) t → (t ≡ printed p) ⊎ (length (printed p) < length t)
    go (Compared.same e) = inl e
    go (Compared.heavier h) = inr (omega (arith, h (λ b. true) 1 (omega arith) (omega arith), all-bytes t, all-bytes (printed p)))

pub printed-least : (p : Rule) (t : List ℕ) → Says t p → length (printed p) ≤ length t
printed-least p t d = go (shortest p t d)
  where
    go : (t ≡ printed p) ⊎ (length (printed p) < length t) → length (printed p) ≤ length t
    go (inl e) = omega (arith, ap length e)
    go (inr h) = omega arith

pub one-text : OneText
one-text p = (printed p, printed-is p, shortest p)
