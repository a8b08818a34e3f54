-- Every text that says a rule is the computed one, or has all its bytes and a space or a pair of brackets more.
use Rattle.std.specs.Prelude.{◌≡◌, refl, Bool, true, false, cond, List, [], ◌∷◌, ◌++◌, ℕ, ◌+◌, ◌≤◌, ltb}
use Rattle.std.proofs.Common.{sym, ap, ap₂, subst, arith, le_refl, le-ltb, lt-ltb, ltb-true}
use Rattle.rules.specs.Rule.{Binary, Rule}
use Rattle.rules.specs.Rule.Binary.{and, or, implies, until}
use Rattle.rules.specs.Rule.Rule.{atom, unary, binary, windowed}
use Rattle.rules.specs.Grammar.{Level, Phrase, Span, Number, tighter, sign, prefix, letter}
use Rattle.text.specs.Decimal.{decimal}
use Rattle.text.proofs.DecimalLaws.{decimal-only}
use Rattle.printer_text.specs.Printed.{how_many}
use Rattle.printer_text.specs.Shown.{grade, bracketed, span_text, shown}
use Rattle.printer_text.proofs.Shown.{grade_of, tighter-grade}

pub many_append : (sort : ℕ → Bool) (s t : List ℕ) → how_many sort (s ++ t) ≡ how_many sort s + how_many sort t
many_append sort [] t = omega arith
many_append sort (b ∷ s) t = omega (arith, many_append sort s t)

-- of every sort, t has as many bytes as s, and d more where a space, and a pair of brackets, are d of that sort
abbrev Heavier : (s t : List ℕ) → Type 0
Heavier s t =
    (sort : ℕ → Bool) (d : ℕ) → d ≤ cond (sort 32) 1 0 → d ≤ cond (sort 40) 1 0 + cond (sort 41) 1 0 → how_many sort s + d ≤ how_many sort t

pub data Compared (s t : List ℕ) : Type 0 where
  same : t ≡ s → Compared s t
  heavier : Heavier s t → Compared s t

pub no_fewer : {s t : List ℕ} → Compared s t → (sort : ℕ → Bool) → how_many sort s ≤ how_many sort t
no_fewer {s} {t} (Compared.same e) sort = omega (arith, ap (how_many sort) e)
no_fewer (Compared.heavier h) sort = omega (arith, h sort 0 (omega arith) (omega arith))

compared-append : {a b c d : List ℕ} → Compared a b → Compared c d → Compared (a ++ c) (b ++ d)
compared-append (Compared.same e) (Compared.same f) = Compared.same (ap₂ ◌++◌ e f)
compared-append {a} {b} {c} {d} (Compared.same e) (Compared.heavier h) =
    Compared.heavier (λ sort n u v. omega (arith, h sort n u v, ap (how_many sort) e, many_append sort a c, many_append sort b d))
compared-append {a} {b} {c} {d} (Compared.heavier h) g =
    Compared.heavier (λ sort n u v. omega (arith, h sort n u v, no_fewer g sort, many_append sort a c, many_append sort b d))

compared_trans : {a b c : List ℕ} → Compared a b → Compared b c → Compared a c
compared_trans {a} {b} {c} (Compared.same e) g = subst (λ (x : List ℕ). Compared x c) e g
compared_trans (Compared.heavier h) g = Compared.heavier (λ sort n u v. omega (arith, h sort n u v, no_fewer g sort))

-- what a text and another one have in common
alike : {s : List ℕ} → Compared s s
alike = Compared.same refl

spaced-before : {s t : List ℕ} → Compared s t → Compared s (32 ∷ t)
spaced-before g = Compared.heavier (λ sort n u v. omega (arith, no_fewer g sort))

spaced-after : {s t : List ℕ} → Compared s t → Compared s (t ++ (32 ∷ []))
spaced-after {s} {t} g = Compared.heavier (λ sort n u v. omega (arith, no_fewer g sort, many_append sort t (32 ∷ [])))

-- ---- brackets

bracketed-more : (s : List ℕ) → Compared s (bracketed true s)
bracketed-more s = Compared.heavier (λ sort n u v. omega (arith, many_append sort s (41 ∷ [])))

bracketed_le : (b c : Bool) (s : List ℕ) → (b ≡ true → c ≡ true) → Compared (bracketed b s) (bracketed c s)
bracketed_le true true s h = alike
bracketed_le true false s h = let e : ◌≡◌ {A = Bool} false true = h refl in let z : ◌≡◌ {A = ℕ} 0 1 = cc in absurd (omega arith)
bracketed_le false true s h = bracketed-more s
bracketed_le false false s h = alike

bracketed-both : {s t : List ℕ} → Compared s t → Compared (bracketed true s) (bracketed true t)
bracketed-both g = compared-append {a = 40 ∷ []} {b = 40 ∷ []} alike (compared-append g alike)

-- a tighter level
shown_looser : (p : Rule) (j k : ℕ) → j ≤ k → Compared (shown j p) (shown k p)
shown_looser (atom a) j k h = alike
shown_looser (unary u p) j k h = alike
shown_looser (windowed w a b p) j k h = alike
shown_looser (binary o p q) j k h =
    bracketed_le (ltb (grade o) j) (ltb (grade o) k) (shown (grade o + 1) p ++ (sign o ∷ shown (grade o) q))
    (λ e. lt-ltb (grade o) k (omega (arith, ltb-true (grade o) j e)))

-- a Single against a whole rule in brackets
shown-single : (p : Rule) → Compared (shown 4 p) (bracketed true (shown 0 p))
shown-single (atom a) = bracketed-more (shown 0 (atom a))
shown-single (unary u p) = bracketed-more (shown 0 (unary u p))
shown-single (windowed w a b p) = bracketed-more (shown 0 (windowed w a b p))
shown-single (binary implies p q) = alike
shown-single (binary or p q) = alike
shown-single (binary and p q) = alike
shown-single (binary until p q) = alike

-- the rule's own level wants no brackets
shown-own : (o : Binary) (p q : Rule) → shown (grade o) (binary o p q) ≡ shown (grade o + 1) p ++ (sign o ∷ shown (grade o) q)
shown-own o p q =
    ap (λ (b : Bool). bracketed b (shown (grade o + 1) p ++ (sign o ∷ shown (grade o) q))) (le-ltb (grade o) (grade o) (le_refl (grade o)))

-- ---- windows

number-compared : {s : List ℕ} {n : ℕ} → Number s n → Compared (decimal n) s
number-compared (Number.numeral d) = Compared.same (decimal-only d)
number-compared (Number.space-before d) = spaced-before (number-compared d)
number-compared (Number.space-after d) = spaced-after (number-compared d)

span-compared : {s : List ℕ} {a b : ℕ} → Span s a b → Compared (span_text a b) s
span-compared (Span.span {s} {t} {a} {b} c d) =
    compared-append {a = 91 ∷ []} {b = 91 ∷ []} alike
    (compared-append (number-compared c)
    (compared-append {a = 44 ∷ []} {b = 44 ∷ []} alike (compared-append (number-compared d) alike)))
span-compared (Span.space-before d) = spaced-before (span-compared d)

-- ---- every phrase

pub compared : {l : Level} {s : List ℕ} {p : Rule} → Phrase l s p → Compared (shown (grade_of l) p) s
compared (Phrase.alone {o} {s} {p} d) =
    compared_trans (shown_looser p (grade o) (grade_of (tighter o)) (omega (arith, tighter-grade o))) (compared d)
compared (Phrase.joined {o} {s} {t} {p} {q} d e) =
    subst (λ (x : List ℕ). Compared x (s ++ (sign o ∷ t))) (sym (shown-own o p q))
    (compared-append (subst (λ (k : ℕ). Compared (shown k p) s) (tighter-grade o) (compared d))
    (compared-append {a = sign o ∷ []} {b = sign o ∷ []} alike (compared e)))
compared (Phrase.prefixed {u} d) = compared-append {a = prefix u ∷ []} {b = prefix u ∷ []} alike (compared d)
compared (Phrase.timed {w} c d) =
    compared-append {a = letter w ∷ []} {b = letter w ∷ []} alike (compared-append (span-compared c) (compared d))
compared (Phrase.number n) = Compared.same (ap (λ (ds : List ℕ). 97 ∷ ds) (decimal-only n))
compared (Phrase.bracket {s} {p} d) = compared_trans (shown-single p) (bracketed-both (compared d))
compared (Phrase.space-before d) = spaced-before (compared d)
compared (Phrase.space-after d) = spaced-after (compared d)
