-- The text of a rule, computed: brackets stand where the rule's own operator is looser than the level that is wanted. None of it is trusted.
use Rattle.printer_text.specs.Shown.{bracketed, grade, printed, shown}
use Rattle.std.specs.Prelude.{◌≡◌, refl, Bool, true, false, List, ℕ, ◌+◌, ◌≤◌, ◌<◌, ltb}
use Rattle.std.proofs.Common.{subst, arith, ltb-false}
use Rattle.rules.specs.Rule.{Binary, Rule}
use Rattle.rules.specs.Rule.Binary.{and, or, implies, until}
use Rattle.rules.specs.Rule.Rule.{atom, unary, binary, windowed}
use Rattle.rules.specs.Grammar.{Level, Phrase, Span, Number, Says, tighter}
use Rattle.rules.specs.Grammar.Level.{of, single}
use Rattle.text.specs.Decimal.{decimal}
use Rattle.text.proofs.DecimalLaws.{numeral-decimal}

abbrev pub grade_of : Level → ℕ
grade_of (of o) = grade o
grade_of single = 4

-- ---- it says the rule

pub tighter-grade : (o : Binary) → grade_of (tighter o) ≡ grade o + 1
tighter-grade implies = refl
tighter-grade or = refl
tighter-grade and = refl
tighter-grade until = refl

grade_lt : (o : Binary) → grade o < 4
grade_lt implies = omega arith
grade_lt or = omega arith
grade_lt and = omega arith
grade_lt until = omega arith

-- a Single is a phrase of each level
loosen : {s : List ℕ} {p : Rule} → Phrase single s p → (l : Level) → Phrase l s p
loosen d single = d
loosen d (of until) = Phrase.alone d
loosen d (of and) = Phrase.alone (Phrase.alone d)
loosen d (of or) = Phrase.alone (Phrase.alone (Phrase.alone d))
loosen d (of implies) = Phrase.alone (Phrase.alone (Phrase.alone (Phrase.alone d)))

-- a phrase of a level is one of each looser
raise : {s : List ℕ} {p : Rule} (o i : Binary) → grade i ≤ grade o → Phrase (of o) s p → Phrase (of i) s p
raise implies implies h d = d
raise implies or h d = absurd (omega arith)
raise implies and h d = absurd (omega arith)
raise implies until h d = absurd (omega arith)
raise or implies h d = Phrase.alone d
raise or or h d = d
raise or and h d = absurd (omega arith)
raise or until h d = absurd (omega arith)
raise and implies h d = Phrase.alone (Phrase.alone d)
raise and or h d = Phrase.alone d
raise and and h d = d
raise and until h d = absurd (omega arith)
raise until implies h d = Phrase.alone (Phrase.alone (Phrase.alone d))
raise until or h d = Phrase.alone (Phrase.alone d)
raise until and h d = Phrase.alone d
raise until until h d = d

raise-to : {s : List ℕ} {p : Rule} (o : Binary) (l : Level) → grade_of l ≤ grade o → Phrase (of o) s p → Phrase l s p
raise-to o (of i) h d = raise o i h d
raise-to o single h d = absurd (omega (arith, grade_lt o))

-- with brackets where they are wanted
closed : {s : List ℕ} {p : Rule} (o : Binary) (l : Level) (b : Bool) → ltb (grade o) (grade_of l) ≡ b → Phrase (of o) s p → Phrase l (bracketed b s) p
closed o l true e d = loosen (Phrase.bracket (raise o implies (omega arith) d)) l
closed o l false e d = raise-to o l (ltb-false (grade o) (grade_of l) e) d

number_is : (n : ℕ) → Number (decimal n) n
number_is n = Number.numeral (numeral-decimal n)

pub shown-says : (p : Rule) (l : Level) → Phrase l (shown (grade_of l) p) p
shown-says (atom a) l = loosen (Phrase.number (numeral-decimal a)) l
shown-says (unary u p) l = loosen (Phrase.prefixed (shown-says p single)) l
shown-says (windowed w a b p) l = loosen (Phrase.timed (Span.span (number_is a) (number_is b)) (shown-says p single)) l
shown-says (binary o p q) l =
    closed o l (ltb (grade o) (grade_of l)) refl
    (Phrase.joined (subst (λ (k : ℕ). Phrase (tighter o) (shown k p) p) (tighter-grade o) (shown-says p (tighter o))) (shown-says q (of o)))

pub printed-says : (p : Rule) → Says (printed p) p
printed-says p = shown-says p (of implies)
