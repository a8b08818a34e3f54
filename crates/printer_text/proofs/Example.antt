-- Worked examples: rules as they are pasted, and as they are printed.
use Rattle.std.specs.Prelude.{◌≡◌, refl, List, [], ◌∷◌, ℕ}
use Rattle.std.proofs.Math.Option.{Option, none, some}
use Prim.Native.String.{String}
use Rattle.lists.specs.Every.{Every}
use Rattle.rules.specs.Rule.{Rule}
use Rattle.rules.specs.Reading.{reading}
use Rattle.rules.specs.Reading.Lexer.{spaces, digits, value, is_numeral, token_at, number_at, sign_at}
use Rattle.rules.specs.Reading.Parser.{parse, parsed, span_at}
use Rattle.text.specs.Decimal.{digits_to, decimal}
use Rattle.text.specs.Literals.{bytes}
use Rattle.printer_text.specs.Shown.{printed}

abbrev printed_back : Option Rule → Option (List ℕ)
printed_back none = none
printed_back (some p) = some (printed p)

abbrev pub Prints : String × String → Type 0
Prints e = printed_back (reading (bytes e.0)) ≡ some (bytes e.1)

abbrev pub examples : List (String × String)
examples =
    (" ( ( a0 ) ) ", "a0") ∷
    ("((a0)U(a1))U(a0)", "(a0Ua1)Ua0") ∷
    ("(a0)U((a1)U(a0))", "a0Ua1Ua0") ∷
    ("(a0>a1)>a2", "(a0>a1)>a2") ∷
    ("a0>(a1>a2)", "a0>a1>a2") ∷
    ("((a0&a1)|a2)>(a0)", "a0&a1|a2>a0") ∷
    ("a0&(a1|(a2>a0))", "a0&(a1|(a2>a0))") ∷
    ("!(a0) & !(a0 U a1)", "!a0&!(a0Ua1)") ∷
    ("G (F [ 0 , 12 ] (a15))", "GF[0,12]a15") ∷
    []

pub examples-print : Every Prints examples
unfolding reading parsed parse token_at sign_at spaces digits value is_numeral span_at number_at decimal digits_to
examples-print = (refl, (refl, (refl, (refl, (refl, (refl, (refl, (refl, (refl, tt)))))))))
