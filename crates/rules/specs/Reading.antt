-- The reading of a text as a function, and that it is the grammar's: sound, complete, and so by one reading. None of it is trusted.
use Rattle.std.specs.Prelude.{◌≡◌, refl, Bool, true, false, cond, List, [], ◌∷◌, ◌++◌, ℕ, ◌≤◌, length, drop, replicate, ltb}
use Rattle.std.proofs.Common.{sym, ap, ◌∙◌, subst, append-nil, arith, zero-add, drop_of_length-le, drop-drop, ltb-false, le-ltb}
use Rattle.std.proofs.Math.Option.{Option, none, some}
use Rattle.std.proofs.Math.Seq.{drop-length}
use Rattle.lists.specs.Every.{Every}
use Rattle.rules.specs.Rule.{Rule}
use Rattle.rules.specs.Rule.Unary.{not}
use Rattle.rules.specs.Rule.Binary.{and, or, implies, until}
use Rattle.rules.specs.Rule.Rule.{atom, unary, binary}
use Rattle.rules.specs.Grammar.{Says}
use Rattle.rules.specs.Grammar.Level.{of}
use Rattle.rules.specs.Reading.Lexer.{spaces, digits, value, is_numeral, start, token_at, sign_at}
use Rattle.rules.specs.Reading.Parser.{Parsed, parse, parsed}
pub mod Lexer
pub mod Parser

-- a phrase is a whole text where only spaces stand behind it
abbrev pub whole : List ℕ → Parsed → Option Rule
whole text Parsed.fail = none
whole text (Parsed.part p next) = cond (ltb (start text next) (length text)) none (some p)

-- the rule that a text says
unfoldable pub reading : List ℕ → Option Rule
reading text = whole text (parsed (of implies) text 0)
