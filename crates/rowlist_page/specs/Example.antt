-- "Input `2 2` and `a0Ua1` prints exactly this", line by line.
use Rattle.std.specs.Prelude.{◌≡◌, refl, List, [], ◌∷◌, ◌++◌, ℕ}
use Rattle.std.proofs.Common.{sym, ◌∙◌, arith}
use Rattle.lists.specs.All.{all}
use Rattle.rules.specs.TableTest.{node_in, record_good, good, nodes_in}
use Rattle.rules.specs.Reading.{reading}
use Rattle.rules.specs.Reading.Lexer.{spaces, digits, value, is_numeral, token_at, sign_at}
use Rattle.rules.specs.Reading.Parser.{parse, parsed}
use Rattle.rules.specs.Outcome.{read_outcome, table_checked, rows_outcome}
use Rattle.text.specs.Decimal.{digits_to, decimal}
use Rattle.rowlist_text.specs.RowText.{terms_text, row_text, rows_text, head_text}
use Rattle.program_input.specs.Scanning.{begin, stepped, steps}
use Rattle.program_rule.specs.Sizes.{text_room}
use Rattle.program_rule.specs.Outcome.{rule_outcome, rule_then}
use Rattle.program_rule.specs.Shown.{shown}
use Rattle.program_rule.specs.Whole.{shown-output}
use Rattle.rowlist_page.specs.Page.{listing, page}
use Rattle.rowlist_page.specs.Exact.{listing-cut}

abbrev pub example_input : List ℕ
example_input = 50 ∷ 32 ∷ 50 ∷ 10 ∷ 97 ∷ 48 ∷ 85 ∷ 97 ∷ 49 ∷ 10 ∷ []

abbrev pub example_page : List ℕ
example_page =
    (114 ∷ 111 ∷ 119 ∷ 115 ∷ 32 ∷ 49 ∷ 48 ∷ 32 ∷ 118 ∷ 97 ∷ 114 ∷ 115 ∷ 32 ∷ 49 ∷ 48 ∷ 10 ∷ []) ++
    ((48 ∷ 32 ∷ 61 ∷ 32 ∷ 48 ∷ 32 ∷ 43 ∷ 52 ∷ 32 ∷ 45 ∷ 48 ∷ 10 ∷ []) ++
    ((49 ∷ 32 ∷ 61 ∷ 32 ∷ 48 ∷ 32 ∷ 43 ∷ 53 ∷ 32 ∷ 45 ∷ 49 ∷ 10 ∷ []) ++
    ((50 ∷ 32 ∷ 61 ∷ 32 ∷ 48 ∷ 32 ∷ 43 ∷ 54 ∷ 32 ∷ 45 ∷ 50 ∷ 10 ∷ []) ++
    ((51 ∷ 32 ∷ 61 ∷ 32 ∷ 48 ∷ 32 ∷ 43 ∷ 55 ∷ 32 ∷ 45 ∷ 51 ∷ 10 ∷ []) ++
    ((52 ∷ 32 ∷ 62 ∷ 61 ∷ 32 ∷ 48 ∷ 32 ∷ 43 ∷ 56 ∷ 32 ∷ 45 ∷ 54 ∷ 10 ∷ []) ++
    ((53 ∷ 32 ∷ 62 ∷ 61 ∷ 32 ∷ 48 ∷ 32 ∷ 43 ∷ 52 ∷ 32 ∷ 43 ∷ 54 ∷ 32 ∷ 45 ∷ 56 ∷ 10 ∷ []) ++
    ((54 ∷ 32 ∷ 62 ∷ 61 ∷ 32 ∷ 48 ∷ 32 ∷ 43 ∷ 54 ∷ 32 ∷ 43 ∷ 57 ∷ 32 ∷ 45 ∷ 56 ∷ 10 ∷ []) ++
    ((55 ∷ 32 ∷ 62 ∷ 61 ∷ 32 ∷ 45 ∷ 49 ∷ 32 ∷ 43 ∷ 56 ∷ 32 ∷ 45 ∷ 52 ∷ 32 ∷ 45 ∷ 57 ∷ 10 ∷ []) ++
    ((56 ∷ 32 ∷ 61 ∷ 32 ∷ 48 ∷ 32 ∷ 43 ∷ 57 ∷ 32 ∷ 45 ∷ 55 ∷ 10 ∷ []) ++
    ((57 ∷ 32 ∷ 61 ∷ 32 ∷ 49 ∷ 32 ∷ 43 ∷ 56 ∷ 10 ∷ [])))))))))))

computed : shown listing (steps text_room begin example_input) ≡ example_page
unfolding shown listing rule_then rule_outcome steps stepped read_outcome reading parsed parse token_at sign_at spaces digits value is_numeral rows_outcome
    table_checked good record_good node_in nodes_in all head_text rows_text row_text terms_text decimal digits_to
computed = refl

pub example : page example_input ≡ example_page
example = sym (shown-output listing listing-cut text_room example_input (omega arith)) ∙ computed
