-- Runs that loop (request N8), worked by hand, as one list with one theorem.
use Rattle.std.specs.Prelude.{◌≡◌, refl, List, [], ◌∷◌, ℕ}
use Rattle.lists.specs.All.{all}
use Rattle.lists.specs.Any.{any}
use Rattle.lists.specs.Every.{Every}
use Rattle.rules.specs.TableTest.{node_in, record_good, good, nodes_in}
use Rattle.rules.specs.Reading.{reading}
use Rattle.rules.specs.Reading.Lexer.{spaces, digits, value, is_numeral, token_at, sign_at, number_at}
use Rattle.rules.specs.Reading.Parser.{span_at, parse, parsed}
use Rattle.rules.specs.Evaluation.{truth}
use Rattle.rules.specs.Words.{word_from}
use Rattle.rules.specs.Demands.{Answer, Written}
use Rattle.rules.specs.Demands.Answer.{refused, answered}
use Rattle.rules.specs.Demands.Written.{wrote}
use Rattle.rules.specs.Outcome.{read_outcome, table_checked, run_good, truth_words, evaluate_outcome, rows_outcome}
use Rattle.rules.proofs.WindowExamples.{written, table}

-- A line: a text, a run and the truth words; or a text and what the row writer answers.
pub data Line : Type 0 where
  truths : (T M L : ℕ) (text run gives : List ℕ) → Line
  rows : (T M L : ℕ) (text : List ℕ) (gives : Answer Written) → Line

abbrev pub Shown : Line → Type 0
Shown (truths T M L text run gives) = written (evaluate_outcome T M L (table M text) run 128) ≡ gives
Shown (rows T M L text gives) = rows_outcome T M L (table 1 text) 65536 ≡ gives

abbrev pub lines : List Line
lines =
    -- L 1, T 3: a0 comes round, so `GFa0` holds and `FGa0` does not
    truths 3 2 1 (71 ∷ 70 ∷ 97 ∷ 48 ∷ []) (1 ∷ 0 ∷ 0 ∷ []) (1 ∷ 7 ∷ 7 ∷ []) ∷
    truths 3 2 1 (70 ∷ 71 ∷ 97 ∷ 48 ∷ []) (1 ∷ 0 ∷ 0 ∷ []) (1 ∷ 0 ∷ 0 ∷ []) ∷
    -- with L 3 it does not come again
    truths 3 2 3 (71 ∷ 70 ∷ 97 ∷ 48 ∷ []) (1 ∷ 0 ∷ 0 ∷ []) (1 ∷ 1 ∷ 0 ∷ []) ∷
    -- with L 2 slot 1 does not come again: `Fa0`, `Ga0`
    truths 3 2 2 (70 ∷ 97 ∷ 48 ∷ []) (1 ∷ 0 ∷ 0 ∷ []) (1 ∷ 1 ∷ []) ∷
    truths 3 2 2 (71 ∷ 97 ∷ 48 ∷ []) (0 ∷ 1 ∷ 1 ∷ []) (6 ∷ 6 ∷ []) ∷
    -- `a0Ua1` at slot 3 goes round to slot 1, and with L 2 it does not; a circle of ones does not feed itself
    truths 3 2 1 (97 ∷ 48 ∷ 85 ∷ 97 ∷ 49 ∷ []) (2 ∷ 0 ∷ 1 ∷ []) (4 ∷ 1 ∷ 5 ∷ []) ∷
    truths 3 2 2 (97 ∷ 48 ∷ 85 ∷ 97 ∷ 49 ∷ []) (2 ∷ 0 ∷ 1 ∷ []) (4 ∷ 1 ∷ 1 ∷ []) ∷
    truths 3 2 1 (97 ∷ 48 ∷ 85 ∷ 97 ∷ 49 ∷ []) (1 ∷ 1 ∷ 1 ∷ []) (7 ∷ 0 ∷ 0 ∷ []) ∷
    -- windows wrap: `F[1,1]a1`, `G[1,2]a0`, and a far offset several times
    truths 3 2 1 (70 ∷ 91 ∷ 49 ∷ 44 ∷ 49 ∷ 93 ∷ 97 ∷ 49 ∷ []) (2 ∷ 0 ∷ 0 ∷ []) (1 ∷ 4 ∷ []) ∷
    truths 3 2 2 (71 ∷ 91 ∷ 49 ∷ 44 ∷ 50 ∷ 93 ∷ 97 ∷ 48 ∷ []) (0 ∷ 1 ∷ 1 ∷ []) (6 ∷ 7 ∷ []) ∷
    truths 3 2 2 (70 ∷ 91 ∷ 54 ∷ 51 ∷ 44 ∷ 54 ∷ 51 ∷ 93 ∷ 97 ∷ 49 ∷ []) (0 ∷ 2 ∷ 0 ∷ []) (2 ∷ 5 ∷ []) ∷
    -- the rows of `Fa0` with T 2 and L 1: those of the atom, of V, of F and the goal row
    rows 2 1 1 (70 ∷ 97 ∷ 48 ∷ []) (answered (wrote 13
    (82 ∷ 87 ∷ 2 ∷ 2 ∷ 0 ∷ 1 ∷ 2 ∷ 0 ∷ 255 ∷ 0 ∷ 0 ∷ 82 ∷ 87 ∷ 2 ∷ 2 ∷ 0 ∷ 1 ∷ 3 ∷ 0 ∷ 255 ∷ 1 ∷ 0 ∷ 82 ∷ 87 ∷ 1 ∷ 2 ∷ 0 ∷ 1 ∷ 6 ∷ 0 ∷ 255 ∷ 2 ∷ 0 ∷
    82 ∷ 87 ∷ 1 ∷ 2 ∷ 0 ∷ 1 ∷ 6 ∷ 0 ∷ 255 ∷ 7 ∷ 0 ∷ 82 ∷ 87 ∷ 1 ∷ 3 ∷ 0 ∷ 1 ∷ 2 ∷ 0 ∷ 1 ∷ 7 ∷ 0 ∷ 255 ∷ 6 ∷ 0 ∷
    82 ∷ 87 ∷ 2 ∷ 2 ∷ 0 ∷ 1 ∷ 7 ∷ 0 ∷ 255 ∷ 3 ∷ 0 ∷ 82 ∷ 87 ∷ 1 ∷ 2 ∷ 0 ∷ 1 ∷ 4 ∷ 0 ∷ 255 ∷ 2 ∷ 0 ∷ 82 ∷ 87 ∷ 1 ∷ 2 ∷ 0 ∷ 1 ∷ 4 ∷ 0 ∷ 255 ∷ 5 ∷ 0 ∷
    82 ∷ 87 ∷ 1 ∷ 3 ∷ 0 ∷ 1 ∷ 2 ∷ 0 ∷ 1 ∷ 5 ∷ 0 ∷ 255 ∷ 4 ∷ 0 ∷ 82 ∷ 87 ∷ 1 ∷ 2 ∷ 0 ∷ 1 ∷ 5 ∷ 0 ∷ 255 ∷ 3 ∷ 0 ∷
    82 ∷ 87 ∷ 1 ∷ 2 ∷ 0 ∷ 1 ∷ 5 ∷ 0 ∷ 255 ∷ 6 ∷ 0 ∷ 82 ∷ 87 ∷ 1 ∷ 3 ∷ 0 ∷ 1 ∷ 3 ∷ 0 ∷ 1 ∷ 6 ∷ 0 ∷ 255 ∷ 5 ∷ 0 ∷ 82 ∷ 87 ∷ 2 ∷ 1 ∷ 1 ∷ 1 ∷ 4 ∷ 0 ∷ []))) ∷
    -- the terms of a window go by slot number: at slot 2 they are slot 1, then slot 2
    rows 2 1 1 (70 ∷ 91 ∷ 48 ∷ 44 ∷ 49 ∷ 93 ∷ 97 ∷ 48 ∷ []) (answered (wrote 9
    (82 ∷ 87 ∷ 2 ∷ 2 ∷ 0 ∷ 1 ∷ 2 ∷ 0 ∷ 255 ∷ 0 ∷ 0 ∷ 82 ∷ 87 ∷ 2 ∷ 2 ∷ 0 ∷ 1 ∷ 3 ∷ 0 ∷ 255 ∷ 1 ∷ 0 ∷ 82 ∷ 87 ∷ 1 ∷ 2 ∷ 0 ∷ 1 ∷ 4 ∷ 0 ∷ 255 ∷ 2 ∷ 0 ∷
    82 ∷ 87 ∷ 1 ∷ 2 ∷ 0 ∷ 1 ∷ 4 ∷ 0 ∷ 255 ∷ 3 ∷ 0 ∷ 82 ∷ 87 ∷ 1 ∷ 3 ∷ 0 ∷ 1 ∷ 2 ∷ 0 ∷ 1 ∷ 3 ∷ 0 ∷ 255 ∷ 4 ∷ 0 ∷
    82 ∷ 87 ∷ 1 ∷ 2 ∷ 0 ∷ 1 ∷ 5 ∷ 0 ∷ 255 ∷ 2 ∷ 0 ∷ 82 ∷ 87 ∷ 1 ∷ 2 ∷ 0 ∷ 1 ∷ 5 ∷ 0 ∷ 255 ∷ 3 ∷ 0 ∷
    82 ∷ 87 ∷ 1 ∷ 3 ∷ 0 ∷ 1 ∷ 2 ∷ 0 ∷ 1 ∷ 3 ∷ 0 ∷ 255 ∷ 5 ∷ 0 ∷ 82 ∷ 87 ∷ 2 ∷ 1 ∷ 1 ∷ 1 ∷ 4 ∷ 0 ∷ []))) ∷
    -- with L equal to T there is no V
    rows 1 1 1 (70 ∷ 97 ∷ 48 ∷ []) (answered (wrote 3
    (82 ∷ 87 ∷ 2 ∷ 2 ∷ 0 ∷ 1 ∷ 1 ∷ 0 ∷ 255 ∷ 0 ∷ 0 ∷ 82 ∷ 87 ∷ 2 ∷ 2 ∷ 0 ∷ 1 ∷ 2 ∷ 0 ∷ 255 ∷ 1 ∷ 0 ∷ 82 ∷ 87 ∷ 2 ∷ 1 ∷ 1 ∷ 1 ∷ 2 ∷ 0 ∷ []))) ∷
    -- L above T and L 0 are refused with 13, which comes after 2
    rows 2 1 3 (97 ∷ 48 ∷ []) (refused 13) ∷
    rows 2 1 0 (97 ∷ 48 ∷ []) (refused 13) ∷
    rows 2 17 0 (97 ∷ 48 ∷ []) (refused 2) ∷ []

pub lines-shown : Every Shown lines
unfolding read_outcome reading parsed parse span_at number_at token_at sign_at spaces digits value is_numeral
    evaluate_outcome table_checked good record_good node_in nodes_in all any run_good truth_words word_from truth rows_outcome
lines-shown = (refl, (refl, (refl, (refl, (refl, (refl, (refl, (refl, (refl, (refl, (refl, (refl, (refl, (refl, (refl, (refl, (refl, tt)))))))))))))))))
