-- Windows of request N4, worked by hand, as one list with one theorem; L is T.
use Rattle.std.specs.Prelude.{◌≡◌, refl, List, [], ◌∷◌, ℕ, drop}
use Rattle.lists.specs.All.{all}
use Rattle.lists.specs.Any.{any}
use Rattle.lists.specs.Every.{Every}
use Rattle.rules.specs.TableTest.{node_in, record_good, good, nodes_in}
use Rattle.rules.specs.Reading.{reading}
use Rattle.rules.specs.Reading.Lexer.{spaces, digits, value, is_numeral, token_at, sign_at, number_at}
use Rattle.rules.specs.Reading.Parser.{span_at, parse, parsed}
use Rattle.rules.specs.Evaluation.{truth}
use Rattle.rules.specs.Words.{word_from}
use Rattle.rules.specs.Demands.{Answer, Written}
use Rattle.rules.specs.Demands.Answer.{refused, answered}
use Rattle.rules.specs.Demands.Written.{wrote}
use Rattle.rules.specs.Outcome.{read_outcome, table_checked, run_good, truth_words, evaluate_outcome, rows_outcome}

-- A line: a text, the room for its table, and what the reader answers; a text, a run and the truth words; or a text, the row count and the row records.
pub data Line : Type 0 where
  reads : (M : ℕ) (text : List ℕ) (room : ℕ) (gives : Answer Written) → Line
  truths : (T M : ℕ) (text run gives : List ℕ) → Line
  rows : (T M : ℕ) (text : List ℕ) (count : ℕ) (gives : List ℕ) → Line

abbrev pub written : Answer Written → List ℕ
written (refused k) = []
written (answered (wrote n bytes)) = bytes

-- the table that the reader writes; 1024 bytes are room enough for any
abbrev pub table : ℕ → List ℕ → List ℕ
table M text = written (read_outcome M text 1024)

abbrev pub Shown : Line → Type 0
Shown (reads M text room gives) = read_outcome M text room ≡ gives
Shown (truths T M text run gives) = written (evaluate_outcome T M T (table M text) run 128) ≡ gives
Shown (rows T M text count gives) = rows_outcome T M T (table M text) 65536 ≡ answered (wrote count gives)

abbrev pub lines : List Line
lines =
    -- `F[0,5]a0`: kinds 1 and 9, the window 0, 5 and the heights 0 and 1
    reads 2 (70 ∷ 91 ∷ 48 ∷ 44 ∷ 53 ∷ 93 ∷ 97 ∷ 48 ∷ []) 1024
    (answered (wrote 2 (78 ∷ 68 ∷ 1 ∷ 0 ∷ 0 ∷ 0 ∷ 0 ∷ 0 ∷ 78 ∷ 68 ∷ 9 ∷ 0 ∷ 0 ∷ 0 ∷ 5 ∷ 1 ∷ []))) ∷
    -- ` G [ 1 , 12 ] a1 `: spaces about every token
    reads 2 (32 ∷ 71 ∷ 32 ∷ 91 ∷ 32 ∷ 49 ∷ 32 ∷ 44 ∷ 32 ∷ 49 ∷ 50 ∷ 32 ∷ 93 ∷ 32 ∷ 97 ∷ 49 ∷ 32 ∷ []) 1024
    (answered (wrote 2 (78 ∷ 68 ∷ 1 ∷ 1 ∷ 0 ∷ 0 ∷ 0 ∷ 0 ∷ 78 ∷ 68 ∷ 10 ∷ 0 ∷ 0 ∷ 1 ∷ 12 ∷ 1 ∷ []))) ∷
    -- `G[0,0]F[1,63]!a0`
    reads 2 (71 ∷ 91 ∷ 48 ∷ 44 ∷ 48 ∷ 93 ∷ 70 ∷ 91 ∷ 49 ∷ 44 ∷ 54 ∷ 51 ∷ 93 ∷ 33 ∷ 97 ∷ 48 ∷ []) 1024 (answered (wrote 4
    (78 ∷ 68 ∷ 1 ∷ 0 ∷ 0 ∷ 0 ∷ 0 ∷ 0 ∷ 78 ∷ 68 ∷ 2 ∷ 0 ∷ 0 ∷ 0 ∷ 0 ∷ 1 ∷ 78 ∷ 68 ∷ 9 ∷ 1 ∷ 0 ∷ 1 ∷ 63 ∷ 2 ∷ 78 ∷ 68 ∷ 10 ∷ 2 ∷ 0 ∷ 0 ∷ 0 ∷ 3 ∷ []))) ∷
    -- refused with 4: `F[1 0,5]a0`, `F[01,2]a0`, `![0,1]a0`, `F[1,2 a0`
    reads 2 (70 ∷ 91 ∷ 49 ∷ 32 ∷ 48 ∷ 44 ∷ 53 ∷ 93 ∷ 97 ∷ 48 ∷ []) 1024 (refused 4) ∷
    reads 2 (70 ∷ 91 ∷ 48 ∷ 49 ∷ 44 ∷ 50 ∷ 93 ∷ 97 ∷ 48 ∷ []) 1024 (refused 4) ∷
    reads 2 (33 ∷ 91 ∷ 48 ∷ 44 ∷ 49 ∷ 93 ∷ 97 ∷ 48 ∷ []) 1024 (refused 4) ∷
    reads 2 (70 ∷ 91 ∷ 49 ∷ 44 ∷ 50 ∷ 32 ∷ 97 ∷ 48 ∷ []) 1024 (refused 4) ∷
    -- `F[1,0]a9` is refused with 5, and `F[1,0]a0`, `F[0,64]a0` and `G[18446744073709551616,0]a0` with 12
    reads 2 (70 ∷ 91 ∷ 49 ∷ 44 ∷ 48 ∷ 93 ∷ 97 ∷ 57 ∷ []) 1024 (refused 5) ∷
    reads 2 (70 ∷ 91 ∷ 49 ∷ 44 ∷ 48 ∷ 93 ∷ 97 ∷ 48 ∷ []) 1024 (refused 12) ∷
    reads 2 (70 ∷ 91 ∷ 48 ∷ 44 ∷ 54 ∷ 52 ∷ 93 ∷ 97 ∷ 48 ∷ []) 1024 (refused 12) ∷
    reads 2 (71 ∷ 91 ∷ 49 ∷ 56 ∷ 52 ∷ 52 ∷ 54 ∷ 55 ∷ 52 ∷ 52 ∷ 48 ∷ 55 ∷ 51 ∷ 55 ∷ 48 ∷ 57 ∷ 53 ∷ 53 ∷ 49 ∷ 54 ∷ 49 ∷ 54 ∷ 44 ∷ 48 ∷ 93 ∷ 97 ∷ 48 ∷ [])
    1024 (refused 12) ∷
    -- 12 comes before 11, which is the one left
    reads 2 (70 ∷ 91 ∷ 49 ∷ 44 ∷ 48 ∷ 93 ∷ 97 ∷ 48 ∷ []) 15 (refused 12) ∷
    reads 2 (70 ∷ 91 ∷ 48 ∷ 44 ∷ 49 ∷ 93 ∷ 97 ∷ 48 ∷ []) 15 (refused 11) ∷
    -- the words of the part and of the window: `F[1,1]a1`, `F[0,5]a1`, `G[0,1]a0`, `G[1,2]a0`, `F[0,1]G[0,1]a0`
    truths 3 2 (70 ∷ 91 ∷ 49 ∷ 44 ∷ 49 ∷ 93 ∷ 97 ∷ 49 ∷ []) (0 ∷ 2 ∷ 0 ∷ []) (2 ∷ 1 ∷ []) ∷
    truths 3 2 (70 ∷ 91 ∷ 48 ∷ 44 ∷ 53 ∷ 93 ∷ 97 ∷ 49 ∷ []) (0 ∷ 2 ∷ 0 ∷ []) (2 ∷ 3 ∷ []) ∷
    truths 3 2 (71 ∷ 91 ∷ 48 ∷ 44 ∷ 49 ∷ 93 ∷ 97 ∷ 48 ∷ []) (1 ∷ 1 ∷ 0 ∷ []) (3 ∷ 1 ∷ []) ∷
    truths 3 2 (71 ∷ 91 ∷ 49 ∷ 44 ∷ 50 ∷ 93 ∷ 97 ∷ 48 ∷ []) (0 ∷ 1 ∷ 1 ∷ []) (6 ∷ 7 ∷ []) ∷
    truths 3 2 (70 ∷ 91 ∷ 48 ∷ 44 ∷ 49 ∷ 93 ∷ 71 ∷ 91 ∷ 48 ∷ 44 ∷ 49 ∷ 93 ∷ 97 ∷ 48 ∷ []) (0 ∷ 1 ∷ 1 ∷ []) (6 ∷ 6 ∷ 7 ∷ []) ∷
    -- the rows of `F[0,1]a0` and `G[0,1]a0` with T 2, and of `F[0,0]a0` with T 1, which has no = row but the atom's
    rows 2 1 (70 ∷ 91 ∷ 48 ∷ 44 ∷ 49 ∷ 93 ∷ 97 ∷ 48 ∷ []) 8
    (82 ∷ 87 ∷ 2 ∷ 2 ∷ 0 ∷ 1 ∷ 2 ∷ 0 ∷ 255 ∷ 0 ∷ 0 ∷ 82 ∷ 87 ∷ 2 ∷ 2 ∷ 0 ∷ 1 ∷ 3 ∷ 0 ∷ 255 ∷ 1 ∷ 0 ∷ 82 ∷ 87 ∷ 1 ∷ 2 ∷ 0 ∷ 1 ∷ 4 ∷ 0 ∷ 255 ∷ 2 ∷ 0 ∷
    82 ∷ 87 ∷ 1 ∷ 2 ∷ 0 ∷ 1 ∷ 4 ∷ 0 ∷ 255 ∷ 3 ∷ 0 ∷ 82 ∷ 87 ∷ 1 ∷ 3 ∷ 0 ∷ 1 ∷ 2 ∷ 0 ∷ 1 ∷ 3 ∷ 0 ∷ 255 ∷ 4 ∷ 0 ∷
    82 ∷ 87 ∷ 1 ∷ 2 ∷ 0 ∷ 1 ∷ 5 ∷ 0 ∷ 255 ∷ 3 ∷ 0 ∷ 82 ∷ 87 ∷ 1 ∷ 2 ∷ 0 ∷ 1 ∷ 3 ∷ 0 ∷ 255 ∷ 5 ∷ 0 ∷ 82 ∷ 87 ∷ 2 ∷ 1 ∷ 1 ∷ 1 ∷ 4 ∷ 0 ∷ []) ∷
    rows 2 1 (71 ∷ 91 ∷ 48 ∷ 44 ∷ 49 ∷ 93 ∷ 97 ∷ 48 ∷ []) 8
    (82 ∷ 87 ∷ 2 ∷ 2 ∷ 0 ∷ 1 ∷ 2 ∷ 0 ∷ 255 ∷ 0 ∷ 0 ∷ 82 ∷ 87 ∷ 2 ∷ 2 ∷ 0 ∷ 1 ∷ 3 ∷ 0 ∷ 255 ∷ 1 ∷ 0 ∷ 82 ∷ 87 ∷ 1 ∷ 2 ∷ 0 ∷ 1 ∷ 2 ∷ 0 ∷ 255 ∷ 4 ∷ 0 ∷
    82 ∷ 87 ∷ 1 ∷ 2 ∷ 0 ∷ 1 ∷ 3 ∷ 0 ∷ 255 ∷ 4 ∷ 0 ∷ 82 ∷ 87 ∷ 1 ∷ 3 ∷ 255 ∷ 1 ∷ 4 ∷ 0 ∷ 255 ∷ 2 ∷ 0 ∷ 255 ∷ 3 ∷ 0 ∷
    82 ∷ 87 ∷ 1 ∷ 2 ∷ 0 ∷ 1 ∷ 3 ∷ 0 ∷ 255 ∷ 5 ∷ 0 ∷ 82 ∷ 87 ∷ 1 ∷ 2 ∷ 0 ∷ 1 ∷ 5 ∷ 0 ∷ 255 ∷ 3 ∷ 0 ∷ 82 ∷ 87 ∷ 2 ∷ 1 ∷ 1 ∷ 1 ∷ 4 ∷ 0 ∷ []) ∷
    rows 1 1 (70 ∷ 91 ∷ 48 ∷ 44 ∷ 48 ∷ 93 ∷ 97 ∷ 48 ∷ []) 4
    (82 ∷ 87 ∷ 2 ∷ 2 ∷ 0 ∷ 1 ∷ 1 ∷ 0 ∷ 255 ∷ 0 ∷ 0 ∷ 82 ∷ 87 ∷ 1 ∷ 2 ∷ 0 ∷ 1 ∷ 2 ∷ 0 ∷ 255 ∷ 1 ∷ 0 ∷ 82 ∷ 87 ∷ 1 ∷ 2 ∷ 0 ∷ 1 ∷ 1 ∷ 0 ∷ 255 ∷ 2 ∷ 0 ∷
    82 ∷ 87 ∷ 2 ∷ 1 ∷ 1 ∷ 1 ∷ 2 ∷ 0 ∷ []) ∷ []

pub lines-shown : Every Shown lines
unfolding read_outcome reading parsed parse span_at number_at token_at sign_at spaces digits value is_numeral evaluate_outcome table_checked good record_good
    node_in nodes_in all any run_good truth_words word_from truth rows_outcome
lines-shown =
    let rest : Every Shown (drop 11 lines) = (refl, (refl, (refl, (refl, (refl, (refl, (refl, (refl, (refl, (refl, tt)))))))))) in
    (refl, (refl, (refl, (refl, (refl, (refl, (refl, (refl, (refl, (refl, (refl, rest)))))))))))
