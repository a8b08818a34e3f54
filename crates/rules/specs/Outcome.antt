-- What each call answers and writes, computed: document 01's tests in order, and then the value and the bytes. The calls' contracts cite these.
use Rattle.std.specs.Prelude.{Bool, true, false, ◌&&◌, List, ◌++◌, ℕ, ◌*◌, ◌^◌, leb, ltb, eqb, length, get_or, drop, ℤ, pos, negsuc}
use Rattle.std.proofs.Math.Option.{Option, none, some}
use Rattle.lists.specs.All.{all}
use Rattle.lists.specs.Tabulate.{tabulate}
use Rattle.rules.specs.Rule.{Rule, size}
use Rattle.rules.specs.Rule.Rule.{atom, unary, binary, windowed}
use Rattle.rules.specs.Reading.{reading}
use Rattle.rules.specs.Table.{Node, table_bytes, nodes_of, rule_at, root}
use Rattle.rules.specs.TableTest.{window_good, good, nodes_in}
use Rattle.rules.specs.Evaluation.{bit_of, truth}
use Rattle.rules.specs.Words.{word_of}
use Rattle.rules.specs.Rows.{variable_count, rows_of, rows_bytes}
use Rattle.rules.specs.Judge.{Verdict}
use Rattle.rules.specs.Verdicts.{verdict}
use Rattle.rules.specs.Demands.{Answer, Written}
use Rattle.rules.specs.Demands.Answer.{refused, answered}
use Rattle.rules.specs.Demands.Written.{wrote}

-- go on where the test passes, and else refuse with k
abbrev pub require : {A : Type 0} → Bool → ℕ → Answer A → Answer A
require true k rest = rest
require false k rest = refused k

-- the answer without the bytes
abbrev pub returned : Answer Written → Answer ℕ
returned (refused k) = refused k
returned (answered (wrote n bytes)) = answered n

-- the lent buffer after the call: "A refusal .. changes no byte. On success, bytes past the output keep their content."
abbrev pub buffer : Answer Written → List ℕ → List ℕ
buffer (refused k) out = out
buffer (answered (wrote n bytes)) out = bytes ++ drop (length bytes) out

abbrev pub between : (low high n : ℕ) → Bool
between low high n = leb low n && leb n high

-- ---- read

abbrev pub atoms_below : ℕ → Rule → Bool
atoms_below M (atom a) = ltb a M
atoms_below M (unary u p) = atoms_below M p
atoms_below M (binary o p q) = atoms_below M p && atoms_below M q
atoms_below M (windowed w a b p) = atoms_below M p

abbrev pub windows_good : Rule → Bool
windows_good (atom a) = true
windows_good (unary u p) = windows_good p
windows_good (binary o p q) = windows_good p && windows_good q
windows_good (windowed w a b p) = window_good a b && windows_good p

-- refusals 5, 12, 6 and 11 of a text's rule, and 4 where it has none
abbrev pub rule_checked : (M room : ℕ) → Option Rule → Answer Written
rule_checked M room none = refused 4
rule_checked M room (some p) =
    require (atoms_below M p) 5
    (require (windows_good p) 12 (require (leb (size p) 128) 6 (require (leb (8 * size p) room) 11 (answered (wrote (size p) (table_bytes (nodes_of p)))))))

unfoldable pub read_outcome : (M : ℕ) (text : List ℕ) (room : ℕ) → Answer Written
read_outcome M text room = require (between 1 16 M) 2 (require (leb (length text) 1024) 3 (rule_checked M room (reading text)))

-- ---- all but read

-- refusals 1, 2, 13 and 7
unfoldable pub table_checked : {A : Type 0} (T M L : ℕ) (table : List ℕ) → Answer A → Answer A
table_checked T M L table rest = require (between 1 64 T) 1 (require (between 1 16 M) 2 (require (between 1 T L) 13 (require (good M table) 7 rest)))

unfoldable pub run_good : (T M : ℕ) → List ℕ → Bool
run_good T M run = eqb (length run) T && all (λ i. ltb (get_or run i 0) (2 ^ M)) (length run)

-- the word of each node, bit t − 1 for slot t
unfoldable pub truth_words : (T L : ℕ) (run : List ℕ) (ns : List Node) → List ℕ
truth_words T L run ns = tabulate (length ns) (λ n. word_of (truth T L run (rule_at ns n)) T)

unfoldable pub evaluate_outcome : (T M L : ℕ) (table run : List ℕ) (room : ℕ) → Answer Written
evaluate_outcome T M L table run room =
    table_checked T M L table
    (require (run_good T M run) 8
    (require (leb (length (nodes_in table)) room) 11
    (answered (wrote (bit_of (truth T L run (rule_at (nodes_in table) (root (nodes_in table))) 1)) (truth_words T L run (nodes_in table))))))

unfoldable pub rows_outcome : (T M L : ℕ) (table : List ℕ) (room : ℕ) → Answer Written
rows_outcome T M L table room =
    table_checked T M L table
    (require (leb (length (rows_bytes (rows_of T M L (nodes_in table)))) room) 11
    (answered (wrote (length (rows_of T M L (nodes_in table))) (rows_bytes (rows_of T M L (nodes_in table))))))

-- "tolerance not 0 to 1,000"
abbrev pub with_tolerance : {A : Type 0} → ℤ → (ℕ → Answer A) → Answer A
with_tolerance (pos e) f = require (leb e 1000) 10 (f e)
with_tolerance (negsuc e) f = refused 10

unfoldable pub judge_outcome : (T M L : ℕ) (table : List ℕ) (figures : List ℤ) (tolerance : ℤ) → Answer Verdict
judge_outcome T M L table figures tolerance =
    table_checked T M L table
    (require (eqb (length figures) (variable_count T M L (nodes_in table))) 9
    (with_tolerance tolerance (λ e. answered (verdict T M L e (nodes_in table) figures))))
