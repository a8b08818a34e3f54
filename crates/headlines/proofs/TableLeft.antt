-- The table that a call of the reader leaves in its buffer, as it is handed on to the next call.
use Rattle.std.specs.Prelude.{◌≡◌, refl, List, ℕ, ◌*◌, ◌≤◌, length, take, drop}
use Rattle.std.proofs.Common.{sym, ap, ◌∙◌, arith, length-append, length-drop, take_at}
use Rattle.rules.specs.Rule.{Rule, size}
use Rattle.rules.specs.Table.{table_bytes, nodes_of}
use Rattle.rules.proofs.TableRules.{length-nodes_from}
use Rattle.rules.proofs.TableTest.{length-table}
use Rattle.rules.specs.Refusals.{ReadRefused}
use Rattle.rules.specs.Demands.Answer.{answered}
use Rattle.rules.specs.Outcome.{returned, buffer, read_outcome}
use Rattle.rules.proofs.Exactness.Tests.{at_least}
use Rattle.rules.specs.Exactness.Unrefused.{Unrefused}
use Rattle.rules.proofs.Exactness.Unrefused.{unrefused}
use Rattle.headlines.specs.Demand2.{Holding}
use Rattle.headlines.specs.Demand3.{TableRead}
use Rattle.headlines.proofs.Answering.{reader-answers}

pub table-long : (p : Rule) → length (table_bytes (nodes_of p)) ≡ 8 * size p
table-long p = length-table (nodes_of p) ∙ omega (arith, length-nodes_from 0 p)

-- what stands at the start of a buffer
pub held : (k : ℕ) (bytes out out' : List ℕ) → Holding bytes out out' → length bytes ≡ k → take k out' ≡ bytes
held k bytes out out' h e = ap (take k) h ∙ take_at bytes (drop (length bytes) out) k e

-- and the buffer keeps its length
pub kept-long : (bytes out out' : List ℕ) → Holding bytes out out' → length bytes ≤ length out → length out' ≡ length out
kept-long bytes out out' h u =
    ap length h ∙ length-append bytes (drop (length bytes) out) ∙ omega (arith, length-drop (length bytes) out)

pub record TableLeft (m : ℕ) (text table table' : List ℕ) (n : ℕ) : Type 0 where
  pub rule : Rule
  pub nodes : n ≡ size rule
  pub read : TableRead m text table table' rule
  pub handed : take (8 * n) table' ≡ table_bytes (nodes_of rule)
  pub holds : Unrefused m text rule
  -- a table that was read has room
  pub room : (8 * n ≤ length table) × (length table' ≡ length table)

pub table-left : (m : ℕ) (text table table' : List ℕ) → table' ≡ buffer (read_outcome m text (length table)) table →
    (n : ℕ) → answered n ≡ returned (read_outcome m text (length table)) → TableLeft m text table table' n
table-left m text table table' left n e =
    let (none, (p, says, nodes, holds)) = (reader-answers m text (answered n) table table' e left n).0 refl in
    let fits : 8 * n ≤ length table = at_least (length table) (8 * n) (λ h. none 11 (ReadRefused.short says (omega (arith, nodes)))) in
    record {
      rule = p;
      nodes = nodes;
      read = (none, says, holds);
      handed = held (8 * n) (table_bytes (nodes_of p)) table table' holds (table-long p ∙ ap (λ (i : ℕ). 8 * i) (sym nodes));
      holds = unrefused m text (λ k x. none k (ReadRefused.text-refused x)) p says;
      room = (fits, kept-long (table_bytes (nodes_of p)) table table' holds (omega (arith, table-long p, nodes)));
    }
