-- The records of a rule's table, part by part, as the reader writes them: the left part, the right part, then the node.
use Rattle.rules.specs.RuleRecords.{records_from}
use Rattle.std.specs.Prelude.{◌≡◌, List, [], ◌∷◌, ◌++◌, ℕ, ◌+◌, ◌-◌, ◌≤◌, length}
use Rattle.std.proofs.Common.{sym, ap, ap₂, ◌∙◌, append_assoc, append-nil, arith}
use Rattle.rules.specs.Rule.{Rule, size, height, AtomsBelow, WindowsAllowed}
use Rattle.rules.specs.Rule.Rule.{atom, unary, binary, windowed}
use Rattle.rules.specs.Table.{Node, nodes_from, nodes_of, node_at, rule_at, height_at, node_bytes, table_from, table_bytes}
use Rattle.rules.specs.TableRules.{NodesGood}
use Rattle.rules.proofs.TableRules.{Has, has_left, has_right, stands, length-nodes_from, nodes-good}

from-append : (ns : List Node) (n c : ℕ) (a b : List Node) → length a ≡ c → table_from ns n (a ++ b) ≡ table_from ns n a ++ table_from ns (n + c) b
from-append ns n c [] b e = ap (λ (k : ℕ). table_from ns k b) (omega arith)
from-append ns n c (nd ∷ a) b e =
    let f : n + 1 + (c - 1) ≡ n + c = omega arith in
    ap (λ (l : List ℕ). node_bytes (height_at ns n) nd ++ l)
    (from-append ns (n + 1) (c - 1) a b (omega arith) ∙ ap (λ (k : ℕ). table_from ns (n + 1) a ++ table_from ns k b) f)
    ∙ sym (append_assoc (node_bytes (height_at ns n) nd) (table_from ns (n + 1) a) (table_from ns (n + c) b))

module _ (M : ℕ) (ns : List Node) (good : NodesGood M ns) where
  -- the record of the top node of a rule
  top_record : (p : Rule) (k n : ℕ) (nd : Node) → Has ns k (nodes_from k p) → k + size p ≤ length ns → k + size p - 1 ≡ n →
      table_from ns n (nd ∷ []) ≡ node_bytes (height p) nd
  top_record p k n nd h u e =
      append-nil (node_bytes (height_at ns n) nd)
      ∙ ap (λ (r : Rule). node_bytes (height r) nd) (ap (rule_at ns) (sym e) ∙ stands M ns good p k h u)

  records-are : (p : Rule) (k : ℕ) → Has ns k (nodes_from k p) → k + size p ≤ length ns → table_from ns k (nodes_from k p) ≡ records_from k p
  records-are (atom a) k h u = top_record (atom a) k k (Node.atom a) h u (omega arith)
  records-are (unary v p) k h u =
      let top = Node.unary v (k + size p - 1) in
      from-append ns k (size p) (nodes_from k p) (top ∷ []) (length-nodes_from k p)
      ∙ ap₂ ◌++◌ (records-are p k (has_left ns k (nodes_from k p) (top ∷ []) h) (omega arith)) (top_record (unary v p) k (k + size p) top h u (omega arith))
  records-are (windowed w a b p) k h u =
      let top = Node.windowed w a b (k + size p - 1) in
      from-append ns k (size p) (nodes_from k p) (top ∷ []) (length-nodes_from k p)
      ∙ ap₂ ◌++◌ (records-are p k (has_left ns k (nodes_from k p) (top ∷ []) h) (omega arith))
      (top_record (windowed w a b p) k (k + size p) top h u (omega arith))
  records-are (binary o p q) k h u =
      let top = Node.binary o (k + size p - 1) (k + size p + size q - 1) in
      let behind = nodes_from (k + size p) q ++ (top ∷ []) in
      let right = has_right ns k (size p) (nodes_from k p) behind (length-nodes_from k p) h in
      from-append ns k (size p) (nodes_from k p) behind (length-nodes_from k p)
      ∙ ap₂ ◌++◌ (records-are p k (has_left ns k (nodes_from k p) behind h) (omega arith))
      (from-append ns (k + size p) (size q) (nodes_from (k + size p) q) (top ∷ []) (length-nodes_from (k + size p) q)
      ∙ ap₂ ◌++◌ (records-are q (k + size p) (has_left ns (k + size p) (nodes_from (k + size p) q) (top ∷ []) right) (omega arith))
      (top_record (binary o p q) k (k + size p + size q) top h u (omega arith)))

-- the table of a rule that gives no ground to refuse
pub rule-records : (M : ℕ) (p : Rule) → AtomsBelow M p → WindowsAllowed p → table_bytes (nodes_of p) ≡ records_from 0 p
rule-records M p h i =
    records-are M (nodes_of p) (nodes-good M p h i) p 0 (λ j u. ap (node_at (nodes_of p)) (omega arith)) (omega (arith, length-nodes_from 0 p))
