-- What the walk over the nodes finds: how many rows there are, and how many bytes their lines in COLUMNS and RHS have.
use Rattle.std.specs.Prelude.{◌≡◌, List, ℕ, ◌+◌, ◌*◌, ◌≤◌, ◌<◌, eqb, length}
use Rattle.std.proofs.Common.{sym, ap, ap₂, ◌∙◌, arith, length-append}
use Rattle.std.proofs.Math.Path.{subst⁻¹}
use Rattle.rules.specs.Table.{Node, NodeGood}
use Rattle.rules.specs.TableTest.{record_count, nodes_in}
use Rattle.rules.proofs.TableTest.{length-nodes_in}
use Rattle.rules.specs.Rows.{variable_count}
use Rattle.table.specs.Nodes.{NodeRead}
use Rattle.table.specs.Checks.{Ready}
use Rattle.table.specs.declared.Node as Table
use Rattle.row.specs.Kinds.{Allowed, allowed, left_block}
use Rattle.row.specs.NodeRows.{node_count, part_rows, rows_to, rows_none, rows_more, length_part}
use Rattle.mps_length.specs.RowSizes.{weight, weight-append}
use Rattle.mps_length.specs.Nodes.{node_weight, Sized, sized_as, part-weight}

-- of node i
abbrev pub NodeMeasured : (T M L : ℕ) (ns : List Node) (i rows lines : ℕ) → Type 0
NodeMeasured T M L ns i rows lines = Sized (length (part_rows T M L ns i)) (weight (variable_count T M L ns) (part_rows T M L ns i)) rows lines

-- of the first k nodes
pub record Measured (T M L : ℕ) (ns : List Node) (k rows lines : ℕ) : Type 0 where
  pub rows_are : rows ≡ length (rows_to T M L ns k)
  pub lines_are : lines ≡ weight (variable_count T M L ns) (rows_to T M L ns k)
  pub few : rows ≤ 4160 * k
  pub short : lines ≤ 340000 * k

module _ (T M L : ℕ) (ns : List Node) where
  abbrev n : ℕ
  n = variable_count T M L ns

  pub measured_none : Measured T M L ns 0 0 0
  measured_none = record {
    rows_are = ap length (sym (rows_none T M L ns));
    lines_are = ap (weight n) (sym (rows_none T M L ns));
    few = omega arith;
    short = omega arith;
  }

  pub measured_more : (k : ℕ) {rows lines more bytes : ℕ} → Measured T M L ns k rows lines → NodeMeasured T M L ns k more bytes →
      Measured T M L ns (k + 1) (rows + more) (lines + bytes)
  measured_more k m d = record {
    rows_are =
        ap₂ ◌+◌ m.rows_are d.rows_are ∙ sym (length-append (rows_to T M L ns k) (part_rows T M L ns k)) ∙ ap length (sym (rows_more T M L ns k));
    lines_are =
        ap₂ ◌+◌ m.lines_are d.lines_are ∙ sym (weight-append n (rows_to T M L ns k) (part_rows T M L ns k)) ∙ ap (weight n) (sym (rows_more T M L ns k));
    few = omega (arith, m.few, d.few);
    short = omega (arith, m.short, d.short);
  }

-- by the node's record
module _ (T M L : ℕ) (table : List ℕ) (ready : Ready T M L table) (i : ℕ) (h : i < record_count table) (nd : Table.Node) (read : NodeRead table i nd) where
  abbrev ns : List Node
  ns = nodes_in table

  pub window-allowed : Allowed nd.kind nd.from nd.to
  window-allowed =
      allowed M i nd.kind nd.left nd.right nd.from nd.to (subst⁻¹ (NodeGood M i) read.is (ready.nodes i h))

  pub node_measured : {p q rows lines : ℕ} → p ≡ left_block nd.kind M nd.left * T → q ≡ (M + nd.right) * T →
      Sized (node_count nd.kind T L nd.from nd.to) (node_weight nd.kind (eqb p q) T L nd.from nd.to) rows lines →
      NodeMeasured T M L ns i rows lines
  node_measured e f s =
      let inside : i < length ns = omega (arith, length-nodes_in M table) in
      sized_as (sym (length_part T M L ns i nd read.is ready.slots-low))
      (ap₂ (λ (x y : ℕ). node_weight nd.kind (eqb x y) T L nd.from nd.to) e f
      ∙ sym (part-weight T M L ns i nd read.is ready.slots-low inside (ready.nodes i h))) s
