-- How many bytes a page has, by the nodes of its table.
use Rattle.std.specs.Prelude.{◌≡◌, refl, Bool, cond, true, false, List, [], ◌∷◌, ℕ, ◌+◌, ◌-◌, ◌*◌, ◌≤◌, ◌<◌, ltb, pos, length}
use Rattle.std.proofs.Common.{sym, ◌∙◌, arith, length-append}
use Rattle.std.proofs.Math.Path.{ap}
use Rattle.std.proofs.Math.Nat.{mul_comm, mul-le-mul}
use Rattle.lists.specs.Place.{place_lt}
use Rattle.rules.specs.Table.{Node, NodeGood, node_at, root}
use Rattle.rules.specs.Rows.{looping, slack_count, variable_count, slack_rows, goal_row, rows_of}
use Rattle.rules.proofs.RowCount.{rows-count}
use Rattle.rules.specs.TableTest.{record_count, nodes_in}
use Rattle.rules.proofs.TableTest.{length-nodes_in}
use Rattle.table.specs.Checks.{Ready}
use Rattle.table.specs.Looping.{looping-few, looping-all}
use Rattle.row.specs.NodeRows.{rows_to, all-parts}
use Rattle.mps.specs.Page.{page}
use Rattle.mps_length.specs.Digits.{digit_sum}
use Rattle.mps_length.specs.Terms.{single, size-one}
use Rattle.mps_length.specs.RowSizes.{weight, weight-append}
use Rattle.mps_length.specs.Blocks.{all-variables}
use Rattle.mps_length.specs.Measured.{Measured}
use Rattle.mps_length.specs.Sections.{page-sections}
use Rattle.mps_length.specs.Idle.{idle_atoms, idle-all}

-- with so many rows, such a size of their lines in COLUMNS and RHS, and so many variables in no row, of atoms, and slacks
unfoldable pub page_size : (rows lines idle atoms slacks : ℕ) → ℕ
page_size rows lines idle atoms slacks = 45 + 6 * rows + digit_sum rows + lines + 26 * idle + 16 * atoms + digit_sum atoms + 26 * slacks

module _ (T M L : ℕ) (ns : List Node) (0<T : 1 ≤ T) (T≤64 : T ≤ 64) (M≤16 : M ≤ 16) (some : 1 ≤ length ns) (few : length ns ≤ 128)
    (good : (n : ℕ) → n < length ns → NodeGood M n (node_at ns n)) where
  abbrev N : ℕ
  N = length ns

  abbrev n : ℕ
  n = variable_count T M L ns

  -- the goal row's two lines
  goal-weight : weight n (goal_row T M ns ∷ []) ≡ 52
  goal-weight =
      let k = cond (ltb L T) (looping ns) 0 in
      let h : (M + root ns) * T + 0 < (M + (N + k)) * T = place_lt (omega arith) 0<T in
      omega (arith, single n ((M + root ns) * T + (1 - 1)) (omega (arith, all-variables T M L ns)) (pos 1), size-one)

  all-weight : weight n (rows_of T M L ns) ≡ weight n (rows_to T M L ns N) + 52
  all-weight = omega (arith, weight-append n (slack_rows T M L ns) (goal_row T M ns ∷ []), goal-weight, ap (weight n) (all-parts T M L ns N refl))

  all-rows : length (rows_of T M L ns) ≡ length (rows_to T M L ns N) + 1
  all-rows = omega (arith, length-append (slack_rows T M L ns) (goal_row T M ns ∷ []), ap length (all-parts T M L ns N refl))

  few-slacks : slack_count T L ns ≤ 256 * 64
  few-slacks = mul-le-mul {n₂ = 256} {m₂ = 64} (go (ltb L T)) T≤64
    where
      go : (c : Bool) → N + cond c (looping ns) 0 ≤ 256
      go true = omega (arith, looping-few ns N, looping-all ns)
      go false = omega arith

  pub page-size : {lines idle : ℕ} → lines ≡ weight n (rows_to T M L ns N) → idle ≡ idle_atoms ns N M * T →
      page_size (length (rows_to T M L ns N) + 1) (lines + 52) idle (M * T) (slack_count T L ns) ≡ length (page T M L ns)
  unfolding page page_size
  page-size e f =
      let rs = rows_of T M L ns in
      let a : M * T ≤ 16 * 64 = mul-le-mul {n₂ = 16} {m₂ = 64} M≤16 T≤64 in
      let k : N * T ≤ 128 * 64 = mul-le-mul {n₂ = 128} {m₂ = 64} few T≤64 in
      let r : (T + 8) * (N * T) ≤ 72 * 8192 = mul-le-mul {n₂ = 72} {m₂ = 8192} (omega arith) (omega arith) in
      let b = page-sections (M * T) (slack_count T L ns) rs (omega (arith, few-slacks)) (omega (arith, rows-count T M L ns)) in
      omega (arith, b, e, f, all-weight, all-rows, ap digit_sum all-rows, idle-all T M L ns good, mul_comm T (idle_atoms ns N M))

  -- by numbers that a walk over the nodes of a table of k nodes found
  page-is : (k : ℕ) {rows lines idle atoms slacks : ℕ} → k ≡ N → Measured T M L ns k rows lines → idle ≡ idle_atoms ns k M * T → atoms ≡ M * T →
      slacks ≡ (k + cond (ltb L T) (looping ns) 0) * T → page_size (rows + 1) (lines + 52) idle atoms slacks ≡ length (page T M L ns)
  page-is k e m c d f = rw (m.rows_are, m.lines_are, c, d, f, e) (page-size refl refl)

pub page-found : (T M L : ℕ) (table : List ℕ) → Ready T M L table → (k : ℕ) {rows lines idle atoms slacks : ℕ} → k ≡ record_count table →
    Measured T M L (nodes_in table) k rows lines → idle ≡ idle_atoms (nodes_in table) k M * T → atoms ≡ M * T →
    slacks ≡ (k + cond (ltb L T) (looping (nodes_in table)) 0) * T → page_size (rows + 1) (lines + 52) idle atoms slacks ≡ length (page T M L (nodes_in table))
page-found T M L table y k e m c d f =
    let z = length-nodes_in M table in
    page-is T M L (nodes_in table) y.slots-low y.slots-high y.atoms-high (omega (arith, y.some-nodes)) (omega (arith, y.few-nodes))
    (λ n h. y.nodes n (omega arith)) k (e ∙ sym z) m c d f
