-- What the writer of the columns puts of a plan, and the variable that it looks for.
use Rattle.std.specs.Prelude.{◌≡◌, true, List, ℕ, ◌*◌, ◌+◌, ◌<◌, length, get_or}
use Rattle.lists.specs.Flat.{flat}
use Rattle.rules.specs.Table.{node_at}
use Rattle.rules.specs.Rows.{Row, loops, rows_of}
use Rattle.rules.specs.TableTest.{nodes_in}
use Rattle.mps.specs.Page.{column_lines}
use Rattle.mps_line.specs.Bounds.{number_limit}
use Rattle.mps_users.specs.Users.{kept_part, user_text}
use Rattle.table.specs.declared.plan.Plan.{Plan}
use Rattle.mps_columns.specs.Parts.{part_text}
use Rattle.mps_columns.specs.declared.Variable.{Variable}

-- the rows
abbrev pub plan_rows : Plan → List Row
plan_rows p = rows_of p.t p.m p.l (nodes_in p.table.now)

-- the lines of the variables of part x
abbrev pub planned_part : Plan → (x : ℕ) → List ℕ
planned_part p x = part_text p.t (column_lines (plan_rows p)) x

-- the lines of variable v in the rows of a node, and of the nodes listed
abbrev pub planned_user : Plan → (v n : ℕ) → List ℕ
planned_user p v n = user_text p.t p.m p.l (nodes_in p.table.now) v n

abbrev pub planned_users : Plan → (users : List ℕ) (v : ℕ) → List ℕ
planned_users p users v = flat (λ j. planned_user p v (get_or users j 0)) (length users)

-- x is the part of node n's V, which it has
abbrev pub KeptPart : Plan → (n x : ℕ) → Type 0
KeptPart p n x = (x ≡ kept_part p.m (nodes_in p.table.now) n) × (loops (node_at (nodes_in p.table.now) n) ≡ true)

-- v is the variable of some part at slot s + 1
abbrev pub AtSlot : (T s v : ℕ) → Type 0
AtSlot T s v = (x : ℕ) × (v ≡ x * T + s)

abbrev pub Slotted : (T : ℕ) → Variable → Type 0
Slotted T x = (x.v < number_limit) × (x.s < T) × AtSlot T x.s x.v
