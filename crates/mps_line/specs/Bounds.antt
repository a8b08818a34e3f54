-- Bounds on what a page has: how long a line is, how far lines reach, and how many there are.
use Rattle.std.specs.Prelude.{ℕ, ◌+◌, ◌*◌, ◌^◌, ◌≤◌}

-- the numbers of rows and variables are below it: they have at most six digits
abbrev pub number_limit : ℕ
number_limit = 1000000

-- a line has at most this many bytes, its end included
abbrev pub line_limit : ℕ
line_limit = 40

-- the number of a line has at most three digits
abbrev pub coefficient_limit : ℕ
coefficient_limit = 999

-- no page ends behind this place
abbrev pub place_limit : ℕ
place_limit = 2 ^ 40

-- k lines from `at` on end before it
abbrev pub LinesFit : (at k : ℕ) → Type 0
LinesFit at k = at + k * line_limit ≤ place_limit

-- ---- how many lines there are at most, in ROWS, in RHS, or in one column: one for each row

-- of a node at a slot: without a window; and with one, which has a row for each slot and one more
abbrev pub plain_lines : ℕ
plain_lines = 4

abbrev pub slot_lines : ℕ
slot_lines = 65

-- of a node's own slacks or its V's, at 64 slots; and of both
abbrev pub block_lines : ℕ
block_lines = 64 * slot_lines

abbrev pub node_lines : ℕ
node_lines = 2 * block_lines

-- of 128 nodes; and with the goal row's
abbrev pub nodes_lines : ℕ
nodes_lines = 128 * node_lines

abbrev pub table_lines : ℕ
table_lines = nodes_lines + 1

-- ---- the columns, 64 of each part: an atom, a node or a V

abbrev pub part_lines : ℕ
part_lines = 64 * table_lines

-- 16 atoms and 128 nodes; the V's of 128 nodes; and all of them
abbrev pub own_parts : ℕ
own_parts = 16 + 128

abbrev pub kept_parts : ℕ
kept_parts = 128

abbrev pub all_parts : ℕ
all_parts = own_parts + kept_parts

-- the nodes of a table have at most this many rows: at each slot 72, the V's included
abbrev pub row_limit : ℕ
row_limit = 128 * (64 * 72)
