-- "Rows", with windows (request N4) and a loop slot L (request N8): the linear rows of a table, their records, and what it is for numerators to meet a row.
use Rattle.std.specs.Prelude.{◌≡◌, Bool, true, false, cond, ◌&&◌, ◌||◌, List, [], ◌∷◌, ◌++◌, map, ℕ, zero, suc, ◌+◌, ◌-◌, ◌*◌, ◌/◌, ◌%◌, eqb, leb, ltb, length, get_or, take, drop, ℤ, pos, negsuc, neg_ℤ, ◌+ℤ◌, ◌*ℤ◌, ◌≤ℤ◌}
use Rattle.lists.specs.Any.{any}
use Rattle.lists.specs.Passing.{passing}
use Rattle.rules.specs.Rule.{Unary, Binary, Window}
use Rattle.rules.specs.Rule.Unary.{not, eventually, always}
use Rattle.rules.specs.Rule.Binary.{and, or, implies, until}
use Rattle.rules.specs.Rule.Window.{within, throughout}
use Rattle.rules.specs.Table.{Node, root}
use Rattle.rules.specs.Table.Node.{atom, unary, binary, windowed}
use Rattle.rules.specs.Truth.{slot_of}

pub data Relation : Type 0 where
  at_least equal : Relation

pub record Term : Type 0 where
  pub coefficient : ℤ
  pub variable : ℕ

pub record Row : Type 0 where
  pub relation : Relation
  pub terms : List Term
  pub right : ℤ

-- "Atom a at slot t is variable a·T + t − 1. Node n at slot t is variable (M + n)·T + t − 1; these are the slacks."
-- (A slack is an auxiliary variable, for the truth of a part at a slot.)
abbrev pub atom_variable : (T a t : ℕ) → ℕ
atom_variable T a t = a * T + (t - 1)

abbrev pub slack : (T M n t : ℕ) → ℕ
slack T M n t = (M + n) * T + (t - 1)

-- Request N8: "each node of kinds 6, 7 and 8 gets a second set of slacks V",
abbrev pub unary_loops : Unary → Bool
unary_loops not = false
unary_loops eventually = true
unary_loops always = true

abbrev pub binary_loops : Binary → Bool
binary_loops and = false
binary_loops or = false
binary_loops implies = false
binary_loops until = true

abbrev pub loops : Node → Bool
loops (atom a) = false
loops (unary u c) = unary_loops u
loops (binary o l r) = binary_loops o
loops (windowed w a b c) = false

-- how many of some nodes do
abbrev pub looping : List Node → ℕ
looping [] = 0
looping (nd ∷ ns) = cond (loops nd) (suc (looping ns)) (looping ns)

-- "one per slot, numbered on after the nodes in node order": the V of node n at slot t
abbrev pub loop_slack : (T M : ℕ) → List Node → (n t : ℕ) → ℕ
loop_slack T M ns n t = (M + (length ns + looping (take n ns))) * T + (t - 1)

-- "With L equal to T everything is as it was .. Otherwise": how many slacks there are, and how many variables
abbrev pub slack_count : (T L : ℕ) → List Node → ℕ
slack_count T L ns = (length ns + cond (ltb L T) (looping ns) 0) * T

abbrev pub variable_count : (T M L : ℕ) → List Node → ℕ
variable_count T M L ns = M * T + slack_count T L ns

-- ---- "rows at slot t, in this order". "P is the node, p left, q right (for an atom node, p is the atom's variable), at slot t; P' is the node at t + 1."

abbrev pub plus : ℕ → Term
plus v = record { coefficient = pos 1; variable = v }

abbrev pub minus : ℕ → Term
minus v = record { coefficient = negsuc 0; variable = v }

-- a row that ends in ≥ b, and one that ends in = b
abbrev pub ge : List Term → ℤ → Row
ge ts b = record { relation = at_least; terms = ts; right = b }

abbrev pub eq : List Term → ℤ → Row
eq ts b = record { relation = equal; terms = ts; right = b }

-- "P − p = 0"
abbrev pub same_rows : (P p : ℕ) → List Row
same_rows P p = eq (plus P ∷ minus p ∷ []) (pos 0) ∷ []

-- "P + p = 1"
abbrev pub not_rows : (P p : ℕ) → List Row
not_rows P p = eq (plus P ∷ plus p ∷ []) (pos 1) ∷ []

-- "p − P ≥ 0; q − P ≥ 0; P − p − q ≥ −1"
abbrev pub and_rows : (P p q : ℕ) → List Row
and_rows P p q = ge (plus p ∷ minus P ∷ []) (pos 0) ∷ ge (plus q ∷ minus P ∷ []) (pos 0) ∷ ge (plus P ∷ minus p ∷ minus q ∷ []) (negsuc 0) ∷ []

-- "P − p ≥ 0; P − q ≥ 0; p + q − P ≥ 0"
abbrev pub or_rows : (P p q : ℕ) → List Row
or_rows P p q = ge (plus P ∷ minus p ∷ []) (pos 0) ∷ ge (plus P ∷ minus q ∷ []) (pos 0) ∷ ge (plus p ∷ plus q ∷ minus P ∷ []) (pos 0) ∷ []

-- "P + p ≥ 1; P − q ≥ 0; q − p − P ≥ −1"
abbrev pub implies_rows : (P p q : ℕ) → List Row
implies_rows P p q = ge (plus P ∷ plus p ∷ []) (pos 1) ∷ ge (plus P ∷ minus q ∷ []) (pos 0) ∷ ge (plus q ∷ minus p ∷ minus P ∷ []) (negsuc 0) ∷ []

-- "P − q ≥ 0; p + q − P ≥ 0; q + P' − P ≥ 0; P − p − P' ≥ −1"
abbrev pub until_rows : (P p q P' : ℕ) → List Row
until_rows P p q P' =
    ge (plus P ∷ minus q ∷ []) (pos 0) ∷
    ge (plus p ∷ plus q ∷ minus P ∷ []) (pos 0) ∷
    ge (plus q ∷ plus P' ∷ minus P ∷ []) (pos 0) ∷
    ge (plus P ∷ minus p ∷ minus P' ∷ []) (negsuc 0) ∷ []

-- Kinds 2, 6 and 7; `inner` is whether t < T. At t < T kind 6 has the rows of "or" over p and P', kind 7 those of "and".
-- At "6 and 7, t = T" the row is "P − p = 0".
abbrev pub unary_rows : Unary → (inner : Bool) → (P p P' : ℕ) → List Row
unary_rows not inner P p P' = not_rows P p
unary_rows eventually inner P p P' = cond inner (or_rows P p P') (same_rows P p)
unary_rows always inner P p P' = cond inner (and_rows P p P') (same_rows P p)

-- Kinds 3, 4, 5 and 8. At "8, t = T" the row is "P − q = 0".
abbrev pub binary_rows : Binary → (inner : Bool) → (P p q P' : ℕ) → List Row
binary_rows and inner P p q P' = and_rows P p q
binary_rows or inner P p q P' = or_rows P p q
binary_rows implies inner P p q P' = implies_rows P p q
binary_rows until inner P p q P' = cond inner (until_rows P p q P') (same_rows P q)

-- Request N4. Whether slot s is one that the window of a, b looks at from slot t: "slots t + a to t + b", by the slots of these times
abbrev pub in_window : (T L t a b s : ℕ) → Bool
in_window T L t a b s = any (λ j. leb a j && eqb (slot_of T L (t + j)) s) (b + 1)

-- "the different slots of the window, k of them, lowest slot first both in rows and in terms"
abbrev pub window_slots : (T L t a b : ℕ) → List ℕ
window_slots T L t a b = passing (in_window T L t a b) T 1

-- Kinds 9 and 10; `p s` is the part at slot s, and `ss` has the slots of the window. "F has P − p(s) ≥ 0 for each s, then the sum of all p(s),
-- less P, ≥ 0. G has p(s) − P ≥ 0 for each s, then P less all p(s) ≥ −(k − 1)."
abbrev pub window_rows : Window → (P : ℕ) → (p : ℕ → ℕ) → (ss : List ℕ) → List Row
window_rows within P p ss =
    map (λ s. ge (plus P ∷ minus (p s) ∷ []) (pos 0)) ss ++ (ge (map (λ s. plus (p s)) ss ++ (minus P ∷ [])) (pos 0) ∷ [])
window_rows throughout P p ss =
    map (λ s. ge (plus (p s) ∷ minus P ∷ []) (pos 0)) ss ++ (ge (plus P ∷ map (λ s. minus (p s)) ss) (neg_ℤ (pos (length ss - 1))) ∷ [])

-- Request N8: "P has the rows for t < T at every slot, and at T its P' is V at L." With L equal to T, slot T has its own rows.
abbrev pub goes_on : (T L t : ℕ) → Bool
goes_on T L t = ltb t T || ltb L T

abbrev pub next_slack : (T M L : ℕ) → List Node → (n t : ℕ) → ℕ
next_slack T M L ns n t = cond (ltb t T) (slack T M n (t + 1)) (loop_slack T M ns n L)

-- the rows of node n at slot t, of the table ns
abbrev pub rows_at : (T M L : ℕ) → List Node → (n : ℕ) → Node → (t : ℕ) → List Row
rows_at T M L ns n (atom a) t = same_rows (slack T M n t) (atom_variable T a t)
rows_at T M L ns n (unary u c) t = unary_rows u (goes_on T L t) (slack T M n t) (slack T M c t) (next_slack T M L ns n t)
rows_at T M L ns n (binary o l r) t = binary_rows o (goes_on T L t) (slack T M n t) (slack T M l t) (slack T M r t) (next_slack T M L ns n t)
rows_at T M L ns n (windowed w a b c) t = window_rows w (slack T M n t) (slack T M c) (window_slots T L t a b)

-- "V has the rows that P had until now."
abbrev pub loop_rows_at : (T M : ℕ) → List Node → (n : ℕ) → Node → (t : ℕ) → List Row
loop_rows_at T M ns n (atom a) t = []
loop_rows_at T M ns n (unary u c) t = cond (unary_loops u) (unary_rows u (ltb t T) (loop_slack T M ns n t) (slack T M c t) (loop_slack T M ns n (t + 1))) []
loop_rows_at T M ns n (binary o l r) t =
    cond (binary_loops o) (binary_rows o (ltb t T) (loop_slack T M ns n t) (slack T M l t) (slack T M r t) (loop_slack T M ns n (t + 1))) []
loop_rows_at T M ns n (windowed w a b c) t = []

-- "Nodes run in number order, slots within a node, rows within a slot.": k slots from slot t on
abbrev pub slots_rows : (ℕ → List Row) → (k t : ℕ) → List Row
slots_rows f zero t = []
slots_rows f (suc k) t = f t ++ slots_rows f k (t + 1)

-- "All of a node's V rows, by slot, come before its P rows."
abbrev pub node_rows : (T M L : ℕ) → List Node → (n : ℕ) → Node → List Row
node_rows T M L ns n nd = cond (ltb L T) (slots_rows (loop_rows_at T M ns n nd) T 1) [] ++ slots_rows (rows_at T M L ns n nd) T 1

-- the nodes from node n on
abbrev pub nodes_rows : (T M L : ℕ) → List Node → (n : ℕ) → List Node → List Row
nodes_rows T M L ns n [] = []
nodes_rows T M L ns n (nd ∷ l) = node_rows T M L ns n nd ++ nodes_rows T M L ns (n + 1) l

-- every row but the goal row
abbrev pub slack_rows : (T M L : ℕ) → List Node → List Row
slack_rows T M L ns = nodes_rows T M L ns 0 ns

-- "Last comes the goal row: root at slot 1 = 1."
abbrev pub goal_row : (T M : ℕ) → List Node → Row
goal_row T M ns = eq (plus (slack T M (root ns) 1) ∷ []) (pos 1)

abbrev pub rows_of : (T M L : ℕ) → List Node → List Row
rows_of T M L ns = slack_rows T M L ns ++ (goal_row T M ns ∷ [])

-- ---- "A row record has ..: mark 52 57 (hexadecimal), relation (1 for ≥, 2 for =), term count, right side as a signed byte,
-- then .. terms of a signed coefficient byte and a 16-bit variable, low byte first." Request N4: "Row records now end after their last term,
-- so a row is 5 bytes and 3 per term."

abbrev pub relation_byte : Relation → ℕ
relation_byte at_least = 1
relation_byte equal = 2

-- "Signed bytes are two's complement, so −1 is hexadecimal FF."
abbrev pub signed_byte : ℤ → ℕ
signed_byte (pos n) = n
signed_byte (negsuc n) = 255 - n

abbrev pub term_bytes : Term → List ℕ
term_bytes t = signed_byte t.coefficient ∷ t.variable % 256 ∷ t.variable / 256 ∷ []

-- "Terms stand in the order written above"
abbrev pub terms_bytes : List Term → List ℕ
terms_bytes [] = []
terms_bytes (t ∷ ts) = term_bytes t ++ terms_bytes ts

abbrev pub row_bytes : Row → List ℕ
row_bytes r = 0x52 ∷ 0x57 ∷ relation_byte r.relation ∷ length r.terms ∷ signed_byte r.right ∷ terms_bytes r.terms

abbrev pub rows_bytes : List Row → List ℕ
rows_bytes [] = []
rows_bytes (r ∷ rs) = row_bytes r ++ rows_bytes rs

-- ---- what a record says, read back

abbrev pub relation_in : ℕ → Relation
relation_in b = cond (eqb b 1) at_least equal

abbrev pub signed_in : ℕ → ℤ
signed_in b = cond (ltb b 128) (pos b) (negsuc (255 - b))

abbrev pub terms_in : ℕ → List ℕ → List Term
terms_in zero b = []
terms_in (suc n) b = record { coefficient = signed_in (get_or b 0 0); variable = get_or b 1 0 + 256 * get_or b 2 0 } ∷ terms_in n (drop 3 b)

abbrev pub row_in : List ℕ → Row
row_in b = record { relation = relation_in (get_or b 2 0); terms = terms_in (get_or b 3 0) (drop 5 b); right = signed_in (get_or b 4 0) }

-- n records, each of the length that its term count says
abbrev pub rows_in : ℕ → List ℕ → List Row
rows_in zero b = []
rows_in (suc n) b = row_in b ∷ rows_in n (drop (5 + 3 * get_or b 3 0) b)

-- ---- meeting a row, over numerators in the order of the variables

abbrev pub value_at : List ℤ → ℕ → ℤ
value_at xs v = get_or xs v (pos 0)

abbrev pub sum_of : List ℤ → List Term → ℤ
sum_of xs [] = pos 0
sum_of xs (t ∷ ts) = t.coefficient *ℤ value_at xs t.variable +ℤ sum_of xs ts

abbrev pub MeetsBy : Relation → (right sum : ℤ) → Type 0
MeetsBy at_least b s = b ≤ℤ s
MeetsBy equal b s = s ≡ b

-- "A ≥ row is met when its sum over the numerators is at least the right side times D, an = row when the two are equal."
abbrev pub Meets : (D : ℕ) → List ℤ → Row → Type 0
Meets D xs r = MeetsBy r.relation (r.right *ℤ pos D) (sum_of xs r.terms)
