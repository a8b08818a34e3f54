-- The error figures computed kind by kind, from the last slot backwards; that they are those of ErrorFigure.antt, and that a table has one of each.
use Rattle.std.specs.Prelude.{Bool, cond, List, ℕ, zero, suc, ◌+◌, ◌-◌, min, ltb}
use Rattle.rules.specs.Quantities.{one}
use Rattle.rules.specs.Rule.{Unary, Binary, Rule}
use Rattle.rules.specs.Rule.Unary.{not, eventually, always}
use Rattle.rules.specs.Rule.Binary.{and, or, implies, until}
use Rattle.rules.specs.Rule.Rule.{atom, unary, binary, windowed}
use Rattle.rules.specs.Table.{Node, rule_at, root}
use Rattle.rules.specs.Rows.{window_slots, goes_on}
use Rattle.rules.specs.Errors.Sums.{sum_over}

-- e and the figures of the parts, k together: "Stop at 1,000,000."
abbrev pub raised : (e k : ℕ) → ℕ
raised e k = min one (e + k)

-- F, G and U, d slots before the last: `last` is what the last slot counts, `step` what every other counts beside the node at the next slot
abbrev pub chain : (e : ℕ) (last step : ℕ → ℕ) → ℕ → ℕ
chain e last step zero = raised e (last zero)
chain e last step (suc d) = raised e (step (suc d) + chain e last step d)

-- with a loop slot: after the last slot comes what has the figure `end`
abbrev pub chain_to : (e : ℕ) (step : ℕ → ℕ) (end : ℕ) → ℕ → ℕ
chain_to e step end zero = raised e (step zero + end)
chain_to e step end (suc d) = raised e (step (suc d) + chain_to e step end d)

-- L slots before the last is the loop slot, 0 where the last slot is repeated
abbrev pub looped : (e : ℕ) (last step : ℕ → ℕ) (back : ℕ) → ℕ → ℕ
looped e last step zero d = chain e last step d
looped e last step (suc c) d = chain_to e step (chain e last step (suc c)) d

abbrev pub unary_error : (e : ℕ) → Unary → (f : ℕ → ℕ) → (back : ℕ) → ℕ → ℕ
unary_error e not f c d = raised e (f d)
unary_error e eventually f c d = looped e f f c d
unary_error e always f c d = looped e f f c d

abbrev pub binary_error : (e : ℕ) → Binary → (f g : ℕ → ℕ) → (back : ℕ) → ℕ → ℕ
binary_error e and f g c d = raised e (f d + g d)
binary_error e or f g c d = raised e (f d + g d)
binary_error e implies f g c d = raised e (f d + g d)
binary_error e until f g c d = looped e g (λ i. f i + g i) c d

-- at slot t; a window counts its part at each of its slots
abbrev pub error_at : (T L e : ℕ) → Rule → (t : ℕ) → ℕ
error_at T L e (atom a) t = raised e e
error_at T L e (unary u p) t = unary_error e u (λ d. error_at T L e p (T - d)) (T - L) (T - t)
error_at T L e (binary o p q) t = binary_error e o (λ d. error_at T L e p (T - d)) (λ d. error_at T L e q (T - d)) (T - L) (T - t)
error_at T L e (windowed w a b p) t = raised e (sum_over (error_at T L e p) (window_slots T L t a b))

-- of a V: what P had with the last slot repeated
abbrev pub kept_error_at : (T L e : ℕ) → Rule → (t : ℕ) → ℕ
kept_error_at T L e (atom a) t = 0
kept_error_at T L e (unary u p) t = unary_error e u (λ d. error_at T L e p (T - d)) 0 (T - t)
kept_error_at T L e (binary o p q) t = binary_error e o (λ d. error_at T L e p (T - d)) (λ d. error_at T L e q (T - d)) 0 (T - t)
kept_error_at T L e (windowed w a b p) t = 0

-- the error figure of a rule's slack at slot t, and of its V
unfoldable pub error : (T L e : ℕ) → Rule → (t : ℕ) → ℕ
error T L e p t = error_at T L e p t

unfoldable pub kept_error : (T L e : ℕ) → Rule → (t : ℕ) → ℕ
kept_error T L e p t = kept_error_at T L e p t

-- at the next slot, which after T is V's at L
abbrev pub next_error : (T L e : ℕ) → Rule → (t : ℕ) → ℕ
next_error T L e p t = cond (ltb t T) (error T L e p (t + 1)) (kept_error T L e p L)

-- "Passed carries the root's figure at slot 1."
abbrev pub root_error : (T L e : ℕ) → List Node → ℕ
root_error T L e ns = error T L e (rule_at ns (root ns)) 1

-- ---- one slot at a time: what a node counts, from its parts at the slot and its own figure x at the next slot; `inner` is whether a slot follows

abbrev pub unary_count : Unary → (inner : Bool) → (p x : ℕ) → ℕ
unary_count not inner p x = p
unary_count eventually inner p x = cond inner (p + x) p
unary_count always inner p x = cond inner (p + x) p

abbrev pub binary_count : Binary → (inner : Bool) → (p q x : ℕ) → ℕ
binary_count and inner p q x = p + q
binary_count or inner p q x = p + q
binary_count implies inner p q x = p + q
binary_count until inner p q x = cond inner (p + q + x) q

-- `parts` has the nodes at each slot
abbrev pub node_count : (T L e t : ℕ) (parts : ℕ → ℕ → ℕ) (x : ℕ) → Node → ℕ
node_count T L e t parts x (Node.atom a) = e
node_count T L e t parts x (Node.unary u c) = unary_count u (goes_on T L t) (parts c t) x
node_count T L e t parts x (Node.binary o l r) = binary_count o (goes_on T L t) (parts l t) (parts r t) x
node_count T L e t parts x (Node.windowed w a b c) = sum_over (parts c) (window_slots T L t a b)

-- and its V
abbrev pub kept_count : (T t : ℕ) (parts : ℕ → ℕ → ℕ) (x : ℕ) → Node → ℕ
kept_count T t parts x (Node.atom a) = 0
kept_count T t parts x (Node.unary u c) = unary_count u (ltb t T) (parts c t) x
kept_count T t parts x (Node.binary o l r) = binary_count o (ltb t T) (parts l t) (parts r t) x
kept_count T t parts x (Node.windowed w a b c) = 0
