-- The truth of a rule at a slot, computed from the last slot backwards, where after slot T comes slot L again; and that it is the truth of Truth.antt.
use Rattle.std.specs.Prelude.{true, false, not as notb, ◌&&◌, ◌||◌, List, eqb}
use Rattle.std.proofs.Math.Bool.{Bool}
use Prim.Native.Nat.{ℕ, zero, suc, ◌-◌}
use Rattle.lists.specs.Passing.{some_of, every_of}
use Rattle.rules.specs.Quantities.{bit_at}
use Rattle.rules.specs.Rule.{Unary, Binary, Window, Rule}
use Rattle.rules.specs.Rule.Unary.{not, eventually, always}
use Rattle.rules.specs.Rule.Binary.{and, or, implies, until}
use Rattle.rules.specs.Rule.Window.{within, throughout}
use Rattle.rules.specs.Rule.Rule.{atom, unary, binary, windowed}
use Rattle.rules.specs.Rows.{window_slots}

-- an operator at a slot before the last, from its parts there and its own truth e at the next slot
abbrev pub unary_step : Unary → (p e : Bool) → Bool
unary_step not p e = notb p
unary_step eventually p e = p || e
unary_step always p e = p && e

abbrev pub binary_step : Binary → (p q e : Bool) → Bool
binary_step and p q e = p && q
binary_step or p q e = p || q
binary_step implies p q e = notb p || q
binary_step until p q e = q || (p && e)

-- and at the last slot, where nothing after it counts
abbrev pub unary_last : Unary → (p : Bool) → Bool
unary_last not p = notb p
unary_last eventually p = p
unary_last always p = p

abbrev pub binary_last : Binary → (p q : Bool) → Bool
binary_last and p q = p && q
binary_last or p q = p || q
binary_last implies p q = notb p || q
binary_last until p q = q

-- d slots before the last, kept to the slots up to the last, from the parts by their distance from the last slot
abbrev pub unary_from : Unary → (ℕ → Bool) → ℕ → Bool
unary_from u f zero = unary_last u (f zero)
unary_from u f (suc d) = unary_step u (f (suc d)) (unary_from u f d)

abbrev pub binary_from : Binary → (f g : ℕ → Bool) → ℕ → Bool
binary_from o f g zero = binary_last o (f zero) (g zero)
binary_from o f g (suc d) = binary_step o (f (suc d)) (g (suc d)) (binary_from o f g d)

-- d slots before the last, with e for the truth after the last slot
abbrev pub unary_to : Unary → (ℕ → Bool) → (e : Bool) → ℕ → Bool
unary_to u f e zero = unary_step u (f zero) e
unary_to u f e (suc d) = unary_step u (f (suc d)) (unary_to u f e d)

abbrev pub binary_to : Binary → (f g : ℕ → Bool) → (e : Bool) → ℕ → Bool
binary_to o f g e zero = binary_step o (f zero) (g zero) e
binary_to o f g e (suc d) = binary_step o (f (suc d)) (g (suc d)) (binary_to o f g e d)

-- a window, from its part at the window's slots
abbrev pub window_now : Window → (ℕ → Bool) → List ℕ → Bool
window_now within f ss = some_of f ss
window_now throughout f ss = every_of f ss

-- at slot t, with `on` for the atoms at a slot: after the last slot comes the truth from L on, kept to the slots up to the last
abbrev pub truth_at : (T L : ℕ) → (ℕ → ℕ → Bool) → Rule → ℕ → Bool
truth_at T L on (atom a) t = on t a
truth_at T L on (unary u p) t =
    let f : ℕ → Bool = λ d. truth_at T L on p (T - d) in
    unary_to u f (unary_from u f (T - L)) (T - t)
truth_at T L on (binary o p q) t =
    let f : ℕ → Bool = λ d. truth_at T L on p (T - d) in
    let g : ℕ → Bool = λ d. truth_at T L on q (T - d) in
    binary_to o f g (binary_from o f g (T - L)) (T - t)
truth_at T L on (windowed w a b p) t = window_now w (truth_at T L on p) (window_slots T L t a b)

-- whether atom a is set at slot t
abbrev pub bit_set : List ℕ → ℕ → ℕ → Bool
bit_set run t a = eqb (bit_at run t a) 1

-- the truth of a rule at slot t of a run of T slots that loops to L, and that of its V
unfoldable pub truth : (T L : ℕ) → List ℕ → Rule → ℕ → Bool
truth T L run p t = truth_at T L (bit_set run) p t

-- a truth as a bit
abbrev pub bit_of : Bool → ℕ
bit_of true = 1
bit_of false = 0
