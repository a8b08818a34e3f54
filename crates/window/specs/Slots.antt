-- The slots of a window as the calls hand them out, and the variables of a part at these slots.
use Rattle.std.specs.Prelude.{◌≡◌, Bool, true, false, List, map, ℕ, ◌+◌, ◌-◌, ◌≤◌, ◌<◌}
use Rattle.lists.specs.Passing.{in_ranges}
use Rattle.lists.specs.Tabulate.{tabulate}
use Rattle.rules.specs.Rule.{Window}
use Rattle.rules.specs.Rule.Window.{within, throughout}
use Rattle.rules.specs.Rows.{window_slots}
use Rattle.window.specs.declared.Looks.{Looks}

abbrev pub window_by : (within : Bool) → Window
window_by true = within
window_by false = throughout

-- ---- what a call hands out

-- the i-th of the slots, from 0
abbrev pub place_of : Looks → (i : ℕ) → ℕ
place_of w i = in_ranges w.first w.head w.skip i

-- the variables of a part at the slots, where p is its variable at the first slot of all
abbrev pub variable_at : Looks → (p i : ℕ) → ℕ
variable_at w p i = p + place_of w i

unfoldable pub variables : Looks → (p : ℕ) → List ℕ
variables w p = tabulate w.count (variable_at w p)

-- the places are those of slots, as the type says
pub record Few (w : Looks) : Type 0 where
  pub some : 1 ≤ w.count
  pub few : w.count ≤ 64
  pub places : (i : ℕ) → i < w.count → place_of w i < 64
  pub head-some : 1 ≤ w.head
  pub ranges : w.head + w.rest ≡ w.count

-- what a call hands out for the window a, b from slot t
pub record Looking (T L t a b : ℕ) (w : Looks) : Type 0 where
  pub is : (p : ℕ) → variables w p ≡ map (λ s. p + (s - 1)) (window_slots T L t a b)
  pub inside : (i : ℕ) → i < w.count → place_of w i < T
  -- its places are numbers of 16 bits, also where they are worked out
  pub small : w.first + w.count + w.skip ≤ T
