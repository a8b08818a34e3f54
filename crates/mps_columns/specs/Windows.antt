-- The variables that are in none of a window's rows at a slot.
use Rattle.std.specs.Prelude.{◌≡◌, Bool, true, false, ℕ, ◌+◌, ◌≤◌, ◌<◌}
use Rattle.std.proofs.Common.{arith}
use Rattle.window.specs.Slots.{variable_at}
use Rattle.window.proofs.Slots.{place-high}
use Rattle.mps_window.specs.declared.over.Over.{Over}

abbrev pub Missed : Over → (v : ℕ) → Bool → Type 0
Missed o v true = (v ≡ o.own → ⊥) × ((j : ℕ) → j < o.looks.count → variable_at o.looks o.left j ≡ v → ⊥)
Missed o v false = Unit {0}

pub missed_behind : (o : Over) (v : ℕ) → (v ≡ o.own → ⊥) → o.left + o.looks.first + o.looks.count + o.looks.skip ≤ v → Missed o v true
missed_behind o v a h = (a, λ j l e. omega (arith, place-high o.looks j))
