-- Which kinds have two parts, and which a window.
use Rattle.std.specs.Prelude.{Bool, true, false}
use Rattle.table.specs.declared.Kind.{Kind}
use Rattle.table.specs.declared.Kind.TheVariants.{Atom, Not, And, Or, Implies, Eventually, Always, Until, Within, Throughout}

abbrev pub is_binary : Kind → Bool
is_binary Atom = false
is_binary Not = false
is_binary And = true
is_binary Or = true
is_binary Implies = true
is_binary Eventually = false
is_binary Always = false
is_binary Until = true
is_binary Within = false
is_binary Throughout = false

abbrev pub has_window : Kind → Bool
has_window Atom = false
has_window Not = false
has_window And = false
has_window Or = false
has_window Implies = false
has_window Eventually = false
has_window Always = false
has_window Until = false
has_window Within = true
has_window Throughout = true
