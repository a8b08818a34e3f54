-- `mps_node::over_at` meets its contract. The kind has a window, or none. Assumes nothing.
use Rattle.std.proofs.Common.{◌≡◌, refl, sym, ◌∙◌}
use denote.Enum.Bare.{sameb}
use Rattle.table.specs.contracts.Kind.{the_type}
use Rattle.table.specs.declared.Kind.{Kind}
use Rattle.table.specs.declared.Kind.TheVariants.{Atom, Not, And, Or, Implies, Eventually, Always, Until, Within, Throughout}
use Rattle.mps_node.specs.Windows.{is_within, overlooked}
use Rattle.mps_node.proofs.over_at.Goals as goal

-- what the test says of the kind
tested : (k : Kind) → sameb the_type k Within ≡ is_within k
tested Atom = refl
tested Not = refl
tested And = refl
tested Or = refl
tested Implies = refl
tested Eventually = refl
tested Always = refl
tested Until = refl
tested Within = refl
tested Throughout = refl

pub returns : goal.returns
returns c =
    let b = c.args.block in
    let window = sym c.has_window.ensures ∙ c.if-not-has_window.false in
    (window, overlooked b c.args.t c.args.l c.args.s _ window (c.eq.ensures ∙ tested b.kind) refl refl c.look.ensures)
