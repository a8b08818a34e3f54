-- A rule has a node.
use Rattle.std.specs.Prelude.{◌≤◌}
use Rattle.std.proofs.Common.{arith}
use Rattle.rules.specs.Rule.{Rule, size}
use Rattle.rules.specs.Rule.Rule.{atom, unary, binary, windowed}

pub size-positive : (p : Rule) → 1 ≤ size p
size-positive (atom a) = omega arith
size-positive (unary u p) = omega arith
size-positive (binary o p q) = omega arith
size-positive (windowed w a b p) = omega arith
