-- `mps_length::back_size` meets its contract, by how many digits k − 1 has. Assumes nothing.
use Rattle.std.proofs.Common.{arith, le-leb}
use Rattle.std.proofs.lemmas.Bool.{lt-leb}
use Rattle.mps_length.specs.Windows.{back_is}
use Rattle.mps_length.proofs.back_size.Goals as goal

pub returns-then-k-le1 : goal.returns-then-k-le1
returns-then-k-le1 c =
    let k = c.args.k in
    (rw (le-leb k 1 c.if-k-le1.true) at (back_is k c.requires.1).0, omega arith)

pub returns-then-k-le10 : goal.returns-then-k-le10
returns-then-k-le10 c =
    let k = c.args.k in
    (rw (lt-leb k 1 c.if-k-le1.false, le-leb k 10 c.if-k-le10.true) at (back_is k c.requires.1).0, omega arith)

pub returns-else-k-le10 : goal.returns-else-k-le10
returns-else-k-le10 c =
    let k = c.args.k in
    (rw (lt-leb k 1 c.if-k-le1.false, lt-leb k 10 c.if-k-le10.false) at (back_is k c.requires.1).0, omega arith)
