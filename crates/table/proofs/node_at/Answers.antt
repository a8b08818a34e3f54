-- `table::node_at` meets its contract: the record's bytes are node n's kind, left, right and window. Assumes nothing.
use Rattle.std.proofs.Common.{◌*◌, ◌+◌, arith}
use Rattle.table.specs.Nodes.{from-record, unread, known_is, unknown_is}
use Rattle.table.proofs.node_at.Goals as goal

pub returns-in-Ok : goal.returns-in-Ok
returns-in-Ok c =
    let table = c.args.table.now in
    let n = c.args.n in
    let f = from-record _ _ _ _ _ _ c.in-Ok.ensures in
    record {
      is = rw (f.same-left, f.same-right, f.same-from, f.same-to) (known_is table n _ c.requires f.known);
      left-byte = omega (arith, f.same-left, c.type_inv.table (8 * n + 3));
      right-byte = omega (arith, f.same-right, c.type_inv.table (8 * n + 4));
      from_byte = omega (arith, f.same-from, c.type_inv.table (8 * n + 5));
      to-byte = omega (arith, f.same-to, c.type_inv.table (8 * n + 6));
    }

pub returns-in-Err : goal.returns-in-Err
returns-in-Err c =
    record {
      is = unknown_is c.args.table.now c.args.n _ c.requires (unread _ _ _ _ _ _ c.in-Err.ensures);
      left-byte = omega arith;
      right-byte = omega arith;
      from_byte = omega arith;
      to-byte = omega arith;
    }
