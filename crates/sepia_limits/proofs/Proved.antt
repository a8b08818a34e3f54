-- The sizes that include/sepia.h offers are right: proofs of what Limits states.
use Rattle.std.specs.Prelude.{refl, length}
use Rattle.std.proofs.Common.{ap, arith}
use Rattle.rules.proofs.RowRecords.{length-row}
use Rattle.rules.proofs.TableTest.{length-table}
use Rattle.sepia_limits.specs.Limits.{AsDefined, NoTableHasMore, RoomEnough}
use Rattle.sepia_limits.proofs.Terms.{few-terms}
use Rattle.sepia_limits.proofs.Tables.{variables-most, rows-most, rows-bytes-most, page-most}
use Rattle.sepia_limits.proofs.Room.{read-room, evaluate-room, rows-room, page-room, print-room}

pub as_defined : AsDefined
as_defined = record {
  slots = λ T. (λ h. h, λ h. h);
  atoms = λ M. (λ h. h, λ h. h);
  nodes = refl;
  text = refl;
  node-record = λ h nd. refl;
  figure = refl;
  tolerance = refl;
  row_record = length-row;
}

pub no_table-has-more : NoTableHasMore
no_table-has-more T M L table ns slots atoms loop good = record {
  bytes = omega (arith, good.few, length-table ns, ap length good.records);
  variables = variables-most T M L table ns slots atoms good;
  terms = few-terms T M L slots.1 ns;
  rows = rows-most T M L table ns slots atoms good;
  rows-bytes = rows-bytes-most T M L table ns slots atoms good;
  page-bytes = page-most T M L table ns slots atoms good;
}

pub room-enough : RoomEnough
room-enough = record {
  read = read-room;
  evaluate = evaluate-room no_table-has-more;
  rows = rows-room no_table-has-more;
  mps = page-room no_table-has-more;
  print = print-room;
}
