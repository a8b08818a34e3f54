-- The buffer that is lent has its length.
use Rattle.test_known.proofs.Filled.{filled_length}
use Rattle.test_known.proofs.calls.write.Goals as goal

pub slice_bounds-write_in-end : goal.slice_bounds-write_in-end
slice_bounds-write_in-end g c = filled_length 4194304 254
