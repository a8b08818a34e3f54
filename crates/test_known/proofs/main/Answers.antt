-- The space for the cases has its length.
use Rattle.test_known.proofs.Filled.{filled_length}
use Rattle.test_known.proofs.main.Goals as goal

pub slice_bounds-read_lines-end : goal.slice_bounds-read_lines-end
slice_bounds-read_lines-end c = filled_length 1572864 0
