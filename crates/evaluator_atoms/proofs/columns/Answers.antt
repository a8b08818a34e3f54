-- `evaluator_atoms::columns` meets its contract. Assumes nothing.
use native.Mathlib.Omega.{arith}
use Rattle.evaluator_atoms.specs.Turning.{stage_8, stage_4, stage_2, stage_1}
use Rattle.evaluator_atoms.specs.Packing.{width_4, width_8, width_16, below_more}
use Rattle.evaluator_atoms.specs.Columns.{Blocks, columns_turned, one_block}
use Rattle.evaluator_atoms.proofs.columns.Goals as goal
use Rattle.evaluator_atoms.proofs.columns.Goals.{in-0-to-4, in-5-to-8, in_default}

pub pack-requires-clause-t_bound : goal.pack-requires-clause-t_bound
pack-requires-clause-t_bound c =
    let b = c.requires.t_bound in
    (b.0, b.1, width_4, below_more c.args.m 4 c.args.t c.args.run.now (omega arith) b.3)

pub turn-requires : goal.turn-requires
turn-requires c = (stage_4, c.requires.t_bound.2)

pub turn-requires-in_default : goal.turn-requires-in_default
turn-requires-in_default c = (stage_8, c.requires.t_bound.2)

pub turn-requires-in_default-2 : goal.turn-requires-in_default-2
turn-requires-in_default-2 c = (stage_4, c.requires.t_bound.2)

pub turn-requires-2 : goal.turn-requires-2
turn-requires-2 c = (stage_2, c.requires.t_bound.2)

pub turn-requires-3 : goal.turn-requires-3
turn-requires-3 c = (stage_1, c.requires.t_bound.2)

pub returns : goal.returns
returns c =
    let t = c.args.t in
    let m = c.args.m in
    let run = c.args.run.now in
    let few = c.requires.t_bound.2 in
    let fours : Blocks 4 run t m c.if-m-lt5.cols =
    elim c.if-m-lt5.branch [
      | in-0-to-4 w ↦ rw w.cols-is (one_block 4 run t m w.pack.new.block width_4 (omega arith) w.pack.ensures)
      | in-5-to-8 w ↦ rw w.cols-is (w.turn.ensures run t (one_block 8 run t m w.pack-in-5-to-8.new.block width_8 (omega arith) w.pack-in-5-to-8.ensures))
      | in_default w ↦ rw w.cols-is
          (w.turn-in_default-2.ensures run t
          (w.turn-in_default.ensures run t (one_block 16 run t m w.pack-in_default.new.block width_16 few w.pack-in_default.ensures)))
    ] in
    columns_turned t run m c.turn-3.new.block few c.requires.t_bound.0 (c.turn-3.ensures run t (c.turn-2.ensures run t fours))
