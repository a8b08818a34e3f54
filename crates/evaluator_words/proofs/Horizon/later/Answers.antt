-- `evaluator_words::Horizon::later` meets its contract. Assumes nothing.
use native.Mathlib.Omega.{arith}
use Rattle.evaluator_words.specs.Rounds.{past-round, past-small, word-later}
use Rattle.evaluator_words.proofs.Horizon.later.Goals as goal

pub repeated-again-requires : goal.repeated-again-requires
repeated-again-requires c =
    let h = c.args.self in
    (omega arith, omega arith, past-small h.t h.l c.args.p h.loop_slot h.slots.1 c.requires.0)

pub returns : goal.returns
returns c =
    let h = c.args.self in
    word-later h.t h.l c.args.p h.loop_slot h.slots.1 c.requires.0 c.args.a c.repeated-again.result c.requires.1
    (c.repeated-again.ensures _ (past-round h.t h.l c.args.p h.loop_slot h.slots.1 c.requires.0))
