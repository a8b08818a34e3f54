-- `program_input::Scan::feed` meets its contract. The loop's invariant: the bytes that are left lead where the whole chunk leads.
use Rattle.program_input.specs.Feeding.{feeding_next, fed_state, fed-text}
use Rattle.program_input.proofs.Scan.feed.Goals as goal

pub loop-b-preserved : goal.loop-b-preserved
loop-b-preserved c = feeding_next c.loop-b.b-index c.loop-b-test.true c.loop-b.invariant c.step.ensures

pub returns-clause-text_after : goal.returns-clause-text_after
returns-clause-text_after c = fed_state c.loop-b.b-index c.loop-b-test.false c.loop-b.invariant

pub returns-clause-text_after_2 : goal.returns-clause-text_after_2
returns-clause-text_after_2 c = fed-text c.loop-b.b-index c.loop-b-test.false c.loop-b.invariant
