-- `evaluator_words::repeated` meets its contract. The loop's invariant: as many bits as are seen are in the word. Assumes nothing.
use native.Mathlib.Omega.{arith}
use Rattle.evaluator_words.specs.Rounds.{repeated_once, repeated_twice}
use Rattle.evaluator_words.proofs.repeated.Goals as goal

pub loop-seen-init : goal.loop-seen-init
loop-seen-init c = (c.requires.0, repeated_once c.args.d c.args.w c.requires.2)

pub loop-seen-preserved : goal.loop-seen-preserved
loop-seen-preserved c =
    let l = c.loop-seen in
    (omega arith, repeated_twice c.args.d c.args.w l.seen l.x l.invariant.1)
