-- `mps_sections::put_bounds` meets its contract. The loop's invariant: the bounds of the variables passed are put. Assumes nothing.
use Rattle.std.proofs.Common.{◌≡◌, arith}
use Rattle.mps.specs.Page.{bound_line, bound_section}
use Rattle.mps_line.specs.Emitted.{emitted-also}
use Rattle.mps_line.specs.Turns.{turns_none, turns_more, turns_all}
use Rattle.mps_sections.proofs.put_bounds.Goals as goal

pub loop-v-init : goal.loop-v-init
loop-v-init c = record { put = turns_none _ _; end = omega arith }

pub loop-v-preserved : goal.loop-v-preserved
loop-v-preserved c =
    let p = c.put_bound.ensures in
    record { put = turns_more (bound_line c.args.atoms) _ c.loop-v.invariant.put p.0; end = omega (arith, p.1) }

pub returns : goal.returns
unfolding bound_section
returns c =
    let e : c.loop-v.v ≡ c.args.variables = omega arith in
    let d = turns_all (bound_line c.args.atoms) _ e c.loop-v.invariant.put in
    let p = c.put_text-2.ensures in
    (emitted-also c.put_text.ensures.0 (emitted-also d p.0), omega (arith, p.1))
