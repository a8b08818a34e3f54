-- `judge_errors::work_window` meets its contract. The loop's invariant: the node has been worked from slot s on. Assumes nothing.
use mathlib.Core.Path.{◌≡◌, refl, subst, ◌∙◌}
use Prim.Native.Nat.{ℕ, ◌+◌, ◌-◌, ◌*◌, min}
use native.Mathlib.Omega.{arith}
use lib.ListN.{length}
use Rattle.lists.specs.Place.{place_end}
use Rattle.rules.specs.Quantities.{one}
use Rattle.judge_errors.specs.Worked.{worked_none, step}
use Rattle.judge_errors.specs.Window.{Running, running_rises, window-rise, sum-all}
use borrow.Author.Rules.{rules}
use Rattle.std.proofs.Common.{ap₂}
use Rattle.window.proofs.Slots.{few_of}
use Rattle.judge_errors.proofs.work_window.Goals as goal

pub place-here-requires : goal.place-here-requires
place-here-requires c = omega arith

pub place-requires : goal.place-requires
place-requires c = omega arith

pub slice_bounds-sum_up-end : goal.slice_bounds-sum_up-end
slice_bounds-sum_up-end c = refl

pub sum_up-requires : goal.sum_up-requires
sum_up-requires c =
    let a = c in (
      omega (arith, c.place.ensures.0, place_end a.args.t a.requires.2, a.requires.0.inside),
      a.requires.0.slots,
      omega (arith, a.requires.0.slots),
      refl,
      a.requires.1,
    )

pub loop-s-init : goal.loop-s-init
loop-s-init c =
    let a = c in
    let sums = c.sum_up.new.sums in
    let long : 65 ≡ length sums = search rules in
    let part = c.place.ensures.0 in (
      worked_none _ _ _ _,
      a.requires.1,
      subst (λ (p : ℕ). Running a.args.figures.now p a.args.t sums) part c.sum_up.ensures,
      omega (arith, long, a.requires.0.slots),
    )

pub overflow_cast-t : goal.overflow_cast-t
overflow_cast-t c = omega arith

pub overflow_cast-l : goal.overflow_cast-l
overflow_cast-l c = omega (arith, c.requires.4.1)

pub overflow_cast-s : goal.overflow_cast-s
overflow_cast-s c = omega arith

pub look-looks-requires : goal.look-looks-requires
look-looks-requires c =
    let a = c in
    let l = c.loop-s in
    (a.requires.4.0, a.requires.4.1, a.requires.0.slots, omega (arith, c.loop-s-test, l.auto.s), a.requires.3.0, a.requires.3.1)

pub window_sum-requires : goal.window_sum-requires
window_sum-requires c =
    let k = c.look-looks.ensures in
    let l = c.loop-s in
    let a = c in
    let first = a.args.x.part * a.args.t in
    running_rises a.args.figures.now first a.args.t _ l.invariant.2 a.requires.1 a.requires.0.slots l.invariant.3 _ k.small

pub loop-s-preserved : goal.loop-s-preserved
loop-s-preserved c =
    let l = c in
    let h = c in
    let a = c in
    let first = a.args.x.part * a.args.t in
    let stand = c.sum_up.new.sums in
    let i : h.place-here.result + (l.loop-s.s - 1) ≡ a.args.n * a.args.t + (l.loop-s.s - 1) = omega (arith, h.place-here.ensures.0) in
    let look = c.look-looks in
    let sums =
    c.window_sum.ensures.0
    ∙ window-rise a.args.figures.now first a.args.t stand l.loop-s.invariant.2 look.result (few_of look.result) look.ensures.small
    ∙ sum-all a.args.figures.now look.result first look.ensures in
    let counts = ap₂ (λ (y x : ℕ). min one (y + x)) c.from.ensures sums in
    let w = step l.loop-s.invariant.0 l.loop-s.invariant.1 a.requires.0 (omega arith) l.loop-s.auto.s _ _ _ i c.stopped.ensures counts in
    (w.0, w.1, l.loop-s.invariant.2, l.loop-s.invariant.3)

pub returns : goal.returns
returns c =
    let z : c.loop-s.s ≡ 0 = omega arith in
    (rw z at c.loop-s.invariant.0, c.loop-s.invariant.1)
