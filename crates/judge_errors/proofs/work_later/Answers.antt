-- `judge_errors::work_later` meets its contract. The loop's invariant: the node has been worked from slot s on, and the sum is that of slot s. Assumes nothing.
use mathlib.Core.Path.{◌≡◌, refl, ap, subst, ◌∙◌}
use mathlib.Core.Bool.{Bool}
use Prim.Native.Nat.{ℕ, ◌+◌, ◌-◌, ◌*◌, ◌≤◌, ◌<◌, min}
use native.Mathlib.Omega.{arith}
use lib.ListN.{length}
use Rattle.rules.specs.Quantities.{one}
use Rattle.judge_errors.specs.Worked.{per_slot, worked_none, next_last, Summed, summed_none, summed_at, step}
use Rattle.judge_errors.specs.Count.{later_at, later_end, parts_in, later-read, later_more}
use Rattle.judge_errors.proofs.work_later.Goals as goal
use Rattle.judge_errors.proofs.work_later.Goals.{After-stopped, then-s-t, else-s-t}
use Rattle.rules.specs.Rows.{goes_on}
use Rattle.std.proofs.Common.{sym, ap₂, ltb, ◌||◌, lt-ltb, le-ltb}

pub end_figure-sum-requires : goal.end_figure-sum-requires
end_figure-sum-requires c =
    let a = c in
    (parts_in a.args.figures.now a.requires.0 a.requires.2 refl, a.requires.3, a.requires.1)

pub loop-s-init : goal.loop-s-init
loop-s-init c =
    let a = c in
    let x = c.args in
    let r = c.end_figure-sum in
    let next = next_last x.t x.n (later_end x.t x.l x.e x.figures.now x.parts) x.figures.now in
    let sum = subst (λ (y : ℕ). Summed x.t x.t y r.result) (r.ensures.0 ∙ next) (summed_none x.t r.result r.ensures.1) in
    (worked_none _ _ _ _, a.requires.1, sum)

pub later_sum-requires : goal.later_sum-requires
later_sum-requires c =
    let l = c.loop-s in
    let a = c in
    (parts_in l.figures a.requires.0 a.requires.2 l.invariant.0.same, omega (arith, c.loop-s-test, l.auto.s), l.invariant.1)

pub overflow_add-sum : goal.overflow_add-sum
overflow_add-sum c = omega (arith, c.later_sum.ensures.1)

pub overflow_add-sum-in-loop-s : goal.overflow_add-sum-in-loop-s
overflow_add-sum-in-loop-s c = omega (
  arith,
  c.later_sum.ensures.1,
  c.loop-s.invariant.2.few,
  c.requires.0.slots,
)

pub offset_bounds-figures-here : goal.offset_bounds-figures-here
offset_bounds-figures-here c = omega arith

pub bounds-figures-here : goal.bounds-figures-here
bounds-figures-here c =
    let l = c in
    let h = c in
    omega (arith, h.place-here.ensures.0, h.requires.0.inside, l.loop-s.invariant.0.same)

goes_on-is : (c : After-stopped) → c.if-s-t.follows ≡ goes_on c.args.t c.args.l c.loop-s.s
goes_on-is c =
    let low : 0 < c.loop-s.s = omega (arith, c.loop-s-test) in
    elim c.if-s-t.branch [
      | then-s-t w ↦ let h : c.loop-s.s < c.args.t = omega (arith, w.if-s-t.true) in
          w.follows-is ∙ lt-ltb _ c.args.t w.if-s-t.true ∙ sym (ap (λ (b : Bool). b || ltb c.args.l c.args.t) (lt-ltb c.loop-s.s c.args.t h))
      | else-s-t w ↦ let h : c.args.t ≤ c.loop-s.s = omega (arith, w.if-s-t.false) in
          w.follows-is ∙ sym (ap (λ (b : Bool). b || ltb c.args.l c.args.t) (le-ltb c.loop-s.s c.args.t h))
    ]

pub loop-s-preserved : goal.loop-s-preserved
loop-s-preserved c =
    let r = c.later_sum in
    let l = c.loop-s in
    let h = c in
    let a = c in
    let x = c.args in
    let low : 0 < l.s = omega (arith, c.loop-s-test) in
    let in-run : l.s - 1 < x.t = omega (arith, l.auto.s) in
    let i : h.place-here.result + (l.s - 1) ≡ x.n * x.t + (l.s - 1) = omega (arith, h.place-here.ensures.0) in
    let goes = goes_on-is c in
    let follows = ap (λ (b : Bool). later_at x.t x.figures.now x.parts b (l.s - 1)) goes in
    let read = r.ensures.0 ∙ later-read l.invariant.0 a.requires.2 (l.s - 1) in-run c.if-s-t.follows ∙ follows in
    let counts =
    ap₂ (λ (z y : ℕ). min one (l.sum + (z + y))) c.from.ensures read
    ∙ later_more x.t x.l x.e x.figures.now x.parts l.s low x.n l.figures l.invariant.2 in
    let w = step l.invariant.0 l.invariant.1 a.requires.0 low l.auto.s _ _ _ i c.stopped.ensures counts in
    let inside : x.n * x.t + x.t ≤ length l.figures = omega (arith, a.requires.0.inside, l.invariant.0.same) in
    let few : l.sum + (c.from.result + r.result) ≤ one + (x.t - (l.s - 1)) * per_slot = omega (arith, c.from.ensures, r.ensures.1, l.invariant.2.few, l.auto.s, low) in
    (w.0, w.1, summed_at x.t x.n (l.s - 1) _ l.figures _ _ _ in-run inside few i c.stopped.ensures)

pub shape_of-figures : goal.shape_of-figures
shape_of-figures c = c.loop-s.invariant.0.same

pub returns : goal.returns
returns c =
    let z : c.loop-s.s ≡ 0 = omega arith in
    (rw z at c.loop-s.invariant.0, c.loop-s.invariant.1)
