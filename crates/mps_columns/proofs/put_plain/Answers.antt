-- `mps_columns::put_plain` meets its contract. What follows the last slot, the block's own variable, and another. Assumes nothing.
use Rattle.std.proofs.Common.{◌≡◌, ℕ, true, sym, ◌∙◌, ◌+◌, arith}
use Rattle.table.specs.Looping.{loops_by}
use Rattle.mps_line.specs.Emitted.{emitted_as}
use Rattle.mps_columns.specs.Walk.{lines-last, lines_around, alone-text}
use Rattle.mps_columns.proofs.put_plain.Goals as goal
use Rattle.mps_columns.proofs.put_plain.Goals.{else-loops-via-then-loops+else-v-from, else-loops-via-else-loops}

pub returns-then-follows : goal.returns-then-follows
returns-then-follows c =
    let a = c.args in (
      emitted_as (lines-last a.variable.v a.block a.t a.start a.variable.s c.follows.ensures c.if-follows.true) c.put_at.ensures.0,
      omega (arith, c.put_at.ensures.1),
    )

pub returns-then-v-from : goal.returns-then-v-from
returns-then-v-from c =
    let a = c.args in (
      emitted_as (lines_around a.variable.v a.block a.t a.start a.variable.s c.follows.ensures c.if-follows.false) c.put_around.ensures.0,
      c.put_around.ensures.1,
    )

pub returns-else-loops : goal.returns-else-loops
returns-else-loops c =
    let a = c.args in
    let fit = c.requires.lines_fit in
    let at = fit.1.2 in
    let other : loops_by a.block.kind ≡ true → a.block.own + a.variable.s ≡ a.variable.v → ⊥ =
    elim c.else-loops.branch [
      | else-loops-via-then-loops+else-v-from w ↦ λ e f. w.if-v-from.false (sym (w.from.ensures ∙ f))
      | else-loops-via-else-loops w ↦ λ e f. let z : ◌≡◌ {A = ℕ} 0 1 = cc (c.loops.ensures, e, w.if-loops.false) in omega arith
    ] in (
      emitted_as
          (alone-text a.t 1 a.block fit.5 (omega (arith, fit.1.1)) a.variable.v a.start c.requires.whole at.0 a.variable.s fit.1.1 at.1 other
          ∙ lines_around a.variable.v a.block a.t a.start a.variable.s c.follows.ensures c.if-follows.false) c.put_at-else-loops.ensures.0,
      omega (arith, c.put_at-else-loops.ensures.1),
    )
