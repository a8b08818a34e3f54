-- By the kind: what a closure tests are the rows of its kind.
use Rattle.std.proofs.Common.{List, ℕ, ◌+◌, arith, rules}
use Rattle.rules.specs.Rows.{Row, same_rows, not_rows, and_rows, or_rows, implies_rows, until_rows}
use Rattle.rules.specs.Judge.{shortfall}
use Rattle.judge_search.specs.Slots.{block-all, atom-rows, not-rows, and-rows, or-rows, implies-rows}
use Rattle.judge_search.specs.Slots.{eventually-inner, eventually-loops, eventually-ends, always-inner, always-loops, always-ends, until-inner, until-loops, until-ends}
use Rattle.judge_search.proofs.test_block.Goals as goal

pub returns-in-Atom : goal.returns-in-Atom
returns-in-Atom c =
    let a = c.args in
    let b = a.block in
    let test = a.limited.test in
    let g : ℕ → List Row = λ s. same_rows (b.own + s) (b.left + s) in
    block-all b a.t a.l c.requires.0.slots-high g (λ s h. atom-rows b a.t a.l s c.in-Atom.is)
    (c.all_slots.ensures.passing test.e (shortfall test.figures.now) g (λ rows s x h p. search rules))

pub returns-in-Not : goal.returns-in-Not
returns-in-Not c =
    let a = c.args in
    let b = a.block in
    let test = a.limited.test in
    let g : ℕ → List Row = λ s. not_rows (b.own + s) (b.left + s) in
    block-all b a.t a.l c.requires.0.slots-high g (λ s h. not-rows b a.t a.l s c.in-Not.is)
    (c.all_slots-in-Not.ensures.passing test.e (shortfall test.figures.now) g (λ rows s x h p. search rules))

pub returns-in-And : goal.returns-in-And
returns-in-And c =
    let a = c.args in
    let b = a.block in
    let test = a.limited.test in
    let g : ℕ → List Row = λ s. and_rows (b.own + s) (b.left + s) (b.right + s) in
    block-all b a.t a.l c.requires.0.slots-high g (λ s h. and-rows b a.t a.l s c.in-And.is)
    (c.all_slots-in-And.ensures.passing test.e (shortfall test.figures.now) g (λ rows s x h p. search rules))

pub returns-in-Or : goal.returns-in-Or
returns-in-Or c =
    let a = c.args in
    let b = a.block in
    let test = a.limited.test in
    let g : ℕ → List Row = λ s. or_rows (b.own + s) (b.left + s) (b.right + s) in
    block-all b a.t a.l c.requires.0.slots-high g (λ s h. or-rows b a.t a.l s c.in-Or.is)
    (c.all_slots-in-Or.ensures.passing test.e (shortfall test.figures.now) g (λ rows s x h p. search rules))

pub returns-in-Implies : goal.returns-in-Implies
returns-in-Implies c =
    let a = c.args in
    let b = a.block in
    let test = a.limited.test in
    let g : ℕ → List Row = λ s. implies_rows (b.own + s) (b.left + s) (b.right + s) in
    block-all b a.t a.l c.requires.0.slots-high g (λ s h. implies-rows b a.t a.l s c.in-Implies.is)
    (c.all_slots-in-Implies.ensures.passing test.e (shortfall test.figures.now) g (λ rows s x h p. search rules))

pub returns-in-Eventually : goal.returns-in-Eventually
returns-in-Eventually c =
    let a = c.args in
    let b = a.block in
    let g : ℕ → ℕ → List Row = λ s next. or_rows (b.own + s) (b.left + s) next in
    c.followed.ensures a.l g (λ rows s next x h p. search rules)
    (record {
      inner = λ s h. eventually-inner b a.t a.l s h c.in-Eventually.is;
      loops = λ e. eventually-loops b a.t a.l (omega (arith, c.requires.0.loop)) c.in-Eventually.is e;
      ends = λ e. eventually-ends b a.t a.l (omega (arith, c.requires.0.loop)) c.in-Eventually.is e;
    })

pub returns-in-Always : goal.returns-in-Always
returns-in-Always c =
    let a = c.args in
    let b = a.block in
    let g : ℕ → ℕ → List Row = λ s next. and_rows (b.own + s) (b.left + s) next in
    c.followed-in-Always.ensures a.l g (λ rows s next x h p. search rules)
    (record {
      inner = λ s h. always-inner b a.t a.l s h c.in-Always.is;
      loops = λ e. always-loops b a.t a.l (omega (arith, c.requires.0.loop)) c.in-Always.is e;
      ends = λ e. always-ends b a.t a.l (omega (arith, c.requires.0.loop)) c.in-Always.is e;
    })

pub returns-in-Until : goal.returns-in-Until
returns-in-Until c =
    let a = c.args in
    let b = a.block in
    let g : ℕ → ℕ → List Row = λ s next. until_rows (b.own + s) (b.left + s) (b.right + s) next in
    c.followed-in-Until.ensures a.l g (λ rows s next x h p. search rules)
    (record {
      inner = λ s h. until-inner b a.t a.l s h c.in-Until.is;
      loops = λ e. until-loops b a.t a.l (omega (arith, c.requires.0.loop)) c.in-Until.is e;
      ends = λ e. until-ends b a.t a.l (omega (arith, c.requires.0.loop)) c.in-Until.is e;
    })
