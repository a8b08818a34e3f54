-- `table::check` meets its contract, a rung for each test. Assumes nothing.
use Rattle.std.proofs.Common.{sym, ◌∙◌, refl}
use Rattle.table.specs.Checks.{check_of, ready}
use Rattle.table.proofs.check.Goals as goal

pub returns-then-not-within : goal.returns-then-not-within
unfolding check_of
returns-then-not-within c = simp (sym c.within.ensures ∙ c.if-not-within.true)

pub returns-then-not-within-2 : goal.returns-then-not-within-2
unfolding check_of
returns-then-not-within-2 c = simp (sym c.within.ensures ∙ c.if-not-within.false, sym c.within-2.ensures ∙ c.if-not-within-2.true)

pub returns-then-not-within-3 : goal.returns-then-not-within-3
unfolding check_of
returns-then-not-within-3 c =
    simp (
      sym c.within.ensures ∙ c.if-not-within.false,
      sym c.within-2.ensures ∙ c.if-not-within-2.false,
      sym c.within-3.ensures ∙ c.if-not-within-3.true,
    )

pub returns-then-not-good : goal.returns-then-not-good
unfolding check_of
returns-then-not-good c =
    simp (
      sym c.within.ensures ∙ c.if-not-within.false,
      sym c.within-2.ensures ∙ c.if-not-within-2.false,
      sym c.within-3.ensures ∙ c.if-not-within-3.false,
      sym c.good.ensures ∙ c.if-not-good.true,
    )

pub invariant_of-result : goal.invariant_of-result
unfolding check_of
invariant_of-result c =
    record {
      ready = ready _ _ _ _ (simp (
        sym c.within.ensures ∙ c.if-not-within.false,
        sym c.within-2.ensures ∙ c.if-not-within-2.false,
        sym c.within-3.ensures ∙ c.if-not-within-3.false,
        sym c.good.ensures ∙ c.if-not-good.false,
      ));
      counted = c.count.ensures;
    }

pub returns : goal.returns
unfolding check_of
returns c =
    record {
      passed = simp (
        sym c.within.ensures ∙ c.if-not-within.false,
        sym c.within-2.ensures ∙ c.if-not-within-2.false,
        sym c.within-3.ensures ∙ c.if-not-within-3.false,
        sym c.good.ensures ∙ c.if-not-good.false,
      );
      same_table = refl;
      same_t = refl;
      same_m = refl;
      same_l = refl;
    }
