-- One figure more is counted.
use Rattle.std.proofs.Common.{◌≡◌, refl, Bool, true, false, ℕ, ◌+◌, pos, get_or, ap, sym, ◌∙◌, arith, rules, cond}
use Rattle.std.specs.Int.{w32}
use mir.Val.{bool_byte}
use Rattle.lists.specs.Scan.{skipped-counted}
use Rattle.ints.specs.Stored.{told_back}
use Rattle.rules.specs.Verdicts.{is_outside}
use Rattle.judge_limits.specs.Tests.{outside_at}
use Rattle.judge_limits.proofs.count_outside.Goals as goal

number-of : (b : Bool) → cond b 1 0 ≡ bool_byte b
number-of true = refl
number-of false = refl

pub loop-v-preserved : goal.loop-v-preserved
loop-v-preserved c =
    let a = c.args in
    let v = c.loop-v.v in
    let test = c.is_outside.ensures ∙ ap (is_outside a.e) (told_back w32 (get_or a.figures.now v (pos 0)) (search rules)) in
    let counted = skipped-counted (outside_at a.e a.figures.now) a.from v c.is_outside.result test c.loop-v.invariant.none in
    record {
      few = grind arith;
      none = λ z. counted (ap (λ (x : ℕ). c.loop-v.count + x) (number-of c.is_outside.result ∙ sym c.from-count.ensures) ∙ z);
    }
