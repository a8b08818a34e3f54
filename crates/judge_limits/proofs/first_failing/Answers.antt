-- What the closure answers is the test, and the loop's steps are those of a search.
use Rattle.std.proofs.Common.{◌≡◌, pos, get_or, sym, subst, ◌∙◌, arith, rules, to_z, of_z, ◌<◌, ◌^◌, ℤ}
use Rattle.std.specs.Int.{w32}
use Rattle.std.specs.Int.Signed.{mag}
use mir.Val.{hbits}
use Rattle.lists.specs.Scan.{scan_found, scan_more, scan_over}
use Rattle.ints.specs.Stored.{told_back}
use Rattle.millionths.specs.declared.Millionths.{Millionths}
use Rattle.judge_limits.proofs.first_failing.Goals as goal

-- a figure as it is passed on
told : (P : Millionths → Type 0) (z : ℤ) → mag z < 2 ^ hbits w32 → P (record { value = to_z w32 (of_z w32 z) }) → P (record { value = z })
told P z m p = subst (λ (x : ℤ). P (record { value = x })) (told_back w32 z m) p

pub returns-then-fails : goal.returns-then-fails
returns-then-fails g c =
    λ test h.
    let answered = told (λ x. goal.F-post g c.args.fails x c.fails.result) (get_or c.args.figures.now c.loop-v.v (pos 0)) (search rules) c.fails.ensures in
    sym (scan_found test c.args.n c.loop-v.v (omega arith) (sym (h c.loop-v.v c.fails.result answered) ∙ c.if-fails.true)) ∙ c.loop-v.invariant test h

pub loop-v-preserved : goal.loop-v-preserved
loop-v-preserved g c =
    λ test h.
    let answered = told (λ x. goal.F-post g c.args.fails x c.fails.result) (get_or c.args.figures.now c.loop-v.v (pos 0)) (search rules) c.fails.ensures in
    sym (scan_more test c.args.n c.loop-v.v (omega arith) (sym (h c.loop-v.v c.fails.result answered) ∙ c.if-fails.false)) ∙ c.loop-v.invariant test h

pub returns : goal.returns
returns g c =
    let over : c.loop-v.v ≡ c.args.n = omega (arith, c.requires.0) in
    λ test h. sym (scan_over test c.args.n c.loop-v.v over) ∙ c.loop-v.invariant test h
