-- One slot more; a search that is over passes the rest.
use Rattle.std.proofs.Common.{refl, Ok, Err, arith}
use Rattle.std.proofs.lemmas.Result.{err_from_is_err_and}
use Rattle.judge_search.specs.Slots.{passing-none, passing-more, passing-over}
use Rattle.judge_search.proofs.all_slots.Goals as goal

pub loop-s-init : goal.loop-s-init
loop-s-init g c = record { few = omega arith; passing = λ e f h t. passing-none e f (Ok c.args.count) h }

pub returns-in_err-rows : goal.returns-in_err-rows
returns-in_err-rows g c =
    let p = err_from_is_err_and c.from_residual.result c.from_residual.ensures.1 in
    let l = c.loop-s in
    rw (p.1, p.2) (record {
      passing = λ e f h t.
          let more = passing-more e f (Ok c.args.count) h l.s (l.invariant.passing e f h t)
          (t l.rows l.s (Err c.in_err-rows.field-0.0) (omega arith) c.in_err-rows.ensures) refl in
          passing-over e f (Ok c.args.count) h l.s c.args.k more (omega arith) refl;
      low = (let h = c.requires.few l.rows l.s (Err c.in_err-rows.field-0.0) (omega arith) c.in_err-rows.ensures in omega (arith, l.invariant.few));
    })

pub loop-s-preserved : goal.loop-s-preserved
loop-s-preserved g c =
    let l = c.loop-s in
    record {
      few = (let h = c.requires.few l.rows l.s (Ok c.in_ok-rows.rows) (omega arith) c.in_ok-rows.ensures in omega (arith, l.invariant.few));
      passing = λ e f h t.
          passing-more e f (Ok c.args.count) h l.s (l.invariant.passing e f h t) (t l.rows l.s (Ok c.in_ok-rows.rows) (omega arith) c.in_ok-rows.ensures) refl;
    }
