use Rattle.std.proofs.Common.{◌-◌, ◌*◌, Ok, Err, ◌∙◌, arith, w64, SFits, to_z, of_z, rules}
use Rattle.std.proofs.lemmas.Int.{to_z-of_z}
use Rattle.std.proofs.lemmas.Result.{err_from_is_err_and}
use Rattle.algebra.specs.Differences.{second}
use Rattle.series.specs.Seen.{samples}
use Rattle.series.proofs.Outcomes.{ok_same}
use Rattle.statistics.proofs.Totals.{total_step}
use Rattle.variances.proofs.avar.sum_squares.Goals as goal

pub returns-in_err-total : goal.returns-in_err-total
returns-in_err-total g c =
    let s = g.S.Series.seen c.args.s.now in
    let l = c.loop-n in
    let x = c.in_ok-root.field-0 in
    let fits : SFits w64 x = search rules in
    let p = err_from_is_err_and c.from_residual-in_err-total.result c.from_residual-in_err-total.ensures.1 in
    rw (p.1, p.2) (total_step (second (samples s) c.args.gap) (s.size - 2 * c.args.gap) l.n l.total (to_z w64 (of_z w64 x)) (Err c.in_err-total.field-0.0) (omega arith) (to_z-of_z w64 x fits ∙ ok_same c.in_ok-root.ensures) (search rules) ∙ l.invariant)

pub loop-n-preserved : goal.loop-n-preserved
loop-n-preserved g c =
    let s = g.S.Series.seen c.args.s.now in
    let l = c.loop-n in
    let x = c.in_ok-root.field-0 in
    let fits : SFits w64 x = search rules in
    total_step (second (samples s) c.args.gap) (s.size - 2 * c.args.gap) l.n l.total (to_z w64 (of_z w64 x)) (Ok c.in_ok-total.total) (omega arith) (to_z-of_z w64 x fits ∙ ok_same c.in_ok-root.ensures) (search rules) ∙ l.invariant
