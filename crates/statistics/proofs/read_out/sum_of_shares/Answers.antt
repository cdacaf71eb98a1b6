use Rattle.std.proofs.Common.{Ok, Err, sym, ◌∙◌, arith}
use Rattle.std.proofs.lemmas.Result.{err_from_is_err_and}
use Rattle.statistics.proofs.Formulas.{part_stands}
use Rattle.statistics.proofs.ReadOuts.{read_next}
use Rattle.statistics.proofs.read_out.sum_of_shares.Goals as goal

pub add_share-requires : goal.add_share-requires
add_share-requires g c = (c.args.parts, part_stands g.T.Statistic.model.formula (g.S.Series.seen c.args.s.now).size c.args.factor c.loop-number.number c.args.parts c.requires (omega arith) (omega arith))

pub returns-in_err-sum : goal.returns-in_err-sum
returns-in_err-sum g c =
    let p = err_from_is_err_and c.from_residual.result c.from_residual.ensures.1 in
    rw (p.1, p.2) (sym (read_next g.T.Statistic.model.formula (g.S.Series.seen c.args.s.now) c.args.factor c.args.parts c.loop-number.number c.loop-number.sum (Err c.in_err-sum.field-0.0) (omega arith) c.in_err-sum.ensures) ∙ c.loop-number.invariant)

pub loop-number-preserved : goal.loop-number-preserved
loop-number-preserved g c = sym (read_next g.T.Statistic.model.formula (g.S.Series.seen c.args.s.now) c.args.factor c.args.parts c.loop-number.number c.loop-number.sum (Ok c.in_ok-sum.sum) (omega arith) c.in_ok-sum.ensures) ∙ c.loop-number.invariant
