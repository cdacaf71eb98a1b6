use Rattle.std.proofs.Common.{rules}
use Rattle.statistics.proofs.ReadOuts.{read_near}
use Rattle.statistics.proofs.read_out.read_out.Goals as goal

pub returns-in_err-parts-clause-near : goal.returns-in_err-parts-clause-near
returns-in_err-parts-clause-near g c = read_near g.T.Statistic.model (g.S.Series.seen c.args.s.now) c.args.factor c.from_residual.result (search rules)

pub returns-clause-near : goal.returns-clause-near
returns-clause-near g c = read_near g.T.Statistic.model (g.S.Series.seen c.args.s.now) c.args.factor c.sum_of_shares.result (search rules)
