use Rattle.std.proofs.Common.{◌≡◌, ◌+◌, ◌-◌}
use Rattle.statistics.specs.ReadOut.{read_from}
use Rattle.statistics.proofs.read_out.sum_of_shares.Given as goal

-- what is left gives the answer
abbrev pub invariant-loop-number : goal.invariant-loop-number
invariant-loop-number g l = let F = g.T.Statistic.model.formula in let s = g.S.Series.seen l.s in read_from F s l.factor l.number (l.parts + 1 - l.number) l.sum ≡ read_from F s l.factor 1 l.parts 0
