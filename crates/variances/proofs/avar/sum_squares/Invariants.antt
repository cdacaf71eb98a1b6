use Rattle.std.proofs.Common.{◌≡◌, ◌-◌, ◌*◌}
use Rattle.algebra.specs.Differences.{second}
use Rattle.series.specs.Seen.{samples}
use Rattle.statistics.specs.Totals.{total_from, gated}
use Rattle.variances.proofs.avar.sum_squares.Given as goal

-- what is left gives the answer
abbrev pub invariant-loop-n : goal.invariant-loop-n
invariant-loop-n g l = let s = g.S.Series.seen l.s in let f = second (samples s) l.gap in let k = s.size - 2 * l.gap in total_from f l.n l.total (k - l.n) ≡ gated f k
