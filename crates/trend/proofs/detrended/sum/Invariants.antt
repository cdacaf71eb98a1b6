use Rattle.std.proofs.Common.{◌≡◌, ◌-◌, ◌*◌, ◌≤◌, nat_abs}
use Rattle.algebra.specs.Sums.{sum_z}
use Rattle.algebra.specs.Windows.{onward}
use Rattle.series.specs.Limits.{farthest}
use Rattle.series.specs.Seen.{samples}
use Rattle.trend.proofs.detrended.sum.Given as goal

abbrev pub invariant-loop-place : goal.invariant-loop-place
invariant-loop-place g l = record { is : l.total ≡ sum_z (l.place - l.first) (onward l.first (samples (g.S.Series.seen l.s))); small : nat_abs l.total ≤ (l.place - l.first) * farthest }
