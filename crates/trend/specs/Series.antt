-- Without its trend a series is a series, where it is accepted.
use Rattle.std.specs.Prelude.{◌*◌, ◌≤◌}
use Rattle.algebra.specs.Trends.{scale}
use Rattle.algebra.proofs.Trends.{detrend_within}
use Rattle.series.specs.Limits.{farthest}
use Rattle.series.specs.Seen.{Seen, Lawful, samples}
use Rattle.trend.specs.Trend.{detrended}

pub detrended-Lawful : (s : Seen) → Lawful s → 5 * scale s.size * s.bound ≤ farthest → Lawful (detrended s)
detrended-Lawful s l near = record { short = l.short; near = near; within = detrend_within s.size s.bound (samples s) l.within }
