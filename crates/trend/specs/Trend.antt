-- A series s without its trend, which is again a series, and when it is accepted.
use Rattle.std.specs.Prelude.{◌*◌, Result}
use Rattle.algebra.specs.Trends.{scale, detrend}
use Rattle.series.specs.declared.fault.Fault.{Fault}
use Rattle.series.specs.Seen.{Seen, samples}
use Rattle.layers.specs.Layers.{pair_shape, layered}

abbrev pub detrended : Seen → Seen
detrended s = record { size = s.size; value = detrend s.size (samples s); bound = 5 * scale s.size * s.bound }

abbrev pub detrended_of : Seen → Result Seen Fault
detrended_of s = layered (pair_shape s.size) (detrended s)
