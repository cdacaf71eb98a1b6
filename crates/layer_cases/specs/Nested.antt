-- The even mirror of a detrended window, and a sample of it.
use Rattle.std.specs.Prelude.{ℕ, ℤ, Result}
use Rattle.series.specs.declared.fault.Fault.{Fault}
use Rattle.series.specs.Faults.{and_then}
use Rattle.series.specs.Seen.{Seen, sample_of}
use Rattle.layers.specs.Layers.{window_of}
use Rattle.trend.specs.Trend.{detrended_of}
use Rattle.mirrors.specs.Mirrors.{even_mirror_of}

abbrev pub nest_of : ℕ → ℕ → Seen → Result Seen Fault
nest_of first count s = and_then (and_then (window_of first count s) detrended_of) even_mirror_of

abbrev pub nested_sample : ℕ → ℕ → ℕ → Seen → Result ℤ Fault
nested_sample first count place s = and_then (nest_of first count s) (λ e. sample_of e place)
