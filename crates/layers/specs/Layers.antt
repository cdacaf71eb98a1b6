-- Layers over a series s, each again a series, and when each is accepted.
use Rattle.std.specs.Prelude.{ℕ, ◌+◌, ◌-◌, ◌*◌, Bool, cond, ◌&&◌, Ok, Err, Result, nat_le}
use Rattle.algebra.specs.Differences.{step}
use Rattle.algebra.specs.Windows.{onward}
use Rattle.series.specs.declared.fault.Fault.{Fault}
use Rattle.series.specs.declared.fault.Cause.TheVariants.{ReachTooLarge, NoSuchPlace}
use Rattle.series.specs.declared.fault.Layer.TheVariants.{Series}
use Rattle.series.specs.Faults.{fault, and_then}
use Rattle.series.specs.Limits.{farthest}
use Rattle.series.specs.Seen.{Seen, samples}

-- ---- what each layer is
-- n samples from a place on
abbrev pub windowed : ℕ → ℕ → Seen → Seen
windowed place n s = record { size = n; value = onward place (samples s); bound = s.bound }

abbrev pub differenced : Seen → Seen
differenced s = record { size = s.size - 1; value = step (samples s); bound = 2 * s.bound }

-- ---- the shape that each asks for, of a length L
abbrev pub window_shape : ℕ → ℕ → ℕ → Bool
window_shape place n L = nat_le 1 n && nat_le (place + n) L

abbrev pub pair_shape : ℕ → Bool
pair_shape L = nat_le 2 L

-- ---- when it is accepted
-- refused where the shape fails, and then where the reach would pass the limit
abbrev pub accepted : Bool → ℕ → Result ℕ Fault
accepted shape reach = cond shape (cond (nat_le reach farthest) (Ok reach) (Err (fault ReachTooLarge Series 0))) (Err (fault NoSuchPlace Series 0))

abbrev pub layered : Bool → Seen → Result Seen Fault
layered shape t = and_then (accepted shape t.bound) (λ _. Ok t)

abbrev pub window_of : ℕ → ℕ → Seen → Result Seen Fault
window_of place n s = layered (window_shape place n s.size) (windowed place n s)

abbrev pub differences_of : Seen → Result Seen Fault
differences_of s = layered (pair_shape s.size) (differenced s)

-- what a maker answered, by what is seen of the layer that it made
abbrev pub through : {A : Type 0} → (A → Seen) → Result A Fault → Result Seen Fault
through view (Ok d) = Ok (view d)
through view (Err f) = Err f
