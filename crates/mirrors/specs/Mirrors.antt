-- The two mirrors over a series s, each again a series, and when each is accepted.
use Rattle.std.specs.Prelude.{ℕ, ◌-◌, ◌*◌, Bool, ◌&&◌, Result, nat_le}
use Rattle.algebra.specs.Mirrors.{odd_mirror, even_mirror}
use Rattle.series.specs.declared.fault.Fault.{Fault}
use Rattle.series.specs.Limits.{longest}
use Rattle.series.specs.Seen.{Seen, samples}
use Rattle.layers.specs.Layers.{layered}

abbrev pub odd_mirrored : Seen → Seen
odd_mirrored s = record { size = 3 * s.size - 4; value = odd_mirror s.size (samples s); bound = 3 * s.bound }

abbrev pub even_mirrored : Seen → Seen
even_mirrored s = record { size = 3 * s.size; value = even_mirror s.size (samples s); bound = s.bound }

-- ---- the shape that each asks for, of a length L
abbrev pub odd_shape : ℕ → Bool
odd_shape L = nat_le 3 L && nat_le (3 * L - 4) longest

abbrev pub even_shape : ℕ → Bool
even_shape L = nat_le 1 L && nat_le (3 * L) longest

-- ---- when it is accepted
abbrev pub odd_mirror_of : Seen → Result Seen Fault
odd_mirror_of s = layered (odd_shape s.size) (odd_mirrored s)

abbrev pub even_mirror_of : Seen → Result Seen Fault
even_mirror_of s = layered (even_shape s.size) (even_mirrored s)
