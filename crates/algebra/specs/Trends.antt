-- n samples without their trend. With k = n / 2 rounded down, the first k and the last k samples are the halves: they lie n - k apart, and at an odd n the middle sample is in neither.
use Rattle.std.specs.Prelude.{ℕ, ◌+◌, ◌-◌, ◌*◌, ◌/◌, ℤ, pos, ◌-ℤ◌, ◌*ℤ◌}
use Rattle.algebra.specs.Sums.{sum_z}

-- D, by which every sample is multiplied so that no division is left
abbrev pub scale : ℕ → ℕ
scale n = (n / 2) * (n - n / 2)

-- Δ, the sum of the last k samples less that of the first k
abbrev pub rise : ℕ → (ℕ → ℤ) → ℤ
rise n x = sum_z (n / 2) (λ i. x ((n - n / 2) + i)) -ℤ sum_z (n / 2) x

-- D·z - Δ·i, of a sample z at the place i
abbrev pub tilted : ℕ → ℤ → ℤ → ℕ → ℤ
tilted D Δ z i = (pos D *ℤ z) -ℤ (Δ *ℤ pos i)

abbrev pub detrend : ℕ → (ℕ → ℤ) → ℕ → ℤ
detrend n x i = tilted (scale n) (rise n x) (x i) i
