-- A series of any length n and reach r.
use Rattle.std.specs.Prelude.{ℕ, ◌+◌, ◌*◌, ◌%◌, ◌<◌, ◌≤◌, pos, ◌-ℤ◌, unsigned_abs}
use Rattle.std.proofs.Common.{arith, mod-lt}
use Rattle.std.proofs.lemmas.Int.{ints}
use Rattle.series.specs.Limits.{longest, farthest}
use Rattle.series.specs.Seen.{Seen, Lawful}

abbrev pub probe : ℕ → ℕ → Seen
probe n r = record { size = n; value = λ k. pos ((k * k * 5754853343 + 13) % (2 * r + 1)) -ℤ pos r; bound = r }

within : (h r : ℕ) → h < 2 * r + 1 → unsigned_abs (pos h -ℤ pos r) ≤ r
within h r l = omega (arith, ints)

pub probe-Lawful : (n r : ℕ) → n ≤ longest → r ≤ farthest → Lawful (probe n r)
probe-Lawful n r few near = record { short = few; near = near; within = λ k l. within ((k * k * 5754853343 + 13) % (2 * r + 1)) r (mod-lt (k * k * 5754853343 + 13) (omega arith)) }
