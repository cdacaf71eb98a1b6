-- Each layer that is accepted is a series.
use Rattle.std.specs.Prelude.{ℕ, ◌+◌, ◌*◌, ◌≤◌}
use Rattle.std.proofs.Common.{arith}
use Rattle.algebra.proofs.Sizes.{abs_sub}
use Rattle.series.specs.Limits.{farthest}
use Rattle.series.specs.Seen.{Seen, Lawful, samples}
use Rattle.layers.specs.Layers.{windowed, differenced}

pub window-Lawful : (place n : ℕ) (s : Seen) → Lawful s → place + n ≤ s.size → Lawful (windowed place n s)
window-Lawful place n s l h = record { short = omega (arith, l.short); near = l.near; within = λ k u. l.within (place + k) (omega arith) }

pub differences-Lawful : (s : Seen) → Lawful s → 2 ≤ s.size → 2 * s.bound ≤ farthest → Lawful (differenced s)
differences-Lawful s l h k = record { short = omega (arith, l.short); near = k; within = λ i u. omega (arith, abs_sub (samples s (i + 1)) (samples s i), l.within (i + 1) (omega arith), l.within i (omega arith)) }
