-- Each mirror that is accepted is a series.
use Rattle.std.specs.Prelude.{◌-◌, ◌*◌, ◌≤◌}
use Rattle.algebra.specs.Mirrors.{folded}
use Rattle.algebra.proofs.Mirrors.{folded_below, odd_within}
use Rattle.series.specs.Limits.{longest, farthest}
use Rattle.series.specs.Seen.{Seen, Lawful, samples}
use Rattle.mirrors.specs.Mirrors.{odd_mirrored, even_mirrored}

pub odd_mirror-Lawful : (s : Seen) → Lawful s → 3 ≤ s.size → 3 * s.size - 4 ≤ longest → 3 * s.bound ≤ farthest → Lawful (odd_mirrored s)
odd_mirror-Lawful s l enough short near = record { short = short; near = near; within = odd_within s.size s.bound (samples s) enough l.within }

pub even_mirror-Lawful : (s : Seen) → Lawful s → 3 * s.size ≤ longest → Lawful (even_mirrored s)
even_mirror-Lawful s l short = record { short = short; near = l.near; within = λ k u. l.within (folded s.size k) (folded_below s.size k u) }
