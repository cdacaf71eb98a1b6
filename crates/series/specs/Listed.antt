-- A list of samples that a run may hold, as a series.
use Rattle.std.specs.Prelude.{ℕ, ◌≤◌, List, length, ℤ, pos, vec_items, slice_index_or, unsigned_abs}
use Rattle.std.proofs.Common.{arith}
use Rattle.series.specs.declared.store.Store.{Store}
use Rattle.series.specs.Limits.{fullest, largest}
use Rattle.series.specs.Seen.{Seen, Lawful}

abbrev pub listed : List ℤ → Seen
listed xs = record { size = length xs; value = λ k. slice_index_or xs k (pos 0); bound = largest }

pub listed-Lawful : (xs : List ℤ) → length xs ≤ fullest → ((k : ℕ) → unsigned_abs (slice_index_or xs k (pos 0)) ≤ largest) → Lawful (listed xs)
listed-Lawful xs few small = record { short = omega arith; near = omega arith; within = λ k h. small k }

-- the samples that a store holds, the oldest first
abbrev pub held : Store → List ℤ
held s = vec_items s.samples

pub held-Lawful : (s : Store) → Lawful (listed (held s))
held-Lawful s = listed-Lawful (held s) (omega (arith, s.samples.ok.0, s.fits)) s.small
