-- Samples packed in bytes: four to a sample, least byte first, two's complement.
use Rattle.std.specs.Prelude.{◌≡◌, ℕ, ◌+◌, ◌*◌, ◌%◌, ◌<◌, ◌≤◌, cond, not, List, [], ◌∷◌, length, ℤ, pos, Some, None, Option, ◌==◌, nat_le, nat_lt, slice_index_or, unsigned_abs}
use Rattle.std.proofs.Common.{to_z}
use Rattle.std.specs.List.{position}
use Rattle.std.specs.Int.{w32}
use Rattle.series.specs.declared.fault.Fault.{Fault}
use Rattle.series.specs.declared.fault.Cause.TheVariants.{OutOfRange, Full, MalformedBytes}
use Rattle.series.specs.declared.fault.Layer.TheVariants.{Series}
use Rattle.series.specs.Faults.{fault}
use Rattle.series.specs.Limits.{fullest, largest}

abbrev pub sample : ℕ → ℕ → ℕ → ℕ → ℤ
sample b0 b1 b2 b3 = to_z w32 (b0 + b1 * 256 + b2 * 65536 + b3 * 16777216)

-- the samples of some bytes, taken off the front; a rest of fewer than four bytes says nothing
abbrev pub unpacked : List ℕ → List ℤ
unpacked [] = []
unpacked (a ∷ []) = []
unpacked (a ∷ (b ∷ [])) = []
unpacked (a ∷ (b ∷ (c ∷ []))) = []
unpacked (a ∷ (b ∷ (c ∷ (d ∷ rest)))) = sample a b c d ∷ unpacked rest

-- the place of the first sample out of range
abbrev pub first_beyond : List ℤ → Option ℕ
first_beyond xs = position (λ x. not (nat_le (unsigned_abs x) largest)) xs

-- it is out of range, and none before it is
pub record FirstOut (xs : List ℤ) (p : ℕ) : Type 0 where
  pub inside : p < length xs
  pub passes : largest < unsigned_abs (slice_index_or xs p (pos 0))
  pub before : (i : ℕ) → i < p → unsigned_abs (slice_index_or xs i (pos 0)) ≤ largest

abbrev pub beyond : Option ℕ → Option Fault
beyond None = None
beyond (Some k) = Some (fault OutOfRange Series k)

-- why bytes are refused, if they are
abbrev pub packed_refusal : List ℕ → Option Fault
packed_refusal bs = cond (length bs % 4 == 0) (cond (nat_lt (4 * fullest) (length bs)) (Some (fault Full Series 0)) (beyond (first_beyond (unpacked bs)))) (Some (fault MalformedBytes Series 0))

-- what a refusal tells: the first sample out of range; and what its absence tells: every sample is in range
abbrev pub RefusalTells : List ℕ → Option Fault → Type 0
RefusalTells bs o = ((p : ℕ) → o ≡ Some (fault OutOfRange Series p) → FirstOut (unpacked bs) p) × (o ≡ None → (length bs % 4 ≡ 0) × (length (unpacked bs) ≤ fullest) × ((i : ℕ) → unsigned_abs (slice_index_or (unpacked bs) i (pos 0)) ≤ largest))
