-- The meaning of a series: so many samples, the sample at each place, and a reach.
use Rattle.std.specs.Prelude.{◌≡◌, ℕ, ◌<◌, ◌≤◌, cond, ℤ, Ok, Err, Result, nat_lt, unsigned_abs}
use Rattle.algebra.specs.Differences.{Ramped, Drifted, Turned}
use Rattle.series.specs.declared.fault.Fault.{Fault}
use Rattle.series.specs.declared.fault.Cause.TheVariants.{NoSuchPlace}
use Rattle.series.specs.declared.fault.Layer.TheVariants.{Series}
use Rattle.series.specs.Faults.{fault}
use Rattle.series.specs.Limits.{longest, farthest}

pub record Seen : Type 0 where
  pub size : ℕ
  pub value : ℕ → ℤ
  pub bound : ℕ

-- what holds of it: it is short enough, its reach is within the limit, and no sample passes its reach
pub record Lawful (s : Seen) : Type 0 where
  pub short : s.size ≤ longest
  pub near : s.bound ≤ farthest
  pub within : (k : ℕ) → k < s.size → unsigned_abs (s.value k) ≤ s.bound

-- of every series of a type
pub record Laws {A : Type 0} (seen : A → Seen) : Type 0 where
  pub short : (s : A) → (seen s).size ≤ longest
  pub near : (s : A) → (seen s).bound ≤ farthest
  pub within : (s : A) (k : ℕ) → k < (seen s).size → unsigned_abs ((seen s).value k) ≤ (seen s).bound

pub all : {A : Type 0} {seen : A → Seen} → ((s : A) → Lawful (seen s)) → Laws seen
all h = record { short = λ s. (h s).short; near = λ s. (h s).near; within = λ s. (h s).within }

pub one : {A : Type 0} {seen : A → Seen} → Laws seen → (s : A) → Lawful (seen s)
one l s = record { short = l.short s; near = l.near s; within = l.within s }

-- the sample at a place, from 0; a place that is not below the size is refused
abbrev pub sample_of : Seen → ℕ → Result ℤ Fault
sample_of s k = cond (nat_lt k s.size) (Ok (s.value k)) (Err (fault NoSuchPlace Series k))

-- the samples, as a sequence
abbrev pub samples : Seen → ℕ → ℤ
samples s = s.value

-- ---- how a series t follows from another one, s
-- it cannot be told from it
pub record Alike (s t : Seen) : Type 0 where
  pub size : t.size ≡ s.size
  pub bound : t.bound ≡ s.bound
  pub value : (k : ℕ) → k < s.size → t.value k ≡ s.value k

-- its samples are c·x + a + b·i, whatever its reach
pub record RampOf (c a b : ℤ) (s t : Seen) : Type 0 where
  pub size : t.size ≡ s.size
  pub value : Ramped s.size c a b (samples s) (samples t)

-- and with a drift, d·i(i - 1)/2 more
pub record DriftOf (c a b d : ℤ) (s t : Seen) : Type 0 where
  pub size : t.size ≡ s.size
  pub value : Drifted s.size c a b d (samples s) (samples t)

-- it is s read backwards
pub record ReversedOf (s t : Seen) : Type 0 where
  pub size : t.size ≡ s.size
  pub bound : t.bound ≡ s.bound
  pub value : Turned s.size (samples s) (samples t)
