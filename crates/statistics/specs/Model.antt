-- What a statistic is.
use Rattle.std.specs.Prelude.{◌≡◌, ℕ, ◌*◌, ◌^◌, ◌<◌, ◌≤◌, Bool, true, false, cond, ◌&&◌, ◌⊎◌, ℤ, Ok, Err, Result, nat_le, nat_lt}
use Rattle.algebra.specs.Squares.{square}
use Rattle.series.specs.declared.fault.Fault.{Fault}
use Rattle.series.specs.declared.fault.Cause.TheVariants.{SeriesTooLong, FactorNotTaken, TooFewSamples, NoSuchPart, ReachTooLarge}
use Rattle.series.specs.declared.fault.Layer.TheVariants.{Series, Statistic}
use Rattle.series.specs.Faults.{fault, and_then}
use Rattle.series.specs.Limits.{fullest}
use Rattle.series.specs.Seen.{Seen, Alike, RampOf, DriftOf, ReversedOf}
use Rattle.statistics.specs.declared.blindness.Blindness.{Blindness}
use Rattle.statistics.specs.declared.blindness.Blindness.TheVariants.{Drifts}
use Rattle.statistics.specs.Totals.{gated, Totalled}

-- A formula. N is a length, m a factor, j a part and R a reach.
pub record Formula : Type 0 where
  pub blindness : Blindness
  -- whether it takes the factor m, and whether N samples are enough for it
  pub takes : ℕ → Bool
  pub enough : ℕ → ℕ → Bool
  -- of N and m the number of parts; with j the divisor and the number of terms
  pub parts : ℕ → ℕ → ℕ
  pub divisor : ℕ → ℕ → ℕ → ℕ
  pub terms : ℕ → ℕ → ℕ → ℕ
  -- of N, R and m, whether every layer that the roots are made of keeps its reach
  pub reaches : ℕ → ℕ → ℕ → Bool
  -- of a series, m and j, the root of each term, from 0
  pub root : Seen → ℕ → ℕ → ℕ → ℤ

-- ---- what follows from a formula
-- the number of parts, or the first refusal that applies: too long a series, a factor not taken, too few samples
abbrev pub accepted : ℕ → Bool → Bool → ℕ → Result ℕ Fault
accepted n takes enough parts =
    cond (nat_lt fullest n) (Err (fault SeriesTooLong Statistic 0))
    (cond takes (cond enough (Ok parts) (Err (fault TooFewSamples Statistic 0))) (Err (fault FactorNotTaken Statistic 0)))

abbrev pub parts_of : Formula → ℕ → ℕ → Result ℕ Fault
parts_of F n m = accepted n (F.takes m) (F.enough n m) (F.parts n m)

-- the number of parts, where j is one of them
abbrev pub admitted : Result ℕ Fault → ℕ → Result ℕ Fault
admitted parts j = and_then parts (λ k. cond (nat_lt 0 j && nat_le j k) (Ok k) (Err (fault NoSuchPart Statistic j)))

abbrev pub divisor_of : Formula → ℕ → ℕ → ℕ → Result ℕ Fault
divisor_of F n m j = and_then (admitted (parts_of F n m) j) (λ _. Ok (F.divisor n m j))

abbrev pub terms_of : Formula → ℕ → ℕ → ℕ → Result ℕ Fault
terms_of F n m j = and_then (admitted (parts_of F n m) j) (λ _. Ok (F.terms n m j))

-- the total of a part that is accepted
abbrev pub part_total : Formula → Seen → ℕ → ℕ → Result ℕ Fault
part_total F s m j = cond (F.reaches s.size s.bound m) (gated (F.root s m j) (F.terms s.size m j)) (Err (fault ReachTooLarge Series 0))

abbrev pub total_of : Formula → Seen → ℕ → ℕ → Result ℕ Fault
total_of F s m j = and_then (admitted (parts_of F s.size m) j) (λ _. part_total F s m j)

-- a part: its total, and its divisor
abbrev pub part_of : Formula → Seen → ℕ → ℕ → Result (ℕ × ℕ) Fault
part_of F s m j = and_then (total_of F s m j) (λ t. and_then (divisor_of F s.size m j) (λ v. Ok (t, v)))

-- j is a part of N samples at the factor m
abbrev pub IsPart : Formula → ℕ → ℕ → ℕ → Type 0
IsPart F n m j = (k : ℕ) × (admitted (parts_of F n m) j ≡ Ok k)

-- ---- when a factor is refused, and a total
-- the factor m at N samples: the first of three tests that fails gives the refusal
pub record Suits (F : Formula) (n m : ℕ) : Type 0 where
  pub short : n ≤ fullest
  pub taken : F.takes m ≡ true
  pub enough : F.enough n m ≡ true

abbrev pub FactorAnswered : Formula → ℕ → ℕ → Result ℕ Fault → Type 0
FactorAnswered F n m (Ok k) = Suits F n m × (k ≡ F.parts n m)
FactorAnswered F n m (Err f) =
    ((fullest < n) × (f ≡ fault SeriesTooLong Statistic 0))
    ⊎ ((n ≤ fullest) × (F.takes m ≡ false) × (f ≡ fault FactorNotTaken Statistic 0))
    ⊎ ((n ≤ fullest) × (F.takes m ≡ true) × (F.enough n m ≡ false) × (f ≡ fault TooFewSamples Statistic 0))

-- the total of an accepted part: a layer that does not keep its reach refuses it; else it is the sum of all squares, or is refused at the first term that passes
abbrev pub PartTotalled : Formula → Seen → ℕ → ℕ → Result ℕ Fault → Type 0
PartTotalled F s m j r =
    ((F.reaches s.size s.bound m ≡ false) × (r ≡ Err (fault ReachTooLarge Series 0)))
    ⊎ ((F.reaches s.size s.bound m ≡ true) × Totalled (F.root s m j) (F.terms s.size m j) r)

pub record RefusalLaws : Type 0 where
  pub parts : (F : Formula) (n m : ℕ) → FactorAnswered F n m (parts_of F n m)
  pub refused : (F : Formula) (n m j : ℕ) (f : Fault) → parts_of F n m ≡ Err f → admitted (parts_of F n m) j ≡ Err f
  pub no_part : (F : Formula) (n m j k : ℕ) → parts_of F n m ≡ Ok k → (j ≡ 0) ⊎ (k < j) → admitted (parts_of F n m) j ≡ Err (fault NoSuchPart Statistic j)
  pub a_part : (F : Formula) (n m j k : ℕ) → parts_of F n m ≡ Ok k → 1 ≤ j → j ≤ k → admitted (parts_of F n m) j ≡ Ok k
  pub not_admitted : (F : Formula) (s : Seen) (m j : ℕ) (f : Fault) → admitted (parts_of F s.size m) j ≡ Err f → total_of F s m j ≡ Err f
  pub total : (F : Formula) (s : Seen) (m j : ℕ) → IsPart F s.size m j → PartTotalled F s m j (total_of F s m j)

-- equal totals, or refusals of the same cause
abbrev pub SameTotal : Result ℕ Fault → Result ℕ Fault → Type 0
SameTotal (Ok t) (Ok u) = u ≡ t
SameTotal (Ok t) (Err g) = ⊥
SameTotal (Err f) (Ok u) = ⊥
SameTotal (Err f) (Err g) = g.cause ≡ f.cause

-- A statistic: a formula that keeps these laws.
pub record Model : Type 0 where
  pub formula : Formula
  -- a divisor is a word, and not 0
  pub divisible : (n m j : ℕ) → IsPart formula n m j → (1 ≤ formula.divisor n m j) × (formula.divisor n m j < 2 ^ 64)
  -- a total depends on the series alone
  pub local : (s t : Seen) (m j : ℕ) → Alike s t → total_of formula t m j ≡ total_of formula s m j
  -- it scales with the samples, and is blind to where they start and to a ramp,
  pub ramp_blind : (s t : Seen) (m j : ℕ) (c a b : ℤ) (T U : ℕ) → RampOf c a b s t → total_of formula s m j ≡ Ok T → total_of formula t m j ≡ Ok U → U ≡ square c * T
  -- and, where that is its blindness, to a drift
  pub drift_blind : formula.blindness ≡ Drifts → (s t : Seen) (m j : ℕ) (c a b d : ℤ) (T U : ℕ) → DriftOf c a b d s t → total_of formula s m j ≡ Ok T → total_of formula t m j ≡ Ok U → U ≡ square c * T
  -- the series read backwards gives the same total
  pub mirrored : (s t : Seen) (m j : ℕ) → ReversedOf s t → SameTotal (total_of formula s m j) (total_of formula t m j)
