-- The total of the squares of some roots, in one word of 64 bits.
use Rattle.std.specs.Prelude.{◌≡◌, ℕ, zero, suc, ◌+◌, ◌-◌, ◌^◌, ◌<◌, ◌≤◌, cond, ◌⊎◌, ℤ, Some, None, Ok, Err, Option, Result, nat_le, unsigned_abs}
use Rattle.algebra.specs.Sums.{sum_n}
use Rattle.algebra.specs.Squares.{square}
use Rattle.series.specs.declared.fault.Fault.{Fault}
use Rattle.series.specs.declared.fault.Cause.TheVariants.{TotalTooLarge}
use Rattle.series.specs.declared.fault.Layer.TheVariants.{Statistic}
use Rattle.series.specs.Faults.{fault}

-- the largest word, and the largest size of a root
abbrev pub largest_word : ℕ
largest_word = 2 ^ 64 - 1

abbrev pub largest_root : ℕ
largest_root = 2 ^ 32 - 1

-- a number that a word holds
abbrev pub fitting : ℕ → Option ℕ
fitting n = cond (nat_le n largest_word) (Some n) None

-- the total t with the square of a root more
abbrev pub grown : ℕ → ℤ → Option ℕ
grown t r = cond (nat_le (unsigned_abs r) largest_root) (fitting (t + square r)) None

-- on from a step, or a refusal with a place
abbrev pub stepped : ℕ → (ℕ → Result ℕ Fault) → Option ℕ → Result ℕ Fault
stepped place go (Some u) = go u
stepped place go None = Err (fault TotalTooLarge Statistic place)

-- of so many roots from the number n on, with the total t so far
abbrev pub total_from : (ℕ → ℤ) → ℕ → ℕ → ℕ → Result ℕ Fault
total_from f n t zero = Ok t
total_from f n t (suc left) = stepped n (λ u. total_from f (n + 1) u left) (grown t (f n))

-- the total of the first k roots: from the first to the last, each tested
abbrev pub gated : (ℕ → ℤ) → ℕ → Result ℕ Fault
gated f k = total_from f 0 0 k

-- ---- what that is, without its steps
abbrev pub squares : ℕ → (ℕ → ℤ) → ℕ
squares k f = sum_n k (λ n. square (f n))

abbrev pub Inside : (ℕ → ℤ) → ℕ → Type 0
Inside f k = (n : ℕ) → n < k → unsigned_abs (f n) ≤ largest_root

-- the term n is the first that is outside, or that lifts the sum of the squares above a word
pub record FirstBeyond (f : ℕ → ℤ) (n : ℕ) : Type 0 where
  pub inside : Inside f n
  pub fits : squares n f ≤ largest_word
  pub passes : (largest_root < unsigned_abs (f n)) ⊎ (largest_word < squares (n + 1) f)

-- the sum of all squares where every root is inside and the sum fits; else the number of the first term where that ends
abbrev pub Totalled : (ℕ → ℤ) → ℕ → Result ℕ Fault → Type 0
Totalled f k (Ok t) = (t ≡ squares k f) × Inside f k × (t ≤ largest_word)
Totalled f k (Err e) = (n : ℕ) × (n < k) × (e ≡ fault TotalTooLarge Statistic n) × FirstBeyond f n

pub record TotalLaws : Type 0 where
  pub is : (f : ℕ → ℤ) (k : ℕ) → Totalled f k (gated f k)
  -- and nothing else is such a total
  pub only : (f : ℕ → ℤ) (k : ℕ) (r : Result ℕ Fault) → Totalled f k r → r ≡ gated f k
