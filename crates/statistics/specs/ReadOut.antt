-- The read-out of a factor: the sum over the parts of 4,096 · T / V, each rounded down.
use Rattle.std.specs.Prelude.{◌≡◌, ℕ, zero, suc, ◌+◌, ◌*◌, ◌/◌, ◌<◌, ◌≤◌, ◌⊎◌, Ok, Err, Result}
use Rattle.algebra.specs.Sums.{sum_n}
use Rattle.series.specs.declared.fault.Fault.{Fault}
use Rattle.series.specs.declared.fault.Cause.TheVariants.{TotalTooLarge}
use Rattle.series.specs.declared.fault.Layer.TheVariants.{Statistic}
use Rattle.series.specs.Faults.{fault, and_then}
use Rattle.series.specs.Seen.{Seen}
use Rattle.statistics.specs.Totals.{largest_word, fitting, stepped}
use Rattle.statistics.specs.Model.{Formula, parts_of, total_of}

-- a part's share
abbrev pub share : ℕ → ℕ → ℕ
share t v = (4096 * t) / v

-- the sum so far with the share of the part j
abbrev pub read_step : Formula → Seen → ℕ → ℕ → ℕ → Result ℕ Fault
read_step F s m j sum = and_then (total_of F s m j) (λ t. stepped (F.terms s.size m j) (λ u. Ok u) (fitting (sum + share t (F.divisor s.size m j))))

-- with the parts from j on, of which so many are left
abbrev pub read_from : Formula → Seen → ℕ → ℕ → ℕ → ℕ → Result ℕ Fault
read_from F s m j zero sum = Ok sum
read_from F s m j (suc left) sum = and_then (read_step F s m j sum) (λ u. read_from F s m (j + 1) left u)

abbrev pub read_out : Formula → Seen → ℕ → Result ℕ Fault
read_out F s m = and_then (parts_of F s.size m) (λ k. read_from F s m 1 k 0)

-- ---- the exact variance, as a fraction
pub record Fraction : Type 0 where
  pub over : ℕ
  pub under : ℕ

abbrev pub plus : Fraction → Fraction → Fraction
plus p q = record { over = p.over * q.under + q.over * p.under; under = p.under * q.under }

abbrev pub or_zero : Result ℕ Fault → ℕ
or_zero (Ok t) = t
or_zero (Err f) = 0

-- T / V of a part, and the sum of the first k parts
abbrev pub exact_part : Formula → Seen → ℕ → ℕ → Fraction
exact_part F s m j = record { over = or_zero (total_of F s m j); under = F.divisor s.size m j }

abbrev pub exact : Formula → Seen → ℕ → ℕ → Fraction
exact F s m zero = record { over = 0; under = 1 }
exact F s m (suc k) = plus (exact F s m k) (exact_part F s m (k + 1))

-- ---- what a read-out is, without its steps
-- each of the first k parts has a total, and the sum of their shares
abbrev pub AllTotals : Formula → Seen → ℕ → ℕ → Type 0
AllTotals F s m k = (j : ℕ) → 1 ≤ j → j ≤ k → (t : ℕ) × (total_of F s m j ≡ Ok t)

abbrev pub shares : Formula → Seen → ℕ → ℕ → ℕ
shares F s m k = sum_n k (λ i. share (or_zero (total_of F s m (i + 1))) (F.divisor s.size m (i + 1)))

-- The read-out q of k parts is the sum of their shares; it is at most 4,096 times the exact variance, and short of it by less than k.
pub record Near (F : Formula) (s : Seen) (m k q : ℕ) : Type 0 where
  pub totals : AllTotals F s m k
  pub sum : q ≡ shares F s m k
  pub fits : q ≤ largest_word
  pub least : q * (exact F s m k).under ≤ 4096 * (exact F s m k).over
  pub most : 1 ≤ k → 4096 * (exact F s m k).over < (q + k) * (exact F s m k).under

-- the part after the first d is the first that has no total, or whose share lifts the sum above a word
pub record FirstRefused (F : Formula) (s : Seen) (m d : ℕ) (f : Fault) : Type 0 where
  pub totals : AllTotals F s m d
  pub fits : shares F s m d ≤ largest_word
  pub why : (total_of F s m (d + 1) ≡ Err f) ⊎ (((t : ℕ) × (total_of F s m (d + 1) ≡ Ok t)) × (largest_word < shares F s m (d + 1)) × (f ≡ fault TotalTooLarge Statistic (F.terms s.size m (d + 1))))

unfoldable pub ReadNear : Formula → Seen → ℕ → Result ℕ Fault → Type 0
ReadNear F s m (Ok q) = (k : ℕ) × (parts_of F s.size m ≡ Ok k) × Near F s m k q
ReadNear F s m (Err f) = (parts_of F s.size m ≡ Err f) ⊎ ((k : ℕ) × (parts_of F s.size m ≡ Ok k) × ((d : ℕ) × (d < k) × FirstRefused F s m d f))
