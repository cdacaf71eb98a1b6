-- The size of a sum, a difference and a product.
use Rattle.std.proofs.Common.{◌≡◌, ℕ, zero, suc, ◌+◌, ◌*◌, ◌<◌, ◌≤◌, ℤ, pos, negsuc, ◌+ℤ◌, ◌-ℤ◌, ◌*ℤ◌, nat_abs, arith}
use borrow.Author.Differences.{ints}
use Rattle.algebra.specs.Sums.{sum_z}

pub abs_add : (a b : ℤ) → nat_abs (a +ℤ b) ≤ nat_abs a + nat_abs b
abs_add a b = omega (arith, ints)

pub abs_sub : (a b : ℤ) → nat_abs (a -ℤ b) ≤ nat_abs a + nat_abs b
abs_sub a b = omega (arith, ints)

pub abs_times : (a b : ℤ) → nat_abs (a *ℤ b) ≡ nat_abs a * nat_abs b
abs_times (pos m) (pos n) = omega (arith, ints)
abs_times (pos m) (negsuc n) = omega (arith, ints)
abs_times (negsuc m) (pos n) = omega (arith, ints)
abs_times (negsuc m) (negsuc n) = omega (arith, ints)

pub abs_sum : (k b : ℕ) (f : ℕ → ℤ) → ((i : ℕ) → i < k → nat_abs (f i) ≤ b) → nat_abs (sum_z k f) ≤ k * b
abs_sum zero b f h = omega arith
abs_sum (suc k) b f h = omega (arith, abs_sum k b f (λ i l. h i (omega arith)), abs_add (sum_z k f) (f k), h k (omega arith))
