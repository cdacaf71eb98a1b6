-- Samples x 0 to x (n - 1) between two mirrors.
use Rattle.std.specs.Prelude.{ℕ, ◌-◌, ◌*◌, cond, ℤ, pos, ◌-ℤ◌, ◌*ℤ◌, nat_lt}

-- z reflected in an end sample
abbrev pub about : ℤ → ℤ → ℤ
about end z = (pos 2 *ℤ end) -ℤ z

-- Between the reflections in both end samples, which stand once each: 3n - 4 samples,
-- 2x(0) - x(n - 2), .., 2x(0) - x(1), then x(0), .., x(n - 1), then 2x(n - 1) - x(n - 2), .., 2x(n - 1) - x(1)
abbrev pub odd_mirror : ℕ → (ℕ → ℤ) → ℕ → ℤ
odd_mirror n x i = cond (nat_lt i (n - 2)) (about (x 0) (x (n - 2 - i))) (cond (nat_lt i (2 * n - 2)) (x (i - (n - 2))) (about (x (n - 1)) (x (3 * n - 4 - i))))

-- Backwards, forwards, backwards, so that each end sample stands twice: 3n samples.
-- The place of x that the place i shows
abbrev pub folded : ℕ → ℕ → ℕ
folded n i = cond (nat_lt i n) (n - 1 - i) (cond (nat_lt i (2 * n)) (i - n) (3 * n - 1 - i))

abbrev pub even_mirror : ℕ → (ℕ → ℤ) → ℕ → ℤ
even_mirror n x i = x (folded n i)
