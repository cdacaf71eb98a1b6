-- Differences of a sequence x 0, x 1, .., and how one sequence follows from another.
use Rattle.std.specs.Prelude.{◌≡◌, ℕ, ◌+◌, ◌-◌, ◌*◌, ◌/◌, ◌<◌, ℤ, pos, ◌+ℤ◌, ◌-ℤ◌, ◌*ℤ◌}

-- the difference from a place to the next
abbrev pub step : (ℕ → ℤ) → ℕ → ℤ
step x i = x (i + 1) -ℤ x i

-- the second difference at the distance m, from the place n on
abbrev pub second : (ℕ → ℤ) → ℕ → ℕ → ℤ
second x m n = (x n -ℤ pos 2 *ℤ x (n + m)) +ℤ x (n + 2 * m)

-- c·z + a + b·i, at the place i
abbrev pub ramped : ℤ → ℤ → ℤ → ℕ → ℤ → ℤ
ramped c a b i z = ((c *ℤ z) +ℤ a) +ℤ (b *ℤ pos i)

-- the same with a drift, d·i(i - 1)/2 more
abbrev pub drifted : ℤ → ℤ → ℤ → ℤ → ℕ → ℤ → ℤ
drifted c a b d i z = ramped c a b i z +ℤ (d *ℤ pos ((i * (i - 1)) / 2))

-- of the n first places: y is x with a scale, a start and a ramp; with a drift too; y is x read backwards
abbrev pub Ramped : ℕ → ℤ → ℤ → ℤ → (ℕ → ℤ) → (ℕ → ℤ) → Type 0
Ramped n c a b x y = (i : ℕ) → i < n → y i ≡ ramped c a b i (x i)

abbrev pub Drifted : ℕ → ℤ → ℤ → ℤ → ℤ → (ℕ → ℤ) → (ℕ → ℤ) → Type 0
Drifted n c a b d x y = (i : ℕ) → i < n → y i ≡ drifted c a b d i (x i)

abbrev pub Turned : ℕ → (ℕ → ℤ) → (ℕ → ℤ) → Type 0
Turned n x y = (i : ℕ) → i < n → y i ≡ x (n - 1 - i)
