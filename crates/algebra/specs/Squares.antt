-- The square of a whole number, as a natural number.
use Rattle.std.specs.Prelude.{ℕ, ◌*◌, ℤ, unsigned_abs}

abbrev pub square : ℤ → ℕ
square z = unsigned_abs z * unsigned_abs z
