-- A sequence from one of its places on.
use Rattle.std.specs.Prelude.{ℕ, ◌+◌, ℤ}

abbrev pub onward : ℕ → (ℕ → ℤ) → ℕ → ℤ
onward place x i = x (place + i)
