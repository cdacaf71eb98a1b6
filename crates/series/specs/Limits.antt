-- The limits of a series and of a run.
use Rattle.std.specs.Prelude.{ℕ, ◌^◌}

-- a series has at most so many samples
abbrev pub longest : ℕ
longest = 12288

-- and reaches at most so far
abbrev pub farthest : ℕ
farthest = 2 ^ 36

-- a run, and packed bytes, hold at most so many samples,
abbrev pub fullest : ℕ
fullest = 4096

-- each of at most this size
abbrev pub largest : ℕ
largest = 1048576
