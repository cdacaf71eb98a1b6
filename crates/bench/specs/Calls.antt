-- What each call on a run does. A run that holds the samples xs is asked, answers r, and then holds ys.
use Rattle.std.specs.Prelude.{◌≡◌, ℕ, ◌+◌, ◌-◌, ◌<◌, ◌≤◌, List, [], ◌∷◌, ◌++◌, length, take, ℤ, Ok, Err, Result, unsigned_abs}
use Rattle.series.specs.declared.fault.Cause.{Cause}
use Rattle.series.specs.declared.fault.Cause.TheVariants.{NothingToStrike}
use Rattle.series.specs.declared.fault.Layer.TheVariants.{Bench}
use Rattle.series.specs.declared.fault.Fault.{Fault}
use Rattle.series.specs.Faults.{fault}
use Rattle.series.specs.Limits.{fullest, largest}
use Rattle.series.specs.Listed.{listed}
use Rattle.series.specs.Stored.{NotHeld}
use Rattle.statistics.specs.Model.{Model, part_of}
use Rattle.statistics.specs.ReadOut.{read_out, ReadNear}

-- add: one sample more at the end, and the count then held
abbrev pub Added : List ℤ → ℤ → Result ℕ Fault → List ℤ → Type 0
Added xs x (Ok n) ys = (length xs < fullest) × (unsigned_abs x ≤ largest) × (n ≡ length xs + 1) × (ys ≡ xs ++ x ∷ [])
Added xs x (Err f) ys = (why : Cause) × NotHeld xs x why × (f ≡ fault why Bench (length xs)) × (ys ≡ xs)

-- strike: the newest sample off, and the count then held
abbrev pub Struck : List ℤ → Result ℕ Fault → List ℤ → Type 0
Struck xs (Ok n) ys = (0 < length xs) × (n ≡ length xs - 1) × (ys ≡ take (length xs - 1) xs)
Struck xs (Err f) ys = (xs ≡ []) × (f ≡ fault NothingToStrike Bench 0) × (ys ≡ xs)

-- part: the total and the divisor of a part; the run stays as it is
abbrev pub PartAnswered : List ℤ → Model → ℕ → ℕ → Result (ℕ × ℕ) Fault → List ℤ → Type 0
PartAnswered xs M m j r ys = (r ≡ part_of M.formula (listed xs) m j) × (ys ≡ xs)

-- read-out: the read-out of a factor, and how near it is; the run stays as it is
abbrev pub ReadAnswered : List ℤ → Model → ℕ → Result ℕ Fault → List ℤ → Type 0
ReadAnswered xs M m r ys = (r ≡ read_out M.formula (listed xs) m) × ReadNear M.formula (listed xs) m r × (ys ≡ xs)
