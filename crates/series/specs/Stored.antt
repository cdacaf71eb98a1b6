-- What a store's calls do: it held xs, answers r, and then holds ys.
use Rattle.std.specs.Prelude.{◌≡◌, ℕ, ◌+◌, ◌-◌, ◌<◌, ◌≤◌, ◌⊎◌, List, [], ◌∷◌, ◌++◌, length, take, ℤ, Some, None, Ok, Err, Option, Result, unsigned_abs}
use Rattle.series.specs.declared.fault.Cause.{Cause}
use Rattle.series.specs.declared.fault.Cause.TheVariants.{OutOfRange, Full}
use Rattle.series.specs.Limits.{fullest, largest}

-- why the sample x is not held after xs
abbrev pub NotHeld : List ℤ → ℤ → Cause → Type 0
NotHeld xs x why = ((length xs ≡ fullest) × (why ≡ Full)) ⊎ ((length xs < fullest) × (largest < unsigned_abs x) × (why ≡ OutOfRange))

abbrev pub Pushed : List ℤ → ℤ → Result ℕ Cause → List ℤ → Type 0
Pushed xs x (Ok n) ys = (length xs < fullest) × (unsigned_abs x ≤ largest) × (n ≡ length xs + 1) × (ys ≡ xs ++ x ∷ [])
Pushed xs x (Err why) ys = NotHeld xs x why × (ys ≡ xs)

abbrev pub Popped : List ℤ → Option ℕ → List ℤ → Type 0
Popped xs (Some n) ys = (0 < length xs) × (n ≡ length xs - 1) × (ys ≡ take (length xs - 1) xs)
Popped xs None ys = (xs ≡ []) × (ys ≡ [])
