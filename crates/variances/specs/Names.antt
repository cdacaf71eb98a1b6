-- The statistics by name.
use Rattle.std.specs.Prelude.{◌≡◌, ℕ, List, Ok, Err, codes, Result, ◌≢◌}
use Rattle.series.specs.declared.fault.Cause.{Cause}
use Rattle.series.specs.declared.fault.Cause.TheVariants.{UnknownName}
use Rattle.statistics.specs.Model.{Model}
use Rattle.variances.specs.declared.name.Variance.{Variance}
use Rattle.variances.specs.declared.name.Variance.TheVariants.{Avar}
use Rattle.variances.specs.Avar.{avar}

abbrev pub name_of : Variance → List ℕ
name_of Avar = codes "avar"

abbrev pub model_of : Variance → Model
model_of Avar = avar

-- the statistic that a word names, or a refusal where it names none
abbrev pub Named : List ℕ → Result Variance Cause → Type 0
Named w (Ok v) = w ≡ name_of v
Named w (Err why) = ((v : Variance) → w ≢ name_of v) × (why ≡ UnknownName)
