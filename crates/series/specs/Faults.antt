-- Why a call is refused, by which part and at which place, with the number of each case.
use Rattle.std.specs.Prelude.{ℕ, List, ◌++◌, codes, decimal, Ok, Err, Result}
use Rattle.series.specs.declared.fault.Cause.{Cause}
use Rattle.series.specs.declared.fault.Cause.TheVariants.{OutOfRange, Full, NothingToStrike, SeriesTooLong, FactorNotTaken, TooFewSamples, NoSuchPart, TotalTooLarge, ReachTooLarge, NoSuchPlace, TooLittleRoom, NoFigure, MalformedBytes, NoSuchNoise, MalformedLine, NotInThisState, UnknownName}
use Rattle.series.specs.declared.fault.Layer.{Layer}
use Rattle.series.specs.declared.fault.Layer.TheVariants.{Series, Statistic, Bench}
use Rattle.series.specs.declared.fault.Fault.{Fault}

abbrev pub cause_number : Cause → ℕ
cause_number OutOfRange = 1
cause_number Full = 2
cause_number NothingToStrike = 3
cause_number SeriesTooLong = 4
cause_number FactorNotTaken = 5
cause_number TooFewSamples = 6
cause_number NoSuchPart = 7
cause_number TotalTooLarge = 8
cause_number ReachTooLarge = 9
cause_number NoSuchPlace = 10
cause_number TooLittleRoom = 11
cause_number NoFigure = 12
cause_number MalformedBytes = 13
cause_number NoSuchNoise = 14
cause_number MalformedLine = 15
cause_number NotInThisState = 16
cause_number UnknownName = 17

abbrev pub layer_number : Layer → ℕ
layer_number Series = 1
layer_number Statistic = 2
layer_number Bench = 3

abbrev pub fault : Cause → Layer → ℕ → Fault
fault cause layer place = record { cause = cause; layer = layer; place = place }

-- a refusal goes on up; an answer goes into what follows
abbrev pub and_then : {A B : Type 0} → Result A Fault → (A → Result B Fault) → Result B Fault
and_then (Ok x) go = go x
and_then (Err f) go = Err f

-- what is printed of a refusal: a mark, the numbers of cause and layer, and the place
abbrev pub shown_fault : Fault → List ℕ
shown_fault f = codes "! " ++ (decimal (cause_number f.cause) ++ (codes " " ++ (decimal (layer_number f.layer) ++ (codes " " ++ decimal f.place))))
