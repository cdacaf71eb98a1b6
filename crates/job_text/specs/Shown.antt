-- What is printed of an answer.
use Rattle.std.specs.Prelude.{ℕ, List, [], ◌∷◌, ◌++◌, Ok, Err, Result, codes, decimal}
use Rattle.std.specs.List.{flat_map}
use Rattle.series.specs.declared.fault.Fault.{Fault}
use Rattle.series.specs.Faults.{shown_fault}
use Rattle.job_text.specs.declared.answer.Answer.{Answer}
use Rattle.job_text.specs.declared.answer.Answer.TheVariants.{Added, Struck, Released, Part, ReadOut}

abbrev pub shown_answer : Answer → List ℕ
shown_answer (Added n) = codes "A " ++ decimal n
shown_answer (Struck n) = codes "S " ++ decimal n
shown_answer (Released n) = codes "R " ++ decimal n
shown_answer (Part p) = codes "P " ++ (decimal p.0 ++ (codes " " ++ decimal p.1))
shown_answer (ReadOut q) = codes "V " ++ decimal q

-- a line for each answer or refusal
abbrev pub shown_line : Result Answer Fault → List ℕ
shown_line (Ok a) = shown_answer a ++ (10 ∷ [])
shown_line (Err f) = shown_fault f ++ (10 ∷ [])

abbrev pub printed : List (Result Answer Fault) → List ℕ
printed answers = flat_map shown_line answers
