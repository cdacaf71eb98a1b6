-- What a job does: line by line, the bench's own calls.
use Rattle.std.specs.Prelude.{◌≡◌, ℕ, Bool, true, false, List, [], ◌∷◌, length, ℤ, Ok, Err, Result, nat_le}
use Rattle.series.specs.declared.fault.Cause.{Cause}
use Rattle.series.specs.declared.fault.Cause.TheVariants.{MalformedLine, NotInThisState, UnknownName}
use Rattle.series.specs.declared.fault.Layer.TheVariants.{Bench}
use Rattle.series.specs.declared.fault.Fault.{Fault}
use Rattle.series.specs.Faults.{fault}
use Rattle.variances.specs.declared.name.Variance.{Variance}
use Rattle.variances.specs.Names.{model_of, Named}
use Rattle.bench.specs.Calls.{Added, Struck, PartAnswered, ReadAnswered}
use Rattle.bench.specs.Runs.{held_by}
use Rattle.bench.specs.declared.run.Run.{Run}
use Rattle.bench.specs.declared.run.Open.{Open as StillOpen}
use Rattle.job_text.specs.declared.answer.Answer.{Answer}
use Rattle.job_text.specs.declared.answer.Answer.TheVariants as answer
use Rattle.job_text.specs.declared.job.Job.{Job}
use Rattle.job_text.specs.declared.job.Job.TheVariants.{Open, Released}
use Rattle.job_line.specs.declared.lines.Line.{Line}
use Rattle.job_line.specs.declared.lines.Line.TheVariants.{Add, Strike, Part, ReadOut, Release}
use Rattle.job_line.specs.declared.malformed.Malformed.{Malformed}
use Rattle.job_line.specs.Grammar.{line_of}
use Rattle.job_line.specs.Said.{told_line}
use Rattle.job_line.specs.Split.{lines_of}

-- a job's run: the samples that it holds, and whether it is still open
pub record Stage : Type 0 where
  pub held : List ℤ
  pub open_yet : Bool

abbrev pub stage_of : Job → Stage
stage_of (Open run) = record { held = held_by run; open_yet = true }
stage_of (Released run) = record { held = held_by run; open_yet = false }

abbrev pub fresh : Stage
fresh = record { held = []; open_yet = true }

-- what a line answers: its answer, or why it is refused
abbrev pub Outcome : Type 0
Outcome = Result Answer Fault

-- what is answered of a call's answer
abbrev pub answered : {A : Type 0} → (A → Answer) → Result A Fault → Outcome
answered says (Ok x) = Ok (says x)
answered says (Err f) = Err f

-- a refusal by the job itself
abbrev pub Refuses : Stage → Cause → ℕ → Outcome → Stage → Type 0
Refuses s cause place a t = (a ≡ Err (fault cause Bench place)) × (t ≡ s)

-- a call that only an open run takes
abbrev pub WhenOpen : Stage → Outcome → Stage → Type 0 → Type 0
WhenOpen s a t does = elim s.open_yet [ true ↦ does | false ↦ Refuses s NotInThisState 0 a t ]

-- a call that an open run takes, as it answers and leaves the run; a released run refuses it and stays
abbrev pub OnOpen : (Run StillOpen → Outcome → Run StillOpen → Type 0) → Job → Outcome → Job → Type 0
OnOpen call (Open run) a j = (after : Run StillOpen) × (j ≡ Open after) × call run a after
OnOpen call (Released run) a j = (a ≡ Err (fault NotInThisState Bench 0)) × (j ≡ Released run)

-- the statistic that a word names, or the refusal of a word that names none
abbrev pub Asked : List ℕ → Result Variance Fault → Type 0
Asked w (Ok v) = Named w (Ok v)
Asked w (Err f) = Named w (Err UnknownName) × (f ≡ fault UnknownName Bench 0)

-- a call that asks a statistic by its name
abbrev pub AskedBy : Stage → List ℕ → Outcome → Stage → (Variance → Type 0) → Type 0
AskedBy s name a t does = (r : Result Variance Fault) × Asked name r × elim r [ Ok v ↦ does v | Err f ↦ (a ≡ Err f) × (t ≡ s) ]

-- what a formed line does: s before it, the answer a, t after it
abbrev pub Does : Stage → Line → Outcome → Stage → Type 0
Does s (Add x) a t = WhenOpen s a t ((r : Result ℕ Fault) × Added s.held x r t.held × (t.open_yet ≡ true) × (a ≡ answered answer.Added r))
Does s Strike a t = WhenOpen s a t ((r : Result ℕ Fault) × Struck s.held r t.held × (t.open_yet ≡ true) × (a ≡ answered answer.Struck r))
Does s (Part name m j) a t = AskedBy s name.now a t (λ v. (r : Result (ℕ × ℕ) Fault) × PartAnswered s.held (model_of v) m j r t.held × (t.open_yet ≡ s.open_yet) × (a ≡ answered answer.Part r))
Does s (ReadOut name m) a t = AskedBy s name.now a t (λ v. (r : Result ℕ Fault) × ReadAnswered s.held (model_of v) m r t.held × (t.open_yet ≡ s.open_yet) × (a ≡ answered answer.ReadOut r))
Does s Release a t = WhenOpen s a t ((t.held ≡ s.held) × (t.open_yet ≡ false) × (a ≡ Ok (answer.Released (length s.held))))

abbrev pub Obeyed : Stage → Result Line Malformed → Outcome → Stage → Type 0
Obeyed s (Ok line) a t = Does s line a t
Obeyed s (Err refusal) a t = Refuses s MalformedLine refusal.place a t

-- a line is read by the grammar, and what it says is done
abbrev pub Worked : Stage → List ℕ → Outcome → Stage → Type 0
Worked s line a t = (r : Result Line Malformed) × (told_line r ≡ line_of line) × Obeyed s r a t

-- one line after another
pub data WorkedAll : Stage → List (List ℕ) → List Outcome → Stage → Type 0 where
  no_line : {s : Stage} → WorkedAll s [] [] s
  one_line : {s t u : Stage} {line : List ℕ} {a : Outcome} {lines : List (List ℕ)} {answers : List Outcome} → Worked s line a t → WorkedAll t lines answers u → WorkedAll s (line ∷ lines) (a ∷ answers) u

-- a whole text, on a run that is opened for it; one too long is refused whole
abbrev pub most : ℕ
most = 65536

abbrev pub LinesWorked : List ℕ → List Outcome → Type 0
LinesWorked text answers = (t : Stage) × WorkedAll fresh (lines_of text) answers t

abbrev pub TextWorked : List ℕ → List Outcome → Type 0
TextWorked text answers = elim (nat_le (length text) most) [ true ↦ LinesWorked text answers | false ↦ answers ≡ Err (fault MalformedLine Bench most) ∷ [] ]
