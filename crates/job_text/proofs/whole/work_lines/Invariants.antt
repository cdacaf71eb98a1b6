use Rattle.std.proofs.Common.{List, ◌++◌, vec_items}
use Rattle.job_line.specs.Split.{lines_of}
use Rattle.job_text.specs.Jobs.{Stage, Outcome, stage_of, fresh, WorkedAll}
use Rattle.job_text.proofs.whole.work_lines.Given as goal

-- what answers the lines that are left, after the answers so far, answers the whole text
abbrev pub invariant-loop-line : goal.invariant-loop-line
invariant-loop-line l =
    (more : List Outcome) (t : Stage) →
    WorkedAll (stage_of l.job) (lines_of l.line-iterator.rest.now) more t →
    WorkedAll fresh (lines_of l.text) (vec_items l.answers ++ more) t
