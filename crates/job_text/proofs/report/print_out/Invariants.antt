use Rattle.std.proofs.Common.{◌≡◌, take, string_bytes}
use Rattle.job_text.specs.Shown.{printed}
use Rattle.job_text.proofs.report.print_out.Given as goal

abbrev pub invariant-loop-answer : goal.invariant-loop-answer
invariant-loop-answer l = string_bytes l.out ≡ printed (take l.answer-index l.answers)
