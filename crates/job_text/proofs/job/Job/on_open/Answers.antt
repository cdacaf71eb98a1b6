use Rattle.std.proofs.Common.{refl, rules}
use Rattle.job_text.proofs.job.Job.on_open.Goals as goal

pub returns-in-Open : goal.returns-in-Open
returns-in-Open g c = rw c.in-Open.is (c.call-answer.new.arg2, refl, search rules)
