use Rattle.std.proofs.Common.{rules}
use Rattle.job_text.proofs.job.Job.obey.Goals as goal

-- found by the check alone too, but near its limits
pub returns-in-Add : goal.returns-in-Add
returns-in-Add c = search rules

pub returns-in-Strike : goal.returns-in-Strike
returns-in-Strike c = search rules
