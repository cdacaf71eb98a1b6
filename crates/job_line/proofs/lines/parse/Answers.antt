use Rattle.std.proofs.Common.{rules}
use Rattle.job_line.proofs.lines.parse.Goals as goal

-- found by the check alone too, but near its limits
pub returns : goal.returns
returns c = search rules
