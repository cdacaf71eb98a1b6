use Rattle.algebra.proofs.Claims.{step_laws_lem}
use Rattle.algebra.proofs.step_laws.Goals as goal

pub returns : goal.returns
returns c = step_laws_lem
