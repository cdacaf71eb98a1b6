use Rattle.algebra.proofs.Claims.{sum_laws_lem}
use Rattle.algebra.proofs.sum_laws.Goals as goal

pub returns : goal.returns
returns c = sum_laws_lem
