use Rattle.algebra.proofs.Claims.{second_laws_lem}
use Rattle.algebra.proofs.second_laws.Goals as goal

pub returns : goal.returns
returns c = second_laws_lem
