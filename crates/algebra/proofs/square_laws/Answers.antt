use Rattle.algebra.proofs.Claims.{square_laws_lem}
use Rattle.algebra.proofs.square_laws.Goals as goal

pub returns : goal.returns
returns c = square_laws_lem
