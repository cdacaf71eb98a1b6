use Rattle.algebra.proofs.Claims.{even_mirror_laws_lem}
use Rattle.algebra.proofs.even_mirror_laws.Goals as goal

pub returns : goal.returns
returns c = even_mirror_laws_lem
