use Rattle.algebra.proofs.Claims.{odd_mirror_laws_lem}
use Rattle.algebra.proofs.odd_mirror_laws.Goals as goal

pub returns : goal.returns
returns c = odd_mirror_laws_lem
