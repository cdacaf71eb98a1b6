use Rattle.algebra.proofs.Claims.{window_laws_lem}
use Rattle.algebra.proofs.window_laws.Goals as goal

pub returns : goal.returns
returns c = window_laws_lem
