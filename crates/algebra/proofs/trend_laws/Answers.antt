use Rattle.algebra.proofs.Claims.{trend_laws_lem}
use Rattle.algebra.proofs.trend_laws.Goals as goal

pub returns : goal.returns
returns c = trend_laws_lem
