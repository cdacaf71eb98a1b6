use Rattle.statistics.proofs.Totals.{total_laws_lem}
use Rattle.statistics.proofs.total.total_laws.Goals as goal

pub returns : goal.returns
returns c = total_laws_lem
