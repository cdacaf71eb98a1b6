use Rattle.statistics.proofs.Refusals.{refusal_laws_lem}
use Rattle.statistics.proofs.form.refusal_laws.Goals as goal

pub returns : goal.returns
returns c = refusal_laws_lem
