use Rattle.std.proofs.Common.{subst}
use Rattle.std.proofs.Common.{rules}
use Rattle.series.specs.Packed.{RefusalTells}
use Rattle.series.proofs.Unpacked.{refusal_tells}
use Rattle.series.proofs.packed.Packed.new.Goals as goal

pub returns-in_err-check-clause-tells : goal.returns-in_err-check-clause-tells
returns-in_err-check-clause-tells c = subst (λ o. RefusalTells c.args.bytes.now o) (search rules) (refusal_tells c.args.bytes.now)

pub invariant_of-result : goal.invariant_of-result
invariant_of-result c = let t = (refusal_tells c.args.bytes.now).1 (search rules) in record { few = t.1; small = t.2 }
