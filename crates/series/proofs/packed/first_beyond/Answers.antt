use Rattle.std.proofs.Common.{inl, refl, arith, rules}
use Rattle.std.proofs.lemmas.Iterator.Consumers.{YieldsList-from_first}
use Rattle.series.specs.declared.packed.Samples.{Samples}
use Rattle.series.specs.Packed.{unpacked}
use Rattle.std.proofs.lemmas.Int.{to_z-of_z}
use Rattle.std.proofs.lemmas.Iterator.Search.{position_from_yields_List}
use Rattle.series.proofs.Unpacked.{length-unpacked, out}
use Rattle.series.proofs.packed.first_beyond.Goals as goal

pub position-requires-clause-fits : goal.position-requires-clause-fits
position-requires-clause-fits c = inl (omega (arith, length-unpacked c.args.bytes.now))

pub returns : goal.returns
returns c = position_from_yields_List out c.position.new.self _ c.position.result c.position.ensures.ran (YieldsList-from_first (λ x. x) (λ (s : Samples). unpacked s.0.now) (unpacked c.args.bytes.now) refl) (λ x b q k. search (rules, to_z-of_z))
