use Rattle.std.proofs.Common.{rules, w64, SFits, ◌∙◌}
use Rattle.std.proofs.lemmas.Int.{to_z-of_z}
use Rattle.series.specs.Packed.{unpacked}
use Rattle.series.proofs.Unpacked.{first_at}
use Rattle.series.proofs.packed.sample_at.Goals as goal

pub returns : goal.returns
returns c =
    let h : SFits w64 c.unwrap.result = search rules in
    to_z-of_z w64 c.unwrap.result h ∙ first_at c.args.place c.args.bytes.now c.unwrap.result (unpacked c.next.new.self.0.now) (search rules)
