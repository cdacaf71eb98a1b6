use Rattle.std.proofs.Common.{rules}
use Rattle.series.proofs.Unpacked.{length-unpacked}
use Rattle.series.proofs.packed.PackedSeries.length.Goals as goal

pub returns : goal.returns
returns c = search (rules, length-unpacked)
