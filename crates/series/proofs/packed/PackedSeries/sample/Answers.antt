use Rattle.std.proofs.Common.{arith}
use Rattle.series.proofs.Unpacked.{length-unpacked}
use Rattle.series.proofs.packed.PackedSeries.sample.Goals as goal

pub sample_at-requires : goal.sample_at-requires
sample_at-requires c = grind (arith, length-unpacked c.args.self.now.bytes.now)
