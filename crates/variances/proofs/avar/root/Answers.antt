use Rattle.std.proofs.Common.{◌+◌, ◌*◌, arith}
use Rattle.std.proofs.lemmas.Int.{to_z-of_z}
use Rattle.series.proofs.Samples.{sample_is}
use Rattle.variances.proofs.avar.root.Goals as goal

pub returns : goal.returns
returns g c =
    let s = g.S.Series.seen c.args.s.now in
    let x = sample_is s c.args.place c.in_ok-a.a (omega arith) c.in_ok-a.ensures in
    let y = sample_is s (c.args.place + c.args.gap) c.in_ok-b.b (omega arith) c.in_ok-b.ensures in
    let z = sample_is s (c.args.place + 2 * c.args.gap) c.in_ok-c.c (omega arith) c.in_ok-c.ensures in
    grind (arith, to_z-of_z)
