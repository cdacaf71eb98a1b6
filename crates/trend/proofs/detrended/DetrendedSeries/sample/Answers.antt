use Rattle.std.proofs.Common.{Ok, ap, ◌∙◌, arith}
use Rattle.std.proofs.lemmas.Int.{ints}
use Rattle.series.specs.Seen.{one}
use Rattle.trend.proofs.Products.{products}
use Rattle.trend.proofs.detrended.DetrendedSeries.sample.Goals as goal

pub overflow_mul-result : goal.overflow_mul-result
overflow_mul-result g c =
    let d = c.args.self.now in
    let p = products (one g.S.Series.laws d.of) d.scaled d.risen d.near c.in_ok-sample.ensures in
    omega (arith, ints, p.left, p.left_small)

pub overflow_mul-result-2 : goal.overflow_mul-result-2
overflow_mul-result-2 g c =
    let d = c.args.self.now in
    let p = products (one g.S.Series.laws d.of) d.scaled d.risen d.near c.in_ok-sample.ensures in
    omega (arith, ints, p.right, p.right_small)

pub overflow_sub-result : goal.overflow_sub-result
overflow_sub-result g c =
    let d = c.args.self.now in
    let p = products (one g.S.Series.laws d.of) d.scaled d.risen d.near c.in_ok-sample.ensures in
    omega (arith, ints, p.left, p.right, p.left_small, p.right_small)

pub returns : goal.returns
returns g c =
    let d = c.args.self.now in
    let p = products (one g.S.Series.laws d.of) d.scaled d.risen d.near c.in_ok-sample.ensures in
    ap Ok (omega (arith, ints, p.left, p.right, p.left_small, p.right_small)) ∙ p.shown
