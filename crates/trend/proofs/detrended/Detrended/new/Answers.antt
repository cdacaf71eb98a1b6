use Rattle.std.proofs.Common.{◌/◌, ◌≤◌, ap, mul-le-mul, arith}
use Rattle.std.proofs.lemmas.Int.{ints}
use Rattle.algebra.specs.Trends.{rise}
use Rattle.algebra.proofs.Trends.{front}
use Rattle.series.specs.Limits.{farthest}
use Rattle.series.specs.Seen.{one, samples}
use Rattle.series.proofs.Outcomes.{ok_same}
use Rattle.trend.proofs.Products.{scale_within}
use Rattle.trend.proofs.detrended.Detrended.new.Goals as goal

pub overflow_mul-scale-3 : goal.overflow_mul-scale-3
overflow_mul-scale-3 g c =
    let l = one g.S.Series.laws c.args.of in
    let d = scale_within c.length-length.result (omega (arith, l.short)) in
    let r : c.reach.result ≤ farthest = omega (arith, l.near) in
    omega (arith, mul-le-mul d r)

pub invariant_of-result-clause-risen : goal.invariant_of-result-clause-risen
invariant_of-result-clause-risen g c =
    let x = samples (g.S.Series.seen c.args.of) in
    let l = one g.S.Series.laws c.args.of in
    let same = ap (λ n. rise n x) c.length-length.ensures in
    omega (arith, ints, same, front (c.length-length.result / 2) x, ok_same c.in_ok-sum.ensures.is, ok_same c.in_ok-delta.ensures.is, c.in_ok-sum.ensures.small, c.in_ok-delta.ensures.small, l.short)
