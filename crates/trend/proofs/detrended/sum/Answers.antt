use Rattle.std.proofs.Common.{◌≡◌, ℕ, ◌+◌, ◌-◌, ◌≤◌, ℤ, ◌+ℤ◌, arith}
use Rattle.std.proofs.lemmas.Int.{ints}
use Rattle.algebra.specs.Sums.{sum_z}
use Rattle.algebra.specs.Windows.{onward}
use Rattle.algebra.proofs.Sums.{sum_z_more}
use Rattle.series.specs.Seen.{one, samples}
use Rattle.series.proofs.Samples.{sample_at_lem}
use Rattle.trend.proofs.detrended.sum.Goals as goal

more : (x : ℕ → ℤ) (first place : ℕ) → first ≤ place → sum_z (place + 1 - first) (onward first x) ≡ sum_z (place - first) (onward first x) +ℤ x place
more x first place h =
    let n : place + 1 - first ≡ place - first + 1 = omega arith in
    let k : first + (place - first) ≡ place = omega arith in
    let m = sum_z_more (place - first) (onward first x) in
    cc

pub loop-place-preserved : goal.loop-place-preserved
loop-place-preserved g c =
    let s = g.S.Series.seen c.args.s.now in
    let l = one g.S.Series.laws c.args.s.now in
    let place = c.loop-place.place in
    let here = l.within place (omega arith) in
    let at = sample_at_lem s place (omega arith) in
    let x : c.in_ok-total.field-0 ≡ s.value place = cc c.in_ok-total.ensures in
    record {
      is = omega (arith, ints, more (samples s) c.args.first place (omega arith), l.short, l.near);
      small = omega (arith, ints, l.short, l.near);
    }
