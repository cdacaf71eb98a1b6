use Rattle.std.proofs.Common.{◌*◌, ap, arith}
use Rattle.statistics.proofs.Shares.{place_one, place_zero}
use Rattle.statistics.proofs.read_out.twelve_places.Goals as goal
use Rattle.statistics.proofs.read_out.twelve_places.Goals.{then-left-divisor, else-left-divisor}

pub loop-i-preserved : goal.loop-i-preserved
loop-i-preserved c =
    let l = c.loop-i in
    let v = c.args.divisor in
    elim c.if-left-divisor.branch [
      | then-left-divisor w ↦ let h = place_one l.places v l.left c.args.rest l._i l.invariant.0 w.if-left-divisor.true l.invariant.1 l.invariant.2 in (omega (arith, w.left-is, h.0), omega (arith, ap (λ n. n * v) w.places-is, w.left-is, h.1), omega (arith, w.places-is, h.2))
      | else-left-divisor w ↦ let h = place_zero l.places v l.left c.args.rest l._i l.invariant.0 w.if-left-divisor.false l.invariant.1 l.invariant.2 in (omega (arith, w.left-is, h.0), omega (arith, ap (λ n. n * v) w.places-is, w.left-is, h.1), omega (arith, w.places-is, h.2))
    ]
