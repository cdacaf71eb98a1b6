use Rattle.std.proofs.Common.{◌≡◌, ◌+◌, ◌*◌, ◌^◌, ◌<◌}
use Rattle.statistics.proofs.read_out.twelve_places.Given as goal

abbrev pub invariant-loop-i : goal.invariant-loop-i
invariant-loop-i l = (l.left < l.divisor) × (l.places * l.divisor + l.left ≡ 2 ^ l._i * l.rest) × (l.places < 2 ^ l._i)
