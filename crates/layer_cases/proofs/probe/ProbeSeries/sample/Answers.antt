use Rattle.std.proofs.Common.{◌≤◌, mul-le-mul, arith}
use Rattle.series.specs.Limits.{longest}
use Rattle.layer_cases.proofs.probe.ProbeSeries.sample.Goals as goal

pub overflow_mul-height : goal.overflow_mul-height
overflow_mul-height c = let p : c.args.place ≤ longest = omega arith in omega (arith, mul-le-mul p p)

pub overflow_add-height : goal.overflow_add-height
overflow_add-height c = let p : c.args.place ≤ longest = omega arith in omega (arith, mul-le-mul p p)
