use Rattle.std.proofs.Common.{◌*◌, Ok, sym, ap, arith}
use Rattle.series.proofs.Outcomes.{ok_same, then_ok}
use Rattle.statistics.specs.Model.{admitted, parts_of}
use Rattle.variances.specs.Avar.{avar_formula, divisor_bounds}
use Rattle.variances.proofs.avar.AvarStatistic.divisor.Goals as goal

pub overflow_mul-result-3 : goal.overflow_mul-result-3
overflow_mul-result-3 c =
    let a = c.args in
    let p = then_ok (admitted (parts_of avar_formula a.length a.factor) a.part) (λ _. Ok (avar_formula.terms a.length a.factor a.part)) c.in_ok-terms.terms (sym c.in_ok-terms.ensures) in
    omega (arith, divisor_bounds a.length a.factor a.part (p.0, p.1), ap (λ t. 2 * (a.factor * a.factor) * t) (ok_same p.2))
