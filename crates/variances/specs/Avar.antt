-- The overlapping Allan variance, with its laws.
use Rattle.std.specs.Prelude.{◌≡◌, ℕ, ◌+◌, ◌-◌, ◌*◌, ◌^◌, ◌<◌, ◌≤◌, true, nat_lt, unsigned_abs}
use Rattle.std.proofs.Common.{subst, ap, arith, mul-le-mul}
use Rattle.std.proofs.lemmas.Bool.{ltb-true}
use Rattle.algebra.specs.Differences.{second}
use Rattle.algebra.proofs.Differences.{second_at, second_ramp, second_turn}
use Rattle.series.specs.Limits.{fullest}
use Rattle.series.specs.Seen.{samples}
use Rattle.statistics.specs.declared.blindness.Blindness.{Blindness}
use Rattle.statistics.specs.declared.blindness.Blindness.TheVariants.{Ramps, Drifts}
use Rattle.statistics.specs.Model.{Formula, Model, IsPart}
use Rattle.statistics.proofs.Formulas.{parts_ok, admitted_ok, rooted_local, rooted_scaled, rooted_mirrored}
use Rattle.statistics.proofs.Totals.{gated_turned}

-- 2m < N; roots x(n) - 2x(n + m) + x(n + 2m); V = 2m²(N - 2m)
abbrev pub avar_formula : Formula
avar_formula = record {
  blindness = Ramps;
  takes = λ m. nat_lt 0 m;
  enough = λ n m. nat_lt (2 * m) n;
  parts = λ n m. 1;
  divisor = λ n m j. 2 * (m * m) * (n - 2 * m);
  terms = λ n m j. n - 2 * m;
  reaches = λ n r m. true;
  root = λ s m j k. second (samples s) m k;
}

-- ---- its laws
pub part_means : (n m j : ℕ) → IsPart avar_formula n m j → (n ≤ fullest) × (1 ≤ m) × (2 * m < n)
part_means n m j a = let p = parts_ok avar_formula n m a.0 (admitted_ok _ j a.0 a.1).0 in (p.0, ltb-true 0 m p.1, ltb-true (2 * m) n p.2)

pub divisor_bounds : (n m j : ℕ) → IsPart avar_formula n m j → (1 ≤ 2 * (m * m) * (n - 2 * m)) × (2 * (m * m) * (n - 2 * m) < 2 ^ 64)
divisor_bounds n m j a =
    let p = part_means n m j a in
    let few : m ≤ 2048 = omega (arith, p) in
    let least : 1 ≤ 2 * (m * m) = omega (arith, mul-le-mul p.1 p.1) in
    let most : 2 * (m * m) ≤ 8388608 = omega (arith, mul-le-mul few few) in
    let left : n - 2 * m ≤ 4096 = omega (arith, p.0) in
    let some : 1 ≤ n - 2 * m = omega (arith, p.2) in
    (omega (arith, mul-le-mul least some), omega (arith, mul-le-mul most left))

pub is_ramps : Blindness → Type 0
is_ramps Ramps = Unit {0}
is_ramps Drifts = ⊥

pub not_drifts : {A : Type 0} → Ramps ≡ Drifts → A
unfolding is_ramps
not_drifts e = absurd (subst is_ramps e tt)

abbrev pub avar : Model
avar = record {
  formula = avar_formula;
  divisible = divisor_bounds;
  local = λ s t m j h. rooted_local avar_formula s t m j h.size h.bound (λ a k l. let p = part_means s.size m j a in second_at (samples s) (samples t) m k (h.value k (omega arith)) (h.value (k + m) (omega arith)) (h.value (k + 2 * m) (omega arith)));
  ramp_blind = λ s t m j c a b T U h. rooted_scaled avar_formula s t m j h.size c T U (λ p k l. second_ramp s.size m k c a b (samples s) (samples t) (omega (arith, part_means s.size m j p)) h.value);
  drift_blind = λ e. not_drifts e;
  mirrored = λ s t m j h. rooted_mirrored avar_formula s t m j h.size h.bound (λ p. gated_turned (second (samples s) m) (second (samples t) m) (s.size - 2 * m) (λ k l. ap unsigned_abs (second_turn s.size m k (samples s) (samples t) (omega (arith, part_means s.size m j p)) h.value)));
}
