-- The two products of a sample without its trend, as they are computed in 64 bits with a sign, and what becomes of them.
use Rattle.std.proofs.Common.{◌≡◌, ℕ, ◌-◌, ◌*◌, ◌/◌, ◌<◌, ◌≤◌, ℤ, pos, ◌*ℤ◌, nat_abs, Ok, ap, ap₂, mul-le-mul, mul-le-mul_left, arith, w64, to_z, of_z}
use Rattle.std.proofs.lemmas.Int.{ints}
use Rattle.algebra.specs.Trends.{scale, rise, tilted}
use Rattle.algebra.proofs.Sizes.{abs_times}
use Rattle.algebra.proofs.Trends.{rise_within, tilt_within}
use Rattle.series.specs.Limits.{longest, farthest}
use Rattle.series.specs.Seen.{Seen, Lawful, samples, sample_of}
use Rattle.series.proofs.Samples.{sample_at_lem, sample_inside, sample_is, sample_within}
use Rattle.trend.specs.Trend.{detrended}

pub scale_within : (n : ℕ) → n ≤ longest → scale n ≤ 37748736
scale_within n h = let a : n / 2 ≤ 6144 = omega arith in let b : n - n / 2 ≤ 6144 = omega arith in omega (arith, mul-le-mul a b)

-- of a sample x at the place k of a series s
pub record Products (s : Seen) (D : ℕ) (Δ x : ℤ) (k : ℕ) : Type 0 where
  pub left : to_z w64 D *ℤ to_z w64 (of_z w64 x) ≡ pos D *ℤ x
  pub right : to_z w64 (of_z w64 Δ) *ℤ to_z w64 k ≡ Δ *ℤ pos k
  pub left_small : nat_abs (pos D *ℤ x) ≤ farthest
  pub right_small : nat_abs (Δ *ℤ pos k) ≤ farthest
  pub shown : Ok (tilted D Δ x k) ≡ sample_of (detrended s) k

pub products : {s : Seen} {D : ℕ} {Δ x : ℤ} {k : ℕ} → Lawful s → D ≡ scale s.size → Δ ≡ rise s.size (samples s) → 5 * scale s.size * s.bound ≤ farthest → Ok x ≡ sample_of s k → Products s D Δ x k
products {s} {D} {Δ} {x} {k} l d e near h =
    let below : k < s.size = sample_inside s k x h in
    let few : D ≤ 37748736 = omega (arith, scale_within s.size l.short) in
    let t : nat_abs Δ ≤ (s.size / 2) * (2 * s.bound) = omega (arith, ap nat_abs e, rise_within s.size s.bound (samples s) l.within) in
    let both = tilt_within s.size s.bound (nat_abs Δ) s.size t (omega arith) in
    let less : nat_abs Δ * k ≤ nat_abs Δ * s.size = mul-le-mul_left (nat_abs Δ) (omega arith) in
    let once : nat_abs Δ * 1 ≤ nat_abs Δ * s.size = mul-le-mul_left (nat_abs Δ) (omega arith) in
    let size : nat_abs x ≤ s.bound = sample_within s l k x h in
    let scaled : D * nat_abs x ≤ scale s.size * s.bound = omega (arith, mul-le-mul_left D size, ap (λ m. m * s.bound) d) in
    let is = sample_is s k x below h in
    let left_D : to_z w64 D ≡ pos D = omega (arith, ints) in
    let left_x : to_z w64 (of_z w64 x) ≡ x = omega (arith, ints, l.near) in
    let right_Δ : to_z w64 (of_z w64 Δ) ≡ Δ = omega (arith, ints) in
    let right_k : to_z w64 k ≡ pos k = omega (arith, ints, l.short) in
    record {
      left = ap₂ ◌*ℤ◌ left_D left_x;
      right = ap₂ ◌*ℤ◌ right_Δ right_k;
      left_small = omega (arith, abs_times (pos D) x);
      right_small = omega (arith, abs_times Δ (pos k));
      shown = rw (d, e, is) (sample_at_lem (detrended s) k below);
    }
