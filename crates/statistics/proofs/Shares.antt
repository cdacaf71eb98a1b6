-- A share, by a quotient and twelve binary places of the remainder.
use Rattle.std.proofs.Common.{◌≡◌, ℕ, ◌+◌, ◌-◌, ◌*◌, ◌/◌, ◌%◌, ◌^◌, ◌<◌, ◌≤◌, ◌⊎◌, ap, ◌∙◌, inl, inr, ⊎_elim, mul-le-mul_right, mod-lt, div-add-mod', div-mul-le_self, add-one, arith}
use native.Mathlib.Nat.{lt-div-mul-add, pow-succ'}
use Rattle.std.proofs.lemmas.Bool.{cases_lt}
use lib.Arith.{digits_div}
use Rattle.statistics.specs.ReadOut.{share}

pub share_is : (t v q r f e : ℕ) → q * v + r ≡ t → f * v + e ≡ 4096 * r → e < v → share t v ≡ 4096 * q + f
share_is t v q r f e a b l =
    let h : 4096 * t ≡ (4096 * q + f) * v + e = omega arith in
    ap (λ n. n / v) h ∙ digits_div (4096 * q + f) l

-- the bounds of a share
pub share_least : (t v : ℕ) → share t v * v ≤ 4096 * t
share_least t v = div-mul-le_self (4096 * t) v

pub share_most : (t v : ℕ) → 1 ≤ v → 4096 * t < (share t v + 1) * v
share_most t v h = let p = lt-div-mul-add {a = 4096 * t} h in omega arith

-- one place more: p places of r / v so far, with the remainder l
twice : (i : ℕ) → 2 ^ (i + 1) ≡ 2 * 2 ^ i
twice i = ap (λ n. 2 ^ n) (add-one i) ∙ pow-succ' 2 i

pub place_one : (p v l r i : ℕ) → l < v → v - l ≤ l → p * v + l ≡ 2 ^ i * r → p < 2 ^ i → (l - (v - l) < v) × ((2 * p + 1) * v + (l - (v - l)) ≡ 2 ^ (i + 1) * r) × (2 * p + 1 < 2 ^ (i + 1))
place_one p v l r i a b e h = (omega arith, omega (arith, ap (λ n. n * r) (twice i)), omega (arith, twice i))

pub place_zero : (p v l r i : ℕ) → l < v → l < v - l → p * v + l ≡ 2 ^ i * r → p < 2 ^ i → (l + l < v) × (p * 2 * v + (l + l) ≡ 2 ^ (i + 1) * r) × (p * 2 < 2 ^ (i + 1))
place_zero p v l r i a b e h = (omega arith, omega (arith, ap (λ n. n * r) (twice i)), omega (arith, twice i))

-- the pieces of a share as the code has them
pub share_pieces : (t v f : ℕ) → 1 ≤ v → f ≡ (4096 * (t % v)) / v → share t v ≡ 4096 * (t / v) + f
share_pieces t v f h e = share_is t v (t / v) (t % v) f ((4096 * (t % v)) % v) (div-add-mod' t v) (ap (λ n. n * v + (4096 * (t % v)) % v) e ∙ div-add-mod' (4096 * (t % v)) v) (mod-lt (4096 * (t % v)) h)

pub places_few : (r v f : ℕ) → r < v → f ≡ (4096 * r) / v → f < 4096
places_few r v f h e = go (cases_lt f 4096) (omega (arith, share_least r v, ap (λ n. n * v) e))
  where
    go : (f < 4096) ⊎ (4096 ≤ f) → f * v ≤ 4096 * r → f < 4096
    go (inl l) k = l
    go (inr l) k = absurd (omega (arith, mul-le-mul_right v l))

pub past_many : (q f x : ℕ) → (q * 4096 < 2 ^ 64 → ⊥) → x ≡ 4096 * q + f → 18446744073709551615 < x
past_many q f x n e = ⊎_elim (λ l. absurd (n l)) (λ l. omega arith) (cases_lt (q * 4096) (2 ^ 64))
