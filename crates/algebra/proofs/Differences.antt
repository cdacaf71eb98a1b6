-- A difference makes a ramp of a drift. A second difference does not see a ramp, and read backwards is another second difference.
use Rattle.std.proofs.Common.{◌≡◌, ℕ, zero, suc, ◌+◌, ◌-◌, ◌*◌, ◌/◌, ◌<◌, [], ◌∷◌, ℤ, pos, negsuc, ◌+ℤ◌, ◌-ℤ◌, ◌*ℤ◌, neg_ℤ, refl, ap, ◌∙◌, ap₂, arith}
use borrow.Author.Differences.{ints}
use Rattle.algebra.proofs.Reify.{reads, ring_by, ring_from, zero_of, zeros}
use Rattle.algebra.specs.Differences.{step, second, ramped, Ramped, Drifted, Turned}

-- the numbers 0, 1, 3, 6, .. of a drift rise by 0, 1, 2, ..
triangle : (i : ℕ) → ((i + 1) * (i + 1 - 1)) / 2 ≡ (i * (i - 1)) / 2 + i
triangle zero = refl
triangle (suc i) =
    let p : (suc i + 1) * (suc i + 1 - 1) ≡ (suc i + 1) * suc i = ap (λ n. (suc i + 1) * n) (omega arith) in
    let q : suc i * (suc i - 1) ≡ suc i * i = ap (λ n. suc i * n) (omega arith) in
    omega arith

pub step_drift : (n : ℕ) (c a b d : ℤ) (x y : ℕ → ℤ) → Drifted n c a b d x y → Ramped (n - 1) c b d (step x) (step y)
step_drift n c a b d x y h i l =
    ring_from (c ∷ a ∷ b ∷ d ∷ x i ∷ x (i + 1) ∷ y i ∷ y (i + 1) ∷ pos i ∷ pos ((i * (i - 1)) / 2) ∷ pos (((i + 1) * (i + 1 - 1)) / 2) ∷ [])
    (zeros (zeros (zero_of (pos 1) (h (i + 1) (omega arith))) (zero_of (negsuc 0) (h i (omega arith)))) (zero_of d (ap pos (triangle i))))
    (search reads depth 30 fits 9000) tt

pub step_turn : (n : ℕ) (x y : ℕ → ℤ) → Turned n x y → (i : ℕ) → i < n - 1 → step y i ≡ neg_ℤ (step x (n - 1 - 1 - i))
step_turn n x y h i l =
    let j = n - 1 - 1 - i in
    let p : y i ≡ x (j + 1) = h i (omega arith) ∙ ap x (omega arith) in
    let q : y (i + 1) ≡ x j = h (i + 1) (omega arith) ∙ ap x (omega arith) in
    omega (arith, ints)

-- it knows its sequence by three places
pub second_at : (x y : ℕ → ℤ) (m k : ℕ) → y k ≡ x k → y (k + m) ≡ x (k + m) → y (k + 2 * m) ≡ x (k + 2 * m) → second y m k ≡ second x m k
second_at x y m k p q r = ap₂ (λ u v. u +ℤ v) (ap₂ (λ u v. u -ℤ pos 2 *ℤ v) p q) r

pub second_ramp : (n m k : ℕ) (c a b : ℤ) (x y : ℕ → ℤ) → k + 2 * m < n → Ramped n c a b x y → second y m k ≡ c *ℤ second x m k
second_ramp n m k c a b x y l h =
    second_at (λ i. ramped c a b i (x i)) y m k (h k (omega arith)) (h (k + m) (omega arith)) (h (k + 2 * m) l)
    ∙ ring_by (c ∷ a ∷ b ∷ x k ∷ x (k + m) ∷ x (k + 2 * m) ∷ pos k ∷ pos m ∷ []) (search reads depth 30 fits 9000) tt

pub second_turn : (n m k : ℕ) (x y : ℕ → ℤ) → k + 2 * m < n → Turned n x y → second y m k ≡ second x m (n - 2 * m - 1 - k)
second_turn n m k x y l h =
    let j = n - 2 * m - 1 - k in
    let p : y k ≡ x (j + 2 * m) = h k (omega arith) ∙ ap x (omega arith) in
    let q : y (k + m) ≡ x (j + m) = h (k + m) (omega arith) ∙ ap x (omega arith) in
    let r : y (k + 2 * m) ≡ x j = h (k + 2 * m) l ∙ ap x (omega arith) in
    omega (arith, ints)
