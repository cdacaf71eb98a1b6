-- What is left of a ramp when the trend is taken out, what is left of a sequence read backwards, and how large it is.
use Rattle.std.proofs.Common.{◌≡◌, ℕ, zero, suc, ◌+◌, ◌-◌, ◌*◌, ◌/◌, ◌<◌, ◌≤◌, [], ◌∷◌, ℤ, pos, ◌+ℤ◌, ◌-ℤ◌, ◌*ℤ◌, neg_ℤ, nat_abs, sym, ap, ◌∙◌, ap₂, mul-le-mul, mul-le-mul_left, arith}
use borrow.Author.Differences.{ints}
use Rattle.algebra.specs.Sums.{sum_z}
use Rattle.algebra.specs.Differences.{ramped, Ramped, Turned}
use Rattle.algebra.specs.Trends.{scale, rise, tilted, detrend}
use Rattle.algebra.proofs.Reify.{reads, ring_by, ring_from, zero_of, zeros}
use Rattle.algebra.proofs.Sizes.{abs_sub, abs_times, abs_sum}
use Rattle.algebra.proofs.Sums.{sum_z_cong, sum_z_turn}

-- ---- a ramp
-- k places, from the place s on: its own sum is that of the numbers s, s + 1, ..
sum_ramp : (k s : ℕ) (c a b : ℤ) (x : ℕ → ℤ) → sum_z k (λ i. ramped c a b (s + i) (x (s + i))) ≡ ((c *ℤ sum_z k (λ i. x (s + i))) +ℤ (pos k *ℤ a)) +ℤ (b *ℤ ((pos k *ℤ pos s) +ℤ sum_z k (λ i. pos i)))
sum_ramp zero s c a b x = ring_by (c ∷ a ∷ b ∷ pos s ∷ []) (search reads depth 30 fits 9000) tt
sum_ramp (suc k) s c a b x = ring_from (c ∷ a ∷ b ∷ pos s ∷ pos k ∷ x (s + k) ∷ sum_z k (λ i. x (s + i)) ∷ sum_z k (λ i. pos i) ∷ sum_z k (λ i. ramped c a b (s + i) (x (s + i))) ∷ []) (zero_of (pos 1) (sum_ramp k s c a b x)) (search reads depth 30 fits 9000) tt

-- of y, which is x with a ramp
part_ramp : (n k s : ℕ) (c a b : ℤ) (x y : ℕ → ℤ) → s + k ≤ n → Ramped n c a b x y → sum_z k (λ i. y (s + i)) ≡ ((c *ℤ sum_z k (λ i. x (s + i))) +ℤ (pos k *ℤ a)) +ℤ (b *ℤ ((pos k *ℤ pos s) +ℤ sum_z k (λ i. pos i)))
part_ramp n k s c a b x y l h = sum_z_cong k (λ i. y (s + i)) (λ i. ramped c a b (s + i) (x (s + i))) (λ i u. h (s + i) (omega arith)) ∙ sum_ramp k s c a b x

-- the first half is a part from the place 0 on
pub front : (k : ℕ) (x : ℕ → ℤ) → sum_z k (λ i. x (0 + i)) ≡ sum_z k x
front k x = sum_z_cong k (λ i. x (0 + i)) x (λ i l. ap x (omega arith))

pub rise_ramp : (n : ℕ) (c a b : ℤ) (x y : ℕ → ℤ) → Ramped n c a b x y → rise n y ≡ (c *ℤ rise n x) +ℤ (b *ℤ pos (scale n))
rise_ramp n c a b x y h =
    let k = n / 2 in
    let s = n - n / 2 in
    let p = part_ramp n k s c a b x y (omega arith) h in
    let q = sym (front k y) ∙ part_ramp n k 0 c a b x y (omega arith) h ∙ ap (λ t. ((c *ℤ t) +ℤ (pos k *ℤ a)) +ℤ (b *ℤ ((pos k *ℤ pos 0) +ℤ sum_z k (λ i. pos i)))) (front k x) in
    ring_from (c ∷ a ∷ b ∷ pos k ∷ pos s ∷ sum_z k (λ i. pos i) ∷ sum_z k (λ i. x (s + i)) ∷ sum_z k x ∷ sum_z k (λ i. y (s + i)) ∷ sum_z k y ∷ []) (zeros (zero_of (pos 1) p) (zero_of (neg_ℤ (pos 1)) q)) (search reads depth 30 fits 9000) tt

pub detrend_ramp : (n : ℕ) (c a b : ℤ) (x y : ℕ → ℤ) → Ramped n c a b x y → (i : ℕ) → i < n → detrend n y i ≡ (c *ℤ detrend n x i) +ℤ (pos (scale n) *ℤ a)
detrend_ramp n c a b x y h i l =
    let goal : (D : ℤ) (R Q : ℤ) → Q ≡ (c *ℤ R) +ℤ (b *ℤ D) → (D *ℤ y i) -ℤ (Q *ℤ pos i) ≡ (c *ℤ ((D *ℤ x i) -ℤ (R *ℤ pos i))) +ℤ (D *ℤ a) = λ D R Q e. ring_from (c ∷ a ∷ b ∷ x i ∷ y i ∷ pos i ∷ D ∷ R ∷ Q ∷ []) (zeros (zero_of D (h i l)) (zero_of (neg_ℤ (pos i)) e)) (search reads depth 30 fits 9000) tt in
    goal (pos (scale n)) (rise n x) (rise n y) (rise_ramp n c a b x y h)

-- ---- backwards
-- the last k of y are the first k of x, backwards, and the first k of y the last k of x
pub rise_turn : (n : ℕ) (x y : ℕ → ℤ) → Turned n x y → rise n y ≡ neg_ℤ (rise n x)
rise_turn n x y h =
    let k = n / 2 in
    let s = n - n / 2 in
    let p : sum_z k (λ i. y (s + i)) ≡ sum_z k x = sum_z_turn k (λ i. y (s + i)) ∙ sum_z_cong k (λ i. y (s + (k - 1 - i))) x (λ i l. h (s + (k - 1 - i)) (omega arith) ∙ ap x (omega arith)) in
    let q : sum_z k y ≡ sum_z k (λ i. x (s + i)) = sum_z_turn k y ∙ sum_z_cong k (λ i. y (k - 1 - i)) (λ i. x (s + i)) (λ i l. h (k - 1 - i) (omega arith) ∙ ap x (omega arith)) in
    ap₂ ◌-ℤ◌ p q ∙ flip (sum_z k x) (sum_z k (λ i. x (s + i)))
  where
    flip : (u v : ℤ) → u -ℤ v ≡ neg_ℤ (v -ℤ u)
    flip u v = omega (arith, ints)

pub detrend_turn : (n : ℕ) (x y : ℕ → ℤ) → Turned n x y → (i : ℕ) → i < n → detrend n y i ≡ detrend n x (n - 1 - i) +ℤ (rise n x *ℤ pos (n - 1))
detrend_turn n x y h i l =
    let there : n - 1 ≡ (n - 1 - i) + i = omega arith in
    let goal : (D R Q : ℤ) (m j : ℕ) → m ≡ j + i → y i ≡ x j → Q ≡ neg_ℤ R → (D *ℤ y i) -ℤ (Q *ℤ pos i) ≡ ((D *ℤ x j) -ℤ (R *ℤ pos j)) +ℤ (R *ℤ pos m) = λ D R Q m j u v e. ring_from (D ∷ R ∷ Q ∷ x j ∷ y i ∷ pos i ∷ pos j ∷ pos m ∷ []) (zeros (zeros (zero_of D v) (zero_of (neg_ℤ (pos i)) e)) (zero_of (neg_ℤ R) (ap pos u))) (search reads depth 30 fits 9000) tt in
    goal (pos (scale n)) (rise n x) (rise n y) (n - 1) (n - 1 - i) there (h i l) (rise_turn n x y h)

-- ---- how large
pub rise_within : (n r : ℕ) (x : ℕ → ℤ) → ((i : ℕ) → i < n → nat_abs (x i) ≤ r) → nat_abs (rise n x) ≤ (n / 2) * (2 * r)
rise_within n r x h = omega (arith, abs_sub (sum_z (n / 2) (λ i. x ((n - n / 2) + i))) (sum_z (n / 2) x), abs_sum (n / 2) r (λ i. x ((n - n / 2) + i)) (λ i l. h ((n - n / 2) + i) (omega arith)), abs_sum (n / 2) r x (λ i l. h i (omega arith)))

-- D·|x| + |Δ|·i, in which the slope counts four times as much as the samples
pub tilt_within : (n r t i : ℕ) → t ≤ (n / 2) * (2 * r) → i ≤ n → scale n * r + t * i ≤ 5 * scale n * r
tilt_within n r t i a b = let far : i ≤ 2 * (n - n / 2) = omega arith in omega (arith, mul-le-mul a far)

pub tilt_parts : (d : ℕ) (t z : ℤ) (i : ℕ) → nat_abs (tilted d t z i) ≤ d * nat_abs z + nat_abs t * i
tilt_parts d t z i = omega (arith, abs_sub (pos d *ℤ z) (t *ℤ pos i), abs_times (pos d) z, abs_times t (pos i))

pub detrend_within : (n r : ℕ) (x : ℕ → ℤ) → ((i : ℕ) → i < n → nat_abs (x i) ≤ r) → (i : ℕ) → i < n → nat_abs (detrend n x i) ≤ 5 * scale n * r
detrend_within n r x h i l = omega (arith, tilt_parts (scale n) (rise n x) (x i) i, tilt_within n r (nat_abs (rise n x)) i (rise_within n r x h) (omega arith), mul-le-mul_left (scale n) (h i l))
