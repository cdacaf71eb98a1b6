-- Finite sums: congruence, split, one more term, reversal, scaling, sums of sums.
use Rattle.std.proofs.Common.{◌≡◌, ℕ, zero, suc, ◌+◌, ◌-◌, ◌*◌, ◌<◌, [], ◌∷◌, ℤ, pos, ◌+ℤ◌, ◌*ℤ◌, sym, refl, ap, ◌∙◌, ap₂, add-zero, add-suc, add-one, arith}
use lib.IntN.{+ℤ_idr}
use borrow.Author.Differences.{ints}
use Rattle.algebra.proofs.Reify.{reads, ring_by, ring_from, zero_of}
use Rattle.algebra.specs.Sums.{sum_n, sum_z}

-- ---- over ℕ
pub sum_n_cong : (n : ℕ) (f g : ℕ → ℕ) → ((k : ℕ) → k < n → f k ≡ g k) → sum_n n f ≡ sum_n n g
sum_n_cong zero f g h = refl
sum_n_cong (suc n) f g h = ap₂ ◌+◌ (sum_n_cong n f g (λ k l. h k (omega arith))) (h n (omega arith))

pub sum_n_split : (n k : ℕ) (f : ℕ → ℕ) → sum_n (n + k) f ≡ sum_n n f + sum_n k (λ i. f (n + i))
sum_n_split n zero f = rw add-zero (omega arith)
sum_n_split n (suc k) f = rw add-suc (omega (arith, sum_n_split n k f))

pub sum_n_more : (n : ℕ) (f : ℕ → ℕ) → sum_n (n + 1) f ≡ sum_n n f + f n
sum_n_more n f = ap (λ k. sum_n k f) (add-one n)

pub sum_n_first : (n : ℕ) (f : ℕ → ℕ) → sum_n (suc n) f ≡ f 0 + sum_n n (λ k. f (suc k))
sum_n_first zero f = omega arith
sum_n_first (suc n) f = omega (arith, sum_n_first n f)

pub sum_n_turn : (n : ℕ) (f : ℕ → ℕ) → sum_n n f ≡ sum_n n (λ k. f (n - 1 - k))
sum_n_turn zero f = refl
sum_n_turn (suc n) f = omega (arith, sum_n_turn n f, sum_n_first n (λ k. f (suc n - 1 - k)), ap f (last n), sum_n_cong n (λ k. f (suc n - 1 - suc k)) (λ k. f (n - 1 - k)) (λ k l. ap f (omega arith)))
  where
    last : (n : ℕ) → suc n - 1 - 0 ≡ n
    last n = omega arith

pub sum_n_scale : (n c : ℕ) (f : ℕ → ℕ) → sum_n n (λ k. c * f k) ≡ c * sum_n n f
sum_n_scale zero c f = omega arith
sum_n_scale (suc n) c f = omega (arith, sum_n_scale n c f)

pub sum_n_add : (n : ℕ) (f g : ℕ → ℕ) → sum_n n (λ k. f k + g k) ≡ sum_n n f + sum_n n g
sum_n_add zero f g = refl
sum_n_add (suc n) f g = omega (arith, sum_n_add n f g)

pub sum_n_none : (n : ℕ) → sum_n n (λ k. 0) ≡ 0
sum_n_none zero = refl
sum_n_none (suc n) = omega (arith, sum_n_none n)

pub sum_n_swap : (n k : ℕ) (f : ℕ → ℕ → ℕ) → sum_n n (λ i. sum_n k (λ j. f i j)) ≡ sum_n k (λ j. sum_n n (λ i. f i j))
sum_n_swap zero k f = sym (sum_n_none k)
sum_n_swap (suc n) k f = ap (λ t. t + sum_n k (λ j. f n j)) (sum_n_swap n k f) ∙ sym (sum_n_add k (λ j. sum_n n (λ i. f i j)) (λ j. f n j))

-- ---- over ℤ
pub sum_z_cong : (n : ℕ) (f g : ℕ → ℤ) → ((k : ℕ) → k < n → f k ≡ g k) → sum_z n f ≡ sum_z n g
sum_z_cong zero f g h = refl
sum_z_cong (suc n) f g h = ap₂ ◌+ℤ◌ (sum_z_cong n f g (λ k l. h k (omega arith))) (h n (omega arith))

pub sum_z_split : (n k : ℕ) (f : ℕ → ℤ) → sum_z (n + k) f ≡ sum_z n f +ℤ sum_z k (λ i. f (n + i))
sum_z_split n zero f = rw add-zero (sym (+ℤ_idr (sum_z n f)))
sum_z_split n (suc k) f = rw add-suc (omega (arith, ints, sum_z_split n k f))

pub sum_z_more : (n : ℕ) (f : ℕ → ℤ) → sum_z (n + 1) f ≡ sum_z n f +ℤ f n
sum_z_more n f = ap (λ k. sum_z k f) (add-one n)

pub sum_z_first : (n : ℕ) (f : ℕ → ℤ) → sum_z (suc n) f ≡ f 0 +ℤ sum_z n (λ k. f (suc k))
sum_z_first zero f = omega (arith, ints)
sum_z_first (suc n) f = omega (arith, ints, sum_z_first n f)

pub sum_z_turn : (n : ℕ) (f : ℕ → ℤ) → sum_z n f ≡ sum_z n (λ k. f (n - 1 - k))
sum_z_turn zero f = refl
sum_z_turn (suc n) f = omega (arith, ints, sum_z_turn n f, sum_z_first n (λ k. f (suc n - 1 - k)), ap f (last n), sum_z_cong n (λ k. f (suc n - 1 - suc k)) (λ k. f (n - 1 - k)) (λ k l. ap f (omega arith)))
  where
    last : (n : ℕ) → suc n - 1 - 0 ≡ n
    last n = omega arith

pub sum_z_scale : (n : ℕ) (c : ℤ) (f : ℕ → ℤ) → sum_z n (λ k. c *ℤ f k) ≡ c *ℤ sum_z n f
sum_z_scale zero c f = ring_by (c ∷ []) (search reads depth 30 fits 9000) tt
sum_z_scale (suc n) c f = ring_from (c ∷ f n ∷ sum_z n f ∷ sum_z n (λ k. c *ℤ f k) ∷ []) (zero_of (pos 1) (sum_z_scale n c f)) (search reads depth 30 fits 9000) tt

pub sum_z_add : (n : ℕ) (f g : ℕ → ℤ) → sum_z n (λ k. f k +ℤ g k) ≡ sum_z n f +ℤ sum_z n g
sum_z_add zero f g = refl
sum_z_add (suc n) f g = omega (arith, ints, sum_z_add n f g)

pub sum_z_none : (n : ℕ) → sum_z n (λ k. pos 0) ≡ pos 0
sum_z_none zero = refl
sum_z_none (suc n) = omega (arith, ints, sum_z_none n)

pub sum_z_swap : (n k : ℕ) (f : ℕ → ℕ → ℤ) → sum_z n (λ i. sum_z k (λ j. f i j)) ≡ sum_z k (λ j. sum_z n (λ i. f i j))
sum_z_swap zero k f = sym (sum_z_none k)
sum_z_swap (suc n) k f = ap (λ t. t +ℤ sum_z k (λ j. f n j)) (sum_z_swap n k f) ∙ sym (sum_z_add k (λ j. sum_z n (λ i. f i j)) (λ j. f n j))
