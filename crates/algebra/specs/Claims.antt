-- The laws of sums, squares, differences, windows, trends and mirrors.
use Rattle.std.specs.Prelude.{◌≡◌, ℕ, ◌+◌, ◌-◌, ◌*◌, ◌<◌, ◌≤◌, ℤ, pos, ◌+ℤ◌, ◌-ℤ◌, ◌*ℤ◌, neg_ℤ, unsigned_abs}
use Rattle.algebra.specs.Sums.{sum_n, sum_z}
use Rattle.algebra.specs.Squares.{square}
use Rattle.algebra.specs.Differences.{step, second, Ramped, Drifted, Turned}
use Rattle.algebra.specs.Windows.{onward}
use Rattle.algebra.specs.Trends.{scale, rise, detrend}
use Rattle.algebra.specs.Mirrors.{odd_mirror, even_mirror}

pub record SumLaws : Type 0 where
  pub same : (n : ℕ) (f g : ℕ → ℕ) → ((k : ℕ) → k < n → f k ≡ g k) → sum_n n f ≡ sum_n n g
  pub split : (n k : ℕ) (f : ℕ → ℕ) → sum_n (n + k) f ≡ sum_n n f + sum_n k (λ i. f (n + i))
  pub more : (n : ℕ) (f : ℕ → ℕ) → sum_n (n + 1) f ≡ sum_n n f + f n
  pub turn : (n : ℕ) (f : ℕ → ℕ) → sum_n n f ≡ sum_n n (λ k. f (n - 1 - k))
  pub scale : (n c : ℕ) (f : ℕ → ℕ) → sum_n n (λ k. c * f k) ≡ c * sum_n n f
  pub add : (n : ℕ) (f g : ℕ → ℕ) → sum_n n (λ k. f k + g k) ≡ sum_n n f + sum_n n g
  pub swap : (n k : ℕ) (f : ℕ → ℕ → ℕ) → sum_n n (λ i. sum_n k (λ j. f i j)) ≡ sum_n k (λ j. sum_n n (λ i. f i j))
  pub same_z : (n : ℕ) (f g : ℕ → ℤ) → ((k : ℕ) → k < n → f k ≡ g k) → sum_z n f ≡ sum_z n g
  pub split_z : (n k : ℕ) (f : ℕ → ℤ) → sum_z (n + k) f ≡ sum_z n f +ℤ sum_z k (λ i. f (n + i))
  pub more_z : (n : ℕ) (f : ℕ → ℤ) → sum_z (n + 1) f ≡ sum_z n f +ℤ f n
  pub turn_z : (n : ℕ) (f : ℕ → ℤ) → sum_z n f ≡ sum_z n (λ k. f (n - 1 - k))
  pub scale_z : (n : ℕ) (c : ℤ) (f : ℕ → ℤ) → sum_z n (λ k. c *ℤ f k) ≡ c *ℤ sum_z n f
  pub add_z : (n : ℕ) (f g : ℕ → ℤ) → sum_z n (λ k. f k +ℤ g k) ≡ sum_z n f +ℤ sum_z n g
  pub swap_z : (n k : ℕ) (f : ℕ → ℕ → ℤ) → sum_z n (λ i. sum_z k (λ j. f i j)) ≡ sum_z k (λ j. sum_z n (λ i. f i j))
  pub size_z : (k b : ℕ) (f : ℕ → ℤ) → ((i : ℕ) → i < k → unsigned_abs (f i) ≤ b) → unsigned_abs (sum_z k f) ≤ k * b

pub record SquareLaws : Type 0 where
  pub is : (z : ℤ) → pos (square z) ≡ z *ℤ z
  pub times : (c z : ℤ) → square (c *ℤ z) ≡ square c * square z

pub record SecondLaws : Type 0 where
  pub ramp : (n m k : ℕ) (c a b : ℤ) (x y : ℕ → ℤ) → k + 2 * m < n → Ramped n c a b x y → second y m k ≡ c *ℤ second x m k
  pub turn : (n m k : ℕ) (x y : ℕ → ℤ) → k + 2 * m < n → Turned n x y → second y m k ≡ second x m (n - 2 * m - 1 - k)

-- a drift becomes a ramp, b + d·i; read backwards, the differences stand backwards with the sign turned
pub record StepLaws : Type 0 where
  pub drift : (n : ℕ) (c a b d : ℤ) (x y : ℕ → ℤ) → Drifted n c a b d x y → Ramped (n - 1) c b d (step x) (step y)
  pub turn : (n : ℕ) (x y : ℕ → ℤ) → Turned n x y → (i : ℕ) → i < n - 1 → step y i ≡ neg_ℤ (step x (n - 1 - 1 - i))

-- k samples from a place on keep their ramp; read backwards, they are the k samples that stop as many before the end
pub record WindowLaws : Type 0 where
  pub ramp : (n place k : ℕ) (c a b : ℤ) (x y : ℕ → ℤ) → place + k ≤ n → Ramped n c a b x y → Ramped k c (a +ℤ (b *ℤ pos place)) b (onward place x) (onward place y)
  pub turn : (n place k : ℕ) (x y : ℕ → ℤ) → place + k ≤ n → Turned n x y → Turned k (onward (n - k - place) x) (onward place y)

-- a ramp leaves the constant D·a; read backwards, it stands backwards plus the constant Δ·(n - 1)
pub record TrendLaws : Type 0 where
  pub ramp : (n : ℕ) (c a b : ℤ) (x y : ℕ → ℤ) → Ramped n c a b x y → (i : ℕ) → i < n → detrend n y i ≡ (c *ℤ detrend n x i) +ℤ (pos (scale n) *ℤ a)
  pub turn : (n : ℕ) (x y : ℕ → ℤ) → Turned n x y → (i : ℕ) → i < n → detrend n y i ≡ detrend n x (n - 1 - i) +ℤ (rise n x *ℤ pos (n - 1))
  pub within : (n r : ℕ) (x : ℕ → ℤ) → ((i : ℕ) → i < n → unsigned_abs (x i) ≤ r) → (i : ℕ) → i < n → unsigned_abs (detrend n x i) ≤ 5 * scale n * r

-- a ramp goes on through both mirrors; the sequence read backwards has its mirror read backwards
pub record OddMirrorLaws : Type 0 where
  pub ramp : (n : ℕ) (c a b : ℤ) (x y : ℕ → ℤ) → 3 ≤ n → Ramped n c a b x y → Ramped (3 * n - 4) c (a -ℤ (b *ℤ pos (n - 2))) b (odd_mirror n x) (odd_mirror n y)
  pub turn : (n : ℕ) (x y : ℕ → ℤ) → 3 ≤ n → Turned n x y → Turned (3 * n - 4) (odd_mirror n x) (odd_mirror n y)
  pub within : (n r : ℕ) (x : ℕ → ℤ) → 3 ≤ n → ((i : ℕ) → i < n → unsigned_abs (x i) ≤ r) → (i : ℕ) → i < 3 * n - 4 → unsigned_abs (odd_mirror n x i) ≤ 3 * r

-- it comes again after 2n places; a scale and a constant go through it; of y, which is x read backwards plus k, it is that of x moved by n places, either way, plus k
pub record EvenMirrorLaws : Type 0 where
  pub again : (n : ℕ) (x : ℕ → ℤ) (i : ℕ) → i < n → even_mirror n x (i + 2 * n) ≡ even_mirror n x i
  pub scaled : (n : ℕ) (c a : ℤ) (x y : ℕ → ℤ) → Ramped n c a (pos 0) x y → Ramped (3 * n) c a (pos 0) (even_mirror n x) (even_mirror n y)
  pub up : (n : ℕ) (k : ℤ) (x y : ℕ → ℤ) → ((i : ℕ) → i < n → y i ≡ x (n - 1 - i) +ℤ k) → (i : ℕ) → i < 2 * n → even_mirror n y i ≡ even_mirror n x (i + n) +ℤ k
  pub down : (n : ℕ) (k : ℤ) (x y : ℕ → ℤ) → ((i : ℕ) → i < n → y i ≡ x (n - 1 - i) +ℤ k) → (i : ℕ) → n ≤ i → i < 3 * n → even_mirror n y i ≡ even_mirror n x (i - n) +ℤ k
