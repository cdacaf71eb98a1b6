-- Totals of squares: what a gated total is, and when two of them agree.
use Rattle.std.proofs.Common.{◌≡◌, ℕ, zero, suc, ◌+◌, ◌-◌, ◌*◌, ◌<◌, ◌≤◌, Bool, true, false, cond, leb, ◌⊎◌, ℤ, ◌*ℤ◌, nat_abs, Some, None, Ok, Err, Option, Result, sym, refl, ap, ◌∙◌, subst, inl, inr, ⊎_elim, arith, below_more}
use Rattle.std.proofs.lemmas.Bool.{leb-true, leb-false, le-leb, lt-leb, cond-true, cond-false, cases_order}
use Rattle.algebra.specs.Sums.{sum_n}
use Rattle.algebra.specs.Squares.{square}
use Rattle.algebra.proofs.Sums.{sum_n_cong, sum_n_more, sum_n_scale, sum_n_split, sum_n_turn}
use Rattle.algebra.proofs.Squares.{square_times}
use Rattle.series.specs.declared.fault.Fault.{Fault}
use Rattle.series.specs.declared.fault.Cause.TheVariants.{TotalTooLarge}
use Rattle.series.specs.declared.fault.Layer.TheVariants.{Statistic}
use Rattle.std.specs.Option.{ok_or}
use Rattle.series.specs.Faults.{fault, and_then}
use Rattle.statistics.specs.Totals.{largest_word, largest_root, fitting, grown, stepped, total_from, gated, squares, Inside, FirstBeyond, Totalled, TotalLaws}
use Rattle.statistics.specs.Model.{SameTotal}

-- ---- one step
pub fitting_some : (n u : ℕ) → fitting n ≡ Some u → (u ≡ n) × (n ≤ largest_word)
fitting_some n u = go (leb n largest_word) refl
  where
    go : (b : Bool) → leb n largest_word ≡ b → cond b (Some n) None ≡ Some u → (u ≡ n) × (n ≤ largest_word)
    go true h e = (cc, leb-true n largest_word h)
    go false h e = let z : ◌≡◌ {A = ℕ} 0 1 = cc in absurd (omega arith)

pub fitting_none : (n : ℕ) → fitting n ≡ None → largest_word < n
fitting_none n = go (leb n largest_word) refl
  where
    go : (b : Bool) → leb n largest_word ≡ b → cond b (Some n) None ≡ None → largest_word < n
    go true h e = let z : ◌≡◌ {A = ℕ} 0 1 = cc in absurd (omega arith)
    go false h e = leb-false n largest_word h

pub fits_word : (n : ℕ) → n ≤ largest_word → Some n ≡ fitting n
fits_word n h = sym (cond-true (leb n largest_word) _ _ (le-leb n largest_word h))

pub past_word : (n : ℕ) → largest_word < n → None ≡ fitting n
past_word n h = sym (cond-false (leb n largest_word) _ _ (lt-leb n largest_word h))

pub grown_some : (t u : ℕ) (r : ℤ) → grown t r ≡ Some u → (nat_abs r ≤ largest_root) × (u ≡ t + square r) × (u ≤ largest_word)
grown_some t u r = go (leb (nat_abs r) largest_root) refl
  where
    go : (b : Bool) → leb (nat_abs r) largest_root ≡ b → cond b (fitting (t + square r)) None ≡ Some u → (nat_abs r ≤ largest_root) × (u ≡ t + square r) × (u ≤ largest_word)
    go true h e = let p = fitting_some (t + square r) u e in (leb-true (nat_abs r) largest_root h, p.0, omega (arith, p.0, p.1))
    go false h e = let z : ◌≡◌ {A = ℕ} 0 1 = cc in absurd (omega arith)

pub grown_none : (t : ℕ) (r : ℤ) → grown t r ≡ None → (largest_root < nat_abs r) ⊎ (largest_word < t + square r)
grown_none t r = go (leb (nat_abs r) largest_root) refl
  where
    go : (b : Bool) → leb (nat_abs r) largest_root ≡ b → cond b (fitting (t + square r)) None ≡ None → (largest_root < nat_abs r) ⊎ (largest_word < t + square r)
    go true h e = inr (fitting_none (t + square r) e)
    go false h e = inl (leb-false (nat_abs r) largest_root h)

-- a step is an answer or the refusal, and what follows
then_stepped : (place : ℕ) (go : ℕ → Result ℕ Fault) (o : Option ℕ) → and_then (ok_or o (fault TotalTooLarge Statistic place)) go ≡ stepped place go o
then_stepped place go (Some u) = refl
then_stepped place go None = refl

-- ---- a loop over the roots: what is left gives the answer
module _ (f : ℕ → ℤ) where
  -- x is the root as the code has it, and r what the step answers
  pub total_step : (k n t : ℕ) (x : ℤ) (r : Result ℕ Fault) → n < k → x ≡ f n → r ≡ ok_or (grown t x) (fault TotalTooLarge Statistic n) → and_then r (λ u. total_from f (n + 1) u (k - (n + 1))) ≡ total_from f n t (k - n)
  total_step k n t x r h e p =
      let left : k - n ≡ suc (k - (n + 1)) = omega arith in
      let go : ℕ → Result ℕ Fault = λ u. total_from f (n + 1) u (k - (n + 1)) in
      ap (λ q. and_then q go) p ∙ then_stepped n go (grown t x) ∙ sym (ap (total_from f n t) left ∙ ap (stepped n go) (sym (ap (grown t) e)))

-- ---- what it is
first : (f : ℕ → ℤ) (n t : ℕ) → Inside f n → t ≡ squares n f → t ≤ largest_word → (largest_root < nat_abs (f n)) ⊎ (largest_word < t + square (f n)) → FirstBeyond f n
first f n t i e l p = record {
  inside = i;
  fits = omega arith;
  passes = ⊎_elim inl (λ h. inr (omega (arith, sum_n_more n (λ k. square (f k))))) p;
}

total_from_lem : (f : ℕ → ℤ) (k n t left : ℕ) → n + left ≡ k → Inside f n → t ≡ squares n f → t ≤ largest_word → Totalled f k (total_from f n t left)
total_from_lem f k n t zero q i e l = let p : n ≡ k = omega arith in (e ∙ ap (λ j. squares j f) p, λ j h. i j (omega arith), l)
total_from_lem f k n t (suc left) q i e l =
    go (grown t (f n)) refl (λ u a b c. total_from_lem f k (n + 1) u left (omega arith) a b c)
  where
    go : (o : Option ℕ) → grown t (f n) ≡ o → ((u : ℕ) → Inside f (n + 1) → u ≡ squares (n + 1) f → u ≤ largest_word → Totalled f k (total_from f (n + 1) u left)) → Totalled f k (stepped n (λ u. total_from f (n + 1) u left) o)
    go (Some u) h next =
        let p = grown_some t u (f n) h in
        next u (below_more (λ j. nat_abs (f j) ≤ largest_root) n i p.0) (omega (arith, p.1, sum_n_more n (λ j. square (f j)))) p.2
    go None h next = (n, omega arith, refl, first f n t i e l (grown_none t (f n) h))

pub gated_is : (f : ℕ → ℤ) (k : ℕ) → Totalled f k (gated f k)
gated_is f k = total_from_lem f k 0 0 k (omega arith) (λ j h. absurd (omega arith)) refl (omega arith)

-- ---- and nothing else is
sum_mono : (n k : ℕ) (f : ℕ → ℕ) → n ≤ k → sum_n n f ≤ sum_n k f
sum_mono n k f h = omega (arith, sum_n_split n (k - n) f, ap (λ j. sum_n j f) (back n k h))
  where
    back : (n k : ℕ) → n ≤ k → n + (k - n) ≡ k
    back n k h = omega arith

-- no term passes where all are inside and the sum fits
no_first : {P : Type 0} (f : ℕ → ℤ) (n k : ℕ) → n < k → Inside f k → squares k f ≤ largest_word → FirstBeyond f n → P
no_first f n k l i h b = ⊎_elim (λ p. absurd (omega (arith, i n l))) (λ p. absurd (omega (arith, sum_mono (n + 1) k (λ j. square (f j)) (omega arith)))) b.passes

one_first : (f : ℕ → ℤ) (m n : ℕ) → FirstBeyond f m → FirstBeyond f n → m ≡ n
one_first f m n a b = ⊎_elim (λ e. e) (⊎_elim (λ l. no_first f m n l b.inside b.fits a) (λ l. no_first f n m l a.inside a.fits b)) (cases_order m n)

pub totalled_once : (f : ℕ → ℤ) (k : ℕ) (r q : Result ℕ Fault) → Totalled f k r → Totalled f k q → r ≡ q
totalled_once f k (Ok t) (Ok u) a b = ap Ok (a.0 ∙ sym b.0)
totalled_once f k (Ok t) (Err e) a b = no_first f b.0 k b.1 a.1 (omega (arith, a.0, a.2)) b.3
totalled_once f k (Err e) (Ok t) a b = no_first f a.0 k a.1 b.1 (omega (arith, b.0, b.2)) a.3
totalled_once f k (Err e) (Err g) a b = ap Err (a.2 ∙ ap (fault TotalTooLarge Statistic) (one_first f a.0 b.0 a.3 b.3) ∙ sym b.2)

pub gated_only : (f : ℕ → ℤ) (k : ℕ) (r : Result ℕ Fault) → Totalled f k r → r ≡ gated f k
gated_only f k r h = totalled_once f k r (gated f k) h (gated_is f k)

pub total_laws_lem : TotalLaws
total_laws_lem = record { is = gated_is; only = gated_only }

-- ---- what is accepted, and what is refused
pub gated_sum : (f : ℕ → ℤ) (k t : ℕ) → gated f k ≡ Ok t → t ≡ squares k f
gated_sum f k t e = (subst (λ r. Totalled f k r) e (gated_is f k)).0

pub gated_cause : (f : ℕ → ℤ) (k : ℕ) (e : Fault) → gated f k ≡ Err e → (n : ℕ) × (n < k) × (e ≡ fault TotalTooLarge Statistic n)
gated_cause f k e h = let p = subst (λ r. Totalled f k r) h (gated_is f k) in (p.0, p.1, p.2)

-- the same roots
pub gated_cong : (f g : ℕ → ℤ) (k : ℕ) → ((n : ℕ) → n < k → g n ≡ f n) → gated g k ≡ gated f k
gated_cong f g k h = go 0 0 k (λ n _ l. h n (omega arith))
  where
    same : (n t left : ℕ) → ((u : ℕ) → total_from g (n + 1) u left ≡ total_from f (n + 1) u left) → (o : Option ℕ) → stepped n (λ u. total_from g (n + 1) u left) o ≡ stepped n (λ u. total_from f (n + 1) u left) o
    same n t left r (Some u) = r u
    same n t left r None = refl

    go : (n t left : ℕ) → ((i : ℕ) → n ≤ i → i < n + left → g i ≡ f i) → total_from g n t left ≡ total_from f n t left
    go n t zero q = refl
    go n t (suc left) q = ap (λ (y : ℤ). stepped n (λ u. total_from g (n + 1) u left) (grown t y)) (q n (omega arith) (omega arith)) ∙ same n t left (λ u. go (n + 1) u left (λ i a b. q i (omega arith) (omega arith))) (grown t (f n))

-- roots that are inside together, and whose squares have one sum, in whatever order
pub gated_same : (f g : ℕ → ℤ) (k : ℕ) → (Inside f k → Inside g k) → (Inside g k → Inside f k) → squares k g ≡ squares k f → SameTotal (gated f k) (gated g k)
gated_same f g k to back e = go (gated f k) (gated g k) (gated_is f k) (gated_is g k)
  where
    clash : {P : Type 0} (h : ℕ → ℤ) (x : Fault) → Inside h k → squares k h ≤ largest_word → Totalled h k (Err x) → P
    clash h x i l p = no_first h p.0 k p.1 i l p.3

    go : (r q : Result ℕ Fault) → Totalled f k r → Totalled g k q → SameTotal r q
    go (Ok t) (Ok u) a b = b.0 ∙ e ∙ sym a.0
    go (Ok t) (Err y) a b = clash g y (to a.1) (omega (arith, a.0, a.2)) b
    go (Err x) (Ok u) a b = clash f x (back b.1) (omega (arith, b.0, b.2)) a
    go (Err x) (Err y) a b = ap (λ (z : Fault). z.cause) b.2 ∙ sym (ap (λ (z : Fault). z.cause) a.2)

-- the same roots turned round, but for their signs
pub gated_turned : (f g : ℕ → ℤ) (k : ℕ) → ((n : ℕ) → n < k → nat_abs (g n) ≡ nat_abs (f (k - 1 - n))) → SameTotal (gated f k) (gated g k)
gated_turned f g k h =
    gated_same f g k
    (λ i n l. omega (arith, h n l, i (k - 1 - n) (omega arith)))
    (λ i n l. let p : k - 1 - (k - 1 - n) ≡ n = omega arith in omega (arith, h (k - 1 - n) (omega arith), ap (λ j. nat_abs (f j)) p, i (k - 1 - n) (omega arith)))
    (sum_n_cong k (λ n. square (g n)) (λ n. square (f (k - 1 - n))) (λ n l. ap (λ z. z * z) (h n l)) ∙ sym (sum_n_turn k (λ n. square (f n))))

-- each root c times what it was
pub gated_scaled : (f g : ℕ → ℤ) (k : ℕ) (c : ℤ) (t u : ℕ) → ((n : ℕ) → n < k → g n ≡ c *ℤ f n) → gated f k ≡ Ok t → gated g k ≡ Ok u → u ≡ square c * t
gated_scaled f g k c t u h e e' =
    gated_sum g k u e'
    ∙ sum_n_cong k (λ n. square (g n)) (λ n. square c * square (f n)) (λ n l. ap square (h n l) ∙ square_times c (f n))
    ∙ sum_n_scale k (square c) (λ n. square (f n))
    ∙ ap (λ z. square c * z) (sym (gated_sum f k t e))
