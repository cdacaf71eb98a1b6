-- The two mirrors, third by third, and what becomes of a ramp and of a sequence read backwards.
use Rattle.std.proofs.Common.{◌≡◌, ℕ, ◌+◌, ◌-◌, ◌*◌, ◌<◌, ◌≤◌, ltb, [], ◌∷◌, ℤ, pos, ◌+ℤ◌, ◌-ℤ◌, ◌*ℤ◌, neg_ℤ, nat_abs, sym, ap, ◌∙◌, ap₂, inl, inr, arith}
use borrow.Author.Differences.{ints}
use Rattle.std.proofs.lemmas.Bool.{lt-ltb, le-ltb, cond-true, cond-false, cases_lt}
use Rattle.algebra.specs.Differences.{ramped, Ramped, Turned}
use Rattle.algebra.specs.Mirrors.{about, odd_mirror, folded, even_mirror}
use Rattle.algebra.proofs.Reify.{reads, ring_by, ring_from, zero_of, zeros}

-- a place before a, from a to b, or from b on
by_third : {P : Type 0} (i a b : ℕ) → (i < a → P) → (a ≤ i → i < b → P) → (b ≤ i → P) → P
by_third i a b first middle last = elim (cases_lt i a) [ inl h ↦ first h | inr h ↦ elim (cases_lt i b) [ inl k ↦ middle h k | inr k ↦ last k ] ]

-- ---- even
folded_first : (n i : ℕ) → i < n → folded n i ≡ n - 1 - i
folded_first n i h = cond-true (ltb i n) _ _ (lt-ltb i n h)

folded_middle : (n i : ℕ) → n ≤ i → i < 2 * n → folded n i ≡ i - n
folded_middle n i h k = cond-false (ltb i n) _ _ (le-ltb i n h) ∙ cond-true (ltb i (2 * n)) _ _ (lt-ltb i (2 * n) k)

folded_last : (n i : ℕ) → 2 * n ≤ i → folded n i ≡ 3 * n - 1 - i
folded_last n i h = cond-false (ltb i n) _ _ (le-ltb i n (omega arith)) ∙ cond-false (ltb i (2 * n)) _ _ (le-ltb i (2 * n) h)

pub folded_below : (n i : ℕ) → i < 3 * n → folded n i < n
folded_below n i h = by_third i n (2 * n) (λ a. omega (arith, folded_first n i a)) (λ a b. omega (arith, folded_middle n i a b)) (λ a. omega (arith, folded_last n i a))

pub even_again : (n : ℕ) (x : ℕ → ℤ) (i : ℕ) → i < n → even_mirror n x (i + 2 * n) ≡ even_mirror n x i
even_again n x i h = ap x (omega (arith, folded_last n (i + 2 * n) (omega arith), folded_first n i h))

pub even_scaled : (n : ℕ) (c a : ℤ) (x y : ℕ → ℤ) → Ramped n c a (pos 0) x y → Ramped (3 * n) c a (pos 0) (even_mirror n x) (even_mirror n y)
even_scaled n c a x y h i l = h (folded n i) (folded_below n i l) ∙ ring_by (c ∷ a ∷ x (folded n i) ∷ pos i ∷ pos (folded n i) ∷ []) (search reads depth 30 fits 9000) tt

-- x read backwards, at the place that is shown, is x at the place shown n places on
fold_up : (n i : ℕ) → i < 2 * n → n - 1 - folded n i ≡ folded n (i + n)
fold_up n i h = by_third i n (2 * n)
    (λ a. omega (arith, folded_first n i a, folded_middle n (i + n) (omega arith) (omega arith)))
    (λ a b. omega (arith, folded_middle n i a b, folded_last n (i + n) (omega arith)))
    (λ a. absurd (omega arith))

pub even_up : (n : ℕ) (k : ℤ) (x y : ℕ → ℤ) → ((i : ℕ) → i < n → y i ≡ x (n - 1 - i) +ℤ k) → (i : ℕ) → i < 2 * n → even_mirror n y i ≡ even_mirror n x (i + n) +ℤ k
even_up n k x y turned i h = turned (folded n i) (folded_below n i (omega arith)) ∙ ap (λ j. x j +ℤ k) (fold_up n i h)

-- the same seen from x, which is y read backwards less k
pub even_down : (n : ℕ) (k : ℤ) (x y : ℕ → ℤ) → ((i : ℕ) → i < n → y i ≡ x (n - 1 - i) +ℤ k) → (i : ℕ) → n ≤ i → i < 3 * n → even_mirror n y i ≡ even_mirror n x (i - n) +ℤ k
even_down n k x y turned i h u =
    let back : (j : ℕ) → j < n → x j ≡ y (n - 1 - j) +ℤ neg_ℤ k = λ j l. let p = turned (n - 1 - j) (omega arith) in let q : x (n - 1 - (n - 1 - j)) ≡ x j = ap x (omega arith) in omega (arith, ints) in
    let e = even_up n (neg_ℤ k) y x back (i - n) (omega arith) in
    let f : even_mirror n y (i - n + n) ≡ even_mirror n y i = ap (even_mirror n y) (omega arith) in
    omega (arith, ints)

-- ---- odd
odd_first : (n : ℕ) (x : ℕ → ℤ) (i : ℕ) → i < n - 2 → odd_mirror n x i ≡ about (x 0) (x (n - 2 - i))
odd_first n x i h = cond-true (ltb i (n - 2)) _ _ (lt-ltb i (n - 2) h)

odd_middle : (n : ℕ) (x : ℕ → ℤ) (i : ℕ) → n - 2 ≤ i → i < 2 * n - 2 → odd_mirror n x i ≡ x (i - (n - 2))
odd_middle n x i h k = cond-false (ltb i (n - 2)) _ _ (le-ltb i (n - 2) h) ∙ cond-true (ltb i (2 * n - 2)) _ _ (lt-ltb i (2 * n - 2) k)

odd_last : (n : ℕ) (x : ℕ → ℤ) (i : ℕ) → 2 * n - 2 ≤ i → odd_mirror n x i ≡ about (x (n - 1)) (x (3 * n - 4 - i))
odd_last n x i h = cond-false (ltb i (n - 2)) _ _ (le-ltb i (n - 2) (omega arith)) ∙ cond-false (ltb i (2 * n - 2)) _ _ (le-ltb i (2 * n - 2) h)

-- a ramp turned about the place e goes on: 2e - j is i, counted from the first sample that is no mirror's
about_ramp : (c a b p q p' q' : ℤ) (e j i m : ℕ) → p' ≡ ramped c a b e p → q' ≡ ramped c a b j q → 2 * e + m ≡ i + j → about p' q' ≡ ramped c (a -ℤ (b *ℤ pos m)) b i (about p q)
about_ramp c a b p q p' q' e j i m f g h = ring_from (c ∷ a ∷ b ∷ p ∷ q ∷ p' ∷ q' ∷ pos e ∷ pos j ∷ pos i ∷ pos m ∷ []) (zeros (zeros (zero_of (pos 2) f) (zero_of (neg_ℤ (pos 1)) g)) (zero_of b (ap pos h))) (search reads depth 30 fits 9000) tt

moved_ramp : (c a b z z' : ℤ) (j i m : ℕ) → z' ≡ ramped c a b j z → j + m ≡ i → z' ≡ ramped c (a -ℤ (b *ℤ pos m)) b i z
moved_ramp c a b z z' j i m f h = ring_from (c ∷ a ∷ b ∷ z ∷ z' ∷ pos j ∷ pos i ∷ pos m ∷ []) (zeros (zero_of (pos 1) f) (zero_of b (ap pos h))) (search reads depth 30 fits 9000) tt

pub odd_ramp : (n : ℕ) (c a b : ℤ) (x y : ℕ → ℤ) → 3 ≤ n → Ramped n c a b x y → Ramped (3 * n - 4) c (a -ℤ (b *ℤ pos (n - 2))) b (odd_mirror n x) (odd_mirror n y)
odd_ramp n c a b x y three h i l = by_third i (n - 2) (2 * n - 2)
    (λ u. odd_first n y i u ∙ about_ramp c a b (x 0) (x (n - 2 - i)) (y 0) (y (n - 2 - i)) 0 (n - 2 - i) i (n - 2) (h 0 (omega arith)) (h (n - 2 - i) (omega arith)) (omega arith) ∙ ap (shown i) (sym (odd_first n x i u)))
    (λ u v. odd_middle n y i u v ∙ moved_ramp c a b (x (i - (n - 2))) (y (i - (n - 2))) (i - (n - 2)) i (n - 2) (h (i - (n - 2)) (omega arith)) (omega arith) ∙ ap (shown i) (sym (odd_middle n x i u v)))
    (λ u. odd_last n y i u ∙ about_ramp c a b (x (n - 1)) (x (3 * n - 4 - i)) (y (n - 1)) (y (3 * n - 4 - i)) (n - 1) (3 * n - 4 - i) i (n - 2) (h (n - 1) (omega arith)) (h (3 * n - 4 - i) (omega arith)) (omega arith) ∙ ap (shown i) (sym (odd_last n x i u)))
  where
    shown : ℕ → ℤ → ℤ
    shown = ramped c (a -ℤ (b *ℤ pos (n - 2))) b

pub odd_turn : (n : ℕ) (x y : ℕ → ℤ) → 3 ≤ n → Turned n x y → Turned (3 * n - 4) (odd_mirror n x) (odd_mirror n y)
odd_turn n x y three h i l = by_third i (n - 2) (2 * n - 2)
    (λ u. odd_first n y i u ∙ ap₂ about (h 0 (omega arith) ∙ ap x (omega arith)) (h (n - 2 - i) (omega arith) ∙ ap x (omega arith)) ∙ sym (odd_last n x (3 * n - 4 - 1 - i) (omega arith)))
    (λ u v. odd_middle n y i u v ∙ h (i - (n - 2)) (omega arith) ∙ ap x (omega arith) ∙ sym (odd_middle n x (3 * n - 4 - 1 - i) (omega arith) (omega arith)))
    (λ u. odd_last n y i u ∙ ap₂ about (h (n - 1) (omega arith) ∙ ap x (omega arith)) (h (3 * n - 4 - i) (omega arith) ∙ ap x (omega arith)) ∙ sym (odd_first n x (3 * n - 4 - 1 - i) (omega arith)))

about_within : (r : ℕ) (p q : ℤ) → nat_abs p ≤ r → nat_abs q ≤ r → nat_abs (about p q) ≤ 3 * r
about_within r p q a b = omega (arith, ints)

pub odd_within : (n r : ℕ) (x : ℕ → ℤ) → 3 ≤ n → ((i : ℕ) → i < n → nat_abs (x i) ≤ r) → (i : ℕ) → i < 3 * n - 4 → nat_abs (odd_mirror n x i) ≤ 3 * r
odd_within n r x three h i l = by_third i (n - 2) (2 * n - 2)
    (λ u. omega (arith, ap nat_abs (odd_first n x i u), about_within r (x 0) (x (n - 2 - i)) (h 0 (omega arith)) (h (n - 2 - i) (omega arith))))
    (λ u v. omega (arith, ap nat_abs (odd_middle n x i u v), h (i - (n - 2)) (omega arith)))
    (λ u. omega (arith, ap nat_abs (odd_last n x i u), about_within r (x (n - 1)) (x (3 * n - 4 - i)) (h (n - 1) (omega arith)) (h (3 * n - 4 - i) (omega arith))))
