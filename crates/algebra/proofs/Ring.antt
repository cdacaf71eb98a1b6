-- A solver of polynomial equations over ℤ, by computing. An expression is read to a list of monomials with ℤ coefficients; a monomial is the list of its exponents.
--     ring ρ e f tt : eval e ρ ≡ eval f ρ, where the difference of e and f comes to zero at every monomial
use Rattle.std.proofs.Common.{◌≡◌, ℕ, zero, suc, ◌+◌, Bool, true, false, T, eqb, List, [], ◌∷◌, ℤ, pos, negsuc, ◌+ℤ◌, ◌*ℤ◌, neg_ℤ, sym, refl, ap, ◌∙◌, ap₂, suc-add, zero-add, arith, eqb→eq}
use lib.IntN.{+ℤ_assoc, +ℤ_idl, zero-*ℤ, *ℤ-zero}
use borrow.Author.Differences.{ints}
use Rattle.algebra.proofs.Laws.{*ℤ_assoc, *ℤ_left_comm, *ℤ_right, *ℤ_left, one_times, times_one}

pub data Expr : Type 0 where
  var : ℕ → Expr
  con : ℤ → Expr
  add : Expr → Expr → Expr
  mul : Expr → Expr → Expr
  neg : Expr → Expr

abbrev pub at : List ℤ → ℕ → ℤ
at [] i = pos 0
at (x ∷ ρ) zero = x
at (x ∷ ρ) (suc i) = at ρ i

abbrev pub eval : Expr → List ℤ → ℤ
eval (var i) ρ = at ρ i
eval (con k) ρ = k
eval (add a b) ρ = eval a ρ +ℤ eval b ρ
eval (mul a b) ρ = eval a ρ *ℤ eval b ρ
eval (neg a) ρ = neg_ℤ (eval a ρ)

-- ---- monomials, by their exponents
abbrev pub power : ℤ → ℕ → ℤ
power x zero = pos 1
power x (suc n) = x *ℤ power x n

abbrev pub mono : List ℕ → List ℤ → ℤ
mono [] ρ = pos 1
mono (k ∷ m) [] = power (pos 0) k *ℤ mono m []
mono (k ∷ m) (x ∷ ρ) = power x k *ℤ mono m ρ

abbrev pub unit : ℕ → List ℕ
unit zero = 1 ∷ []
unit (suc i) = 0 ∷ unit i

abbrev pub join : List ℕ → List ℕ → List ℕ
join [] n = n
join (k ∷ m) [] = k ∷ m
join (k ∷ m) (j ∷ n) = (k + j) ∷ join m n

abbrev pub and_also : Bool → Bool → Bool
and_also true b = b
and_also false b = false

abbrev pub same : List ℕ → List ℕ → Bool
same [] [] = true
same [] (j ∷ n) = false
same (k ∷ m) [] = false
same (k ∷ m) (j ∷ n) = and_also (eqb k j) (same m n)

-- ---- polynomials
pub data Poly : Type 0 where
  none : Poly
  more : ℤ → List ℕ → Poly → Poly

abbrev pub total : Poly → List ℤ → ℤ
total none ρ = pos 0
total (more k m p) ρ = (k *ℤ mono m ρ) +ℤ total p ρ

abbrev pub put : ℤ → List ℕ → Poly → Poly
put k m none = more k m none
put k m (more j n p) = elim (same m n) [ true ↦ more (k +ℤ j) n p | false ↦ more j n (put k m p) ]

abbrev pub plus : Poly → Poly → Poly
plus none q = q
plus (more k m p) q = put k m (plus p q)

abbrev pub scale : ℤ → List ℕ → Poly → Poly → Poly
scale k m none r = r
scale k m (more j n p) r = put (k *ℤ j) (join m n) (scale k m p r)

abbrev pub times : Poly → Poly → Poly
times none q = none
times (more k m p) q = scale k m q (times p q)

abbrev pub norm : Expr → Poly
norm (var i) = more (pos 1) (unit i) none
norm (con k) = more k [] none
norm (add a b) = plus (norm a) (norm b)
norm (mul a b) = times (norm a) (norm b)
norm (neg a) = scale (negsuc 0) [] (norm a) none

abbrev pub nil : ℤ → Bool
nil (pos n) = eqb n 0
nil (negsuc n) = false

-- the terms that are left, and the statement that there are none: where one is, the refusal of `tt` shows them, `Left k m p` with a coefficient k and exponents m
abbrev pub trim : Poly → Poly
trim none = none
trim (more k m p) = elim (nil k) [ true ↦ trim p | false ↦ more k m (trim p) ]

pub data Left : ℤ → List ℕ → Poly → Type 0 where

abbrev pub Clear : Poly → Type 0
Clear none = Unit {0}
Clear (more k m p) = Left k m p

abbrev pub Equal : Expr → Expr → Type 0
Equal e f = Clear (trim (norm (add e (neg f))))

-- ---- soundness
power_add : (x : ℤ) (a b : ℕ) → power x (a + b) ≡ power x a *ℤ power x b
power_add x zero b = rw zero-add (sym (one_times (power x b)))
power_add x (suc a) b = rw suc-add (ap (λ (t : ℤ). x *ℤ t) (power_add x a b) ∙ sym (*ℤ_assoc x (power x a) (power x b)))

swap : (a b c d : ℤ) → (a *ℤ b) *ℤ (c *ℤ d) ≡ (a *ℤ c) *ℤ (b *ℤ d)
swap a b c d = simp (*ℤ_assoc, *ℤ_left_comm)

mono_join : (m n : List ℕ) (ρ : List ℤ) → mono (join m n) ρ ≡ mono m ρ *ℤ mono n ρ
mono_join [] n ρ = sym (one_times (mono n ρ))
mono_join (k ∷ m) [] [] = sym (times_one _)
mono_join (k ∷ m) [] (x ∷ ρ) = sym (times_one _)
mono_join (k ∷ m) (j ∷ n) [] = ap₂ ◌*ℤ◌ (power_add (pos 0) k j) (mono_join m n []) ∙ swap (power (pos 0) k) (power (pos 0) j) (mono m []) (mono n [])
mono_join (k ∷ m) (j ∷ n) (x ∷ ρ) = ap₂ ◌*ℤ◌ (power_add x k j) (mono_join m n ρ) ∙ swap (power x k) (power x j) (mono m ρ) (mono n ρ)

one_one : (a : ℤ) → (a *ℤ pos 1) *ℤ pos 1 ≡ a
one_one a = omega (arith, ints)

none_nil : (i : ℕ) → mono (unit i) [] ≡ pos 0
none_nil zero = refl
none_nil (suc i) = ap (λ (t : ℤ). pos 1 *ℤ t) (none_nil i)

mono_unit : (i : ℕ) (ρ : List ℤ) → mono (unit i) ρ ≡ at ρ i
mono_unit i [] = none_nil i
mono_unit zero (x ∷ ρ) = one_one x
mono_unit (suc i) (x ∷ ρ) = one_times (mono (unit i) ρ) ∙ mono_unit i ρ

both : (a b : Bool) → T (and_also a b) → T a × T b
both true b t = (tt, t)
both false b t = absurd t

same_is : (m n : List ℕ) → T (same m n) → m ≡ n
same_is [] [] t = refl
same_is [] (j ∷ n) t = absurd t
same_is (k ∷ m) [] t = absurd t
same_is (k ∷ m) (j ∷ n) t = ap₂ ◌∷◌ (eqb→eq k j (both (eqb k j) (same m n) t).0) (same_is m n (both (eqb k j) (same m n) t).1)

gather : (k j m p : ℤ) → ((k +ℤ j) *ℤ m) +ℤ p ≡ (k *ℤ m) +ℤ ((j *ℤ m) +ℤ p)
gather k j m p = ap (λ (t : ℤ). t +ℤ p) (*ℤ_right k j m) ∙ +ℤ_assoc (k *ℤ m) (j *ℤ m) p

later : (a b p : ℤ) → b +ℤ (a +ℤ p) ≡ a +ℤ (b +ℤ p)
later a b p = omega (arith, ints)

put_by : (b : Bool) (k : ℤ) (m : List ℕ) (j : ℤ) (n : List ℕ) (p r : Poly) (ρ : List ℤ) → (T b → m ≡ n) → total r ρ ≡ (k *ℤ mono m ρ) +ℤ total p ρ
    → total (elim b [ true ↦ more (k +ℤ j) n p | false ↦ more j n r ]) ρ ≡ (k *ℤ mono m ρ) +ℤ ((j *ℤ mono n ρ) +ℤ total p ρ)
put_by true k m j n p r ρ e h = gather k j (mono n ρ) (total p ρ) ∙ ap (λ (t : List ℕ). (k *ℤ mono t ρ) +ℤ ((j *ℤ mono n ρ) +ℤ total p ρ)) (sym (e tt))
put_by false k m j n p r ρ e h = ap (λ (t : ℤ). (j *ℤ mono n ρ) +ℤ t) h ∙ later (k *ℤ mono m ρ) (j *ℤ mono n ρ) (total p ρ)

put_is : (k : ℤ) (m : List ℕ) (p : Poly) (ρ : List ℤ) → total (put k m p) ρ ≡ (k *ℤ mono m ρ) +ℤ total p ρ
put_is k m none ρ = refl
put_is k m (more j n p) ρ = put_by (same m n) k m j n p (put k m p) ρ (same_is m n) (put_is k m p ρ)

plus_is : (p q : Poly) (ρ : List ℤ) → total (plus p q) ρ ≡ total p ρ +ℤ total q ρ
plus_is none q ρ = sym (+ℤ_idl (total q ρ))
plus_is (more k m p) q ρ = put_is k m (plus p q) ρ ∙ ap (λ (t : ℤ). (k *ℤ mono m ρ) +ℤ t) (plus_is p q ρ) ∙ sym (+ℤ_assoc (k *ℤ mono m ρ) (total p ρ) (total q ρ))

scaled : (k j m n p r : ℤ) → ((k *ℤ j) *ℤ (m *ℤ n)) +ℤ (((k *ℤ m) *ℤ p) +ℤ r) ≡ ((k *ℤ m) *ℤ ((j *ℤ n) +ℤ p)) +ℤ r
scaled k j m n p r = ap (λ (t : ℤ). t +ℤ (((k *ℤ m) *ℤ p) +ℤ r)) (swap k j m n) ∙ sym (+ℤ_assoc ((k *ℤ m) *ℤ (j *ℤ n)) ((k *ℤ m) *ℤ p) r) ∙ ap (λ (t : ℤ). t +ℤ r) (sym (*ℤ_left (k *ℤ m) (j *ℤ n) p))

scale_is : (k : ℤ) (m : List ℕ) (p r : Poly) (ρ : List ℤ) → total (scale k m p r) ρ ≡ ((k *ℤ mono m ρ) *ℤ total p ρ) +ℤ total r ρ
scale_is k m none r ρ = sym (ap (λ (t : ℤ). t +ℤ total r ρ) (*ℤ-zero (k *ℤ mono m ρ)) ∙ +ℤ_idl (total r ρ))
scale_is k m (more j n p) r ρ = put_is (k *ℤ j) (join m n) (scale k m p r) ρ ∙ ap₂ ◌+ℤ◌ (ap (λ (t : ℤ). (k *ℤ j) *ℤ t) (mono_join m n ρ)) (scale_is k m p r ρ) ∙ scaled k j (mono m ρ) (mono n ρ) (total p ρ) (total r ρ)

times_is : (p q : Poly) (ρ : List ℤ) → total (times p q) ρ ≡ total p ρ *ℤ total q ρ
times_is none q ρ = sym (zero-*ℤ (total q ρ))
times_is (more k m p) q ρ = scale_is k m q (times p q) ρ ∙ ap (λ (t : ℤ). ((k *ℤ mono m ρ) *ℤ total q ρ) +ℤ t) (times_is p q ρ) ∙ sym (*ℤ_right (k *ℤ mono m ρ) (total p ρ) (total q ρ))

lone : (a : ℤ) → (pos 1 *ℤ a) +ℤ pos 0 ≡ a
lone a = omega (arith, ints)

lone_con : (a : ℤ) → (a *ℤ pos 1) +ℤ pos 0 ≡ a
lone_con a = omega (arith, ints)

turned : (a : ℤ) → ((negsuc 0 *ℤ pos 1) *ℤ a) +ℤ pos 0 ≡ neg_ℤ a
turned a = omega (arith, ints)

pub norm_is : (e : Expr) (ρ : List ℤ) → total (norm e) ρ ≡ eval e ρ
norm_is (var i) ρ = lone (mono (unit i) ρ) ∙ mono_unit i ρ
norm_is (con k) ρ = lone_con k
norm_is (add a b) ρ = plus_is (norm a) (norm b) ρ ∙ ap₂ ◌+ℤ◌ (norm_is a ρ) (norm_is b ρ)
norm_is (mul a b) ρ = times_is (norm a) (norm b) ρ ∙ ap₂ ◌*ℤ◌ (norm_is a ρ) (norm_is b ρ)
norm_is (neg a) ρ = scale_is (negsuc 0) [] (norm a) none ρ ∙ turned (total (norm a) ρ) ∙ ap neg_ℤ (norm_is a ρ)

nil_is : (k : ℤ) → T (nil k) → k ≡ pos 0
nil_is (pos n) t = ap pos (eqb→eq n 0 t)
nil_is (negsuc n) t = absurd t

trim_by : (b : Bool) (k : ℤ) (m : List ℕ) (p : Poly) (ρ : List ℤ) → (T b → k ≡ pos 0) → total (elim b [ true ↦ p | false ↦ more k m p ]) ρ ≡ (k *ℤ mono m ρ) +ℤ total p ρ
trim_by true k m p ρ e = sym (+ℤ_idl (total p ρ)) ∙ ap (λ (t : ℤ). t +ℤ total p ρ) (sym (zero-*ℤ (mono m ρ)) ∙ ap (λ (t : ℤ). t *ℤ mono m ρ) (sym (e tt)))
trim_by false k m p ρ e = refl

trim_is : (p : Poly) (ρ : List ℤ) → total (trim p) ρ ≡ total p ρ
trim_is none ρ = refl
trim_is (more k m p) ρ = trim_by (nil k) k m (trim p) ρ (nil_is k) ∙ ap (λ (t : ℤ). (k *ℤ mono m ρ) +ℤ t) (trim_is p ρ)

clear_is : (p : Poly) (ρ : List ℤ) → Clear p → total p ρ ≡ pos 0
clear_is none ρ t = refl
clear_is (more k m p) ρ t = elim t [ ]

apart : (a b : ℤ) → a +ℤ neg_ℤ b ≡ pos 0 → a ≡ b
apart a b e = omega (arith, ints)

pub ring : (ρ : List ℤ) (e f : Expr) → Equal e f → eval e ρ ≡ eval f ρ
ring ρ e f t = apart (eval e ρ) (eval f ρ) (sym (norm_is (add e (neg f)) ρ) ∙ sym (trim_is (norm (add e (neg f))) ρ) ∙ clear_is (trim (norm (add e (neg f)))) ρ t)
