-- `search` reads a term to an expression
use Rattle.std.proofs.Common.{◌≡◌, ℕ, zero, suc, ◌+◌, ◌*◌, ◌^◌, T, eqb, List, ◌∷◌, ℤ, pos, negsuc, ◌+ℤ◌, ◌-ℤ◌, ◌*ℤ◌, neg_ℤ, sym, refl, ap, ◌∙◌, ap₂, add-one}
use native.Mathlib.Nat.{pow-zero, pow-succ'}
use borrow.Author.Differences.{up}
use lib.IntN.{+ℤ_invr, +ℤ_idr, *ℤ-zero}
use Rattle.algebra.proofs.Ring.{Expr, var, con, add, mul, neg, ring, eval, at, Equal}

pub record Reads (ρ : List ℤ) (z : ℤ) : Type 0 where
  pub expr : Expr
  pub is : eval expr ρ ≡ z

-- the places of the environment
pub data Place : List ℤ → ℤ → Type 0 where
  here : {x : ℤ} {ρ : List ℤ} → Place (x ∷ ρ) x
  there : {x y : ℤ} {ρ : List ℤ} → Place ρ x → Place (y ∷ ρ) x

abbrev pub place : {ρ : List ℤ} {x : ℤ} → Place ρ x → ℕ
place here = 0
place (there p) = suc (place p)

pub place_is : {ρ : List ℤ} {x : ℤ} (p : Place ρ x) → at ρ (place p) ≡ x
place_is here = refl
place_is (there p) = place_is p

abbrev pub r_var : (ρ : List ℤ) (x : ℤ) → Place ρ x → Reads ρ x
r_var ρ x p = record { expr = var (place p); is = place_is p }

-- a numeral: the premise computes at a literal alone
abbrev pub r_num : (ρ : List ℤ) (n : ℕ) → T (eqb n n) → Reads ρ (pos n)
r_num ρ n t = record { expr = con (pos n); is = refl }

abbrev pub r_add : (ρ : List ℤ) (x y : ℤ) → Reads ρ x → Reads ρ y → Reads ρ (x +ℤ y)
r_add ρ x y a b = record { expr = add a.expr b.expr; is = ap₂ ◌+ℤ◌ a.is b.is }

abbrev pub r_mul : (ρ : List ℤ) (x y : ℤ) → Reads ρ x → Reads ρ y → Reads ρ (x *ℤ y)
r_mul ρ x y a b = record { expr = mul a.expr b.expr; is = ap₂ ◌*ℤ◌ a.is b.is }

abbrev pub r_neg : (ρ : List ℤ) (x : ℤ) → Reads ρ x → Reads ρ (neg_ℤ x)
r_neg ρ x a = record { expr = neg a.expr; is = ap neg_ℤ a.is }

abbrev pub r_negnum : (ρ : List ℤ) (n : ℕ) → T (eqb n n) → Reads ρ (negsuc n)
r_negnum ρ n t = record { expr = con (negsuc n); is = refl }

-- a cast of a natural sum or product
abbrev pub r_cast_add : (ρ : List ℤ) (m n : ℕ) → Reads ρ (pos m) → Reads ρ (pos n) → Reads ρ (pos (m + n))
r_cast_add ρ m n a b = record { expr = add a.expr b.expr; is = ap₂ ◌+ℤ◌ a.is b.is }

abbrev pub r_cast_mul : (ρ : List ℤ) (m n : ℕ) → Reads ρ (pos m) → Reads ρ (pos n) → Reads ρ (pos (m * n))
r_cast_mul ρ m n a b = record { expr = mul a.expr b.expr; is = ap₂ ◌*ℤ◌ a.is b.is }

abbrev pub r_cast_suc : (ρ : List ℤ) (n : ℕ) → Reads ρ (pos n) → Reads ρ (pos (suc n))
r_cast_suc ρ n a = record { expr = add a.expr (con (pos 1)); is = ap (λ (t : ℤ). t +ℤ pos 1) a.is ∙ ap pos (add-one n) }

-- a power by a numeral
abbrev pub times_over : Expr → ℕ → Expr
times_over e zero = con (pos 1)
times_over e (suc k) = mul e (times_over e k)

pub times_over_is : (ρ : List ℤ) (n : ℕ) (e : Expr) (k : ℕ) → eval e ρ ≡ pos n → eval (times_over e k) ρ ≡ pos (n ^ k)
times_over_is ρ n e zero h = ap pos (sym (pow-zero n))
times_over_is ρ n e (suc k) h = ap₂ ◌*ℤ◌ h (times_over_is ρ n e k h) ∙ ap pos (sym (pow-succ' n k))

abbrev pub r_cast_pow : (ρ : List ℤ) (n k : ℕ) → T (eqb k k) → Reads ρ (pos n) → Reads ρ (pos (n ^ k))
r_cast_pow ρ n k t a = record { expr = times_over a.expr k; is = times_over_is ρ n a.expr k a.is }

-- both sides of an equation
pub record Sides (ρ : List ℤ) (x y : ℤ) : Type 0 where
  pub left : Reads ρ x
  pub right : Reads ρ y

abbrev pub r_sides : (ρ : List ℤ) (x y : ℤ) → Reads ρ x → Reads ρ y → Sides ρ x y
r_sides ρ x y a b = record { left = a; right = b }

pub ruleset reads = (r_sides, r_mul, r_add, r_neg, r_cast_add, r_cast_mul, r_cast_pow, r_num, r_negnum, r_cast_suc, r_var, here, there, tt)

pub ring_by : (ρ : List ℤ) {x y : ℤ} (s : Sides ρ x y) → Equal s.left.expr s.right.expr → x ≡ y
ring_by ρ s t = sym s.left.is ∙ ring ρ s.left.expr s.right.expr t ∙ s.right.is

-- the same over ℕ
pub ring_nat : (ρ : List ℤ) {m n : ℕ} (s : Sides ρ (pos m) (pos n)) → Equal s.left.expr s.right.expr → m ≡ n
ring_nat ρ s t = ap up (ring_by ρ s t)

-- from facts: x and y differ by d, and d is 0. `zero_of c h` is that c times the difference of h's sides is 0, and `zeros` a sum of such
pub zero_of : (c : ℤ) {a b : ℤ} → a ≡ b → c *ℤ (a -ℤ b) ≡ pos 0
zero_of c {a} {b} h = ap (λ (t : ℤ). c *ℤ (t -ℤ b)) h ∙ ap (λ (t : ℤ). c *ℤ t) (+ℤ_invr b) ∙ *ℤ-zero c

pub zeros : {a b : ℤ} → a ≡ pos 0 → b ≡ pos 0 → a +ℤ b ≡ pos 0
zeros {a} {b} p q = ap₂ ◌+ℤ◌ p q

pub ring_from : (ρ : List ℤ) {x y d : ℤ} → d ≡ pos 0 → (s : Sides ρ x (y +ℤ d)) → Equal s.left.expr s.right.expr → x ≡ y
ring_from ρ {x} {y} {d} h s t = ring_by ρ s t ∙ ap (λ (z : ℤ). y +ℤ z) h ∙ +ℤ_idr y

pub ring_nat_from : (ρ : List ℤ) {m n : ℕ} {d : ℤ} → d ≡ pos 0 → (s : Sides ρ (pos m) (pos n +ℤ d)) → Equal s.left.expr s.right.expr → m ≡ n
ring_nat_from ρ {m} {n} {d} h s t = ap up (ring_from ρ {x = pos m} {y = pos n} {d = d} h s t)
