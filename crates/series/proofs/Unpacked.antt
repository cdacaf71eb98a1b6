-- Packed samples: how many there are, the one at a place, and what their refusal tells.
use Rattle.std.proofs.Common.{◌≡◌, ℕ, zero, suc, ◌-◌, ◌*◌, ◌/◌, ◌%◌, ◌<◌, ◌≤◌, Bool, true, false, cond, not, eqb, ltb, leb, List, [], ◌∷◌, length, get_or, take, drop, ℤ, pos, nat_abs, ◌⊎◌, inl, inr, Some, None, Option, sym, refl, ap, ◌∙◌, zero-le, arith}
use Rattle.std.proofs.lemmas.Grind.{common_steps}
use Rattle.std.proofs.lemmas.Option.{same_Some}
use Rattle.std.proofs.lemmas.List.{get_or-drop, get_or_past, take_rest}
use Rattle.std.proofs.lemmas.List.Quantifiers.{position-Some}
use Rattle.std.proofs.lemmas.List.Sums.{fails_before_first}
use Rattle.std.proofs.lemmas.Bool.{leb-true, leb-false, ltb-false, eqb-true, not-true, not-false, cases_lt}
use Rattle.series.specs.declared.fault.Fault.{Fault}
use Rattle.series.specs.declared.fault.Cause.TheVariants.{OutOfRange, Full, MalformedBytes}
use Rattle.series.specs.declared.fault.Layer.TheVariants.{Series}
use Rattle.series.specs.Faults.{fault, cause_number}
use Rattle.series.specs.Limits.{fullest, largest}
use Rattle.series.specs.Packed.{unpacked, first_beyond, FirstOut, beyond, packed_refusal, RefusalTells}

pub length-unpacked : (bs : List ℕ) → length (unpacked bs) ≡ length bs / 4
length-unpacked [] = refl
length-unpacked (a ∷ []) = refl
length-unpacked (a ∷ (b ∷ [])) = refl
length-unpacked (a ∷ (b ∷ (c ∷ []))) = refl
length-unpacked (a ∷ (b ∷ (c ∷ (d ∷ rest)))) = omega (arith, length-unpacked rest)

-- cut k samples off the front
pub unpacked-drop : (k : ℕ) (bs : List ℕ) → unpacked (drop (4 * k) bs) ≡ drop k (unpacked bs)
unpacked-drop zero bs = refl
unpacked-drop (suc k) bs = ap (λ n. unpacked (drop n bs)) (four k) ∙ go (unpacked-drop k) bs
  where
    four : (k : ℕ) → 4 * suc k ≡ suc (suc (suc (suc (4 * k))))
    four k = omega arith

    go : ((bs : List ℕ) → unpacked (drop (4 * k) bs) ≡ drop k (unpacked bs)) → (bs : List ℕ) → unpacked (drop (suc (suc (suc (suc (4 * k))))) bs) ≡ drop (suc k) (unpacked bs)
    go h [] = refl
    go h (a ∷ []) = refl
    go h (a ∷ (b ∷ [])) = refl
    go h (a ∷ (b ∷ (c ∷ []))) = refl
    go h (a ∷ (b ∷ (c ∷ (d ∷ rest)))) = h rest

-- the sample at the place k is the first one after the cut
pub unpacked_at : (k : ℕ) (bs : List ℕ) → get_or (unpacked (drop (4 * k) bs)) 0 (pos 0) ≡ get_or (unpacked bs) k (pos 0)
unpacked_at k bs = ap (λ xs. get_or xs 0 (pos 0)) (unpacked-drop k bs) ∙ get_or-drop k (unpacked bs) 0 (pos 0) ∙ ap (λ i. get_or (unpacked bs) i (pos 0)) (omega arith)

-- the first sample of the bytes from the place 4k on is the one at the place k
pub first_at : (k : ℕ) (bs : List ℕ) (x : ℤ) (xs : List ℤ) → unpacked (take (length bs - 4 * k) (drop (4 * k) bs)) ≡ x ∷ xs → x ≡ get_or (unpacked bs) k (pos 0)
first_at k bs x xs e = sym (ap (λ ys. get_or ys 0 (pos 0)) e) ∙ ap (λ cs. get_or (unpacked cs) 0 (pos 0)) (take_rest bs (4 * k)) ∙ unpacked_at k bs

-- a sample beyond the range, and one within it
abbrev pub out : ℤ → Bool
out x = not (leb (nat_abs x) largest)

is_out : (x : ℤ) → out x ≡ true → largest < nat_abs x
is_out x e = leb-false (nat_abs x) largest (not-true _ e)

is_in : (x : ℤ) → out x ≡ false → nat_abs x ≤ largest
is_in x e = leb-true (nat_abs x) largest (not-false _ e)

first_is : (p : ℕ) (xs : List ℤ) → first_beyond xs ≡ Some p → FirstOut xs p
first_is p xs e =
    let f = position-Some out xs p (pos 0) e in
    record { inside = f.0; passes = is_out (get_or xs p (pos 0)) f.1; before = λ i l. is_in (get_or xs i (pos 0)) (f.2 i l) }

-- where none is out of range, each is in range
none_beyond : (xs : List ℤ) → first_beyond xs ≡ None → (i : ℕ) → nat_abs (get_or xs i (pos 0)) ≤ largest
none_beyond xs e i = go (cases_lt i (length xs))
  where
    go : (i < length xs) ⊎ (length xs ≤ i) → nat_abs (get_or xs i (pos 0)) ≤ largest
    go (inl l) = is_in (get_or xs i (pos 0)) (fails_before_first out xs i (pos 0) (grind (arith, common_steps)))
    go (inr l) = rw (get_or_past xs i (pos 0) l) zero-le

not_beyond : (o : Option ℕ) → beyond o ≡ None → o ≡ None
not_beyond None e = refl
not_beyond (Some k) e = let z : ◌≡◌ {A = ℕ} 0 1 = cc in absurd (omega arith)

-- refusals of other causes
apart : {A : Type 0} {f g : Fault} → Some f ≡ Some g → (cause_number f.cause ≡ cause_number g.cause → ⊥) → A
apart e n = absurd (n (ap (λ (h : Fault). cause_number h.cause) (same_Some _ _ e)))

-- a refusal for range comes from the samples
beyond_at : (o : Option ℕ) (p : ℕ) → beyond o ≡ Some (fault OutOfRange Series p) → o ≡ Some p
beyond_at None p e = let z : ◌≡◌ {A = ℕ} 0 1 = cc in absurd (omega arith)
beyond_at (Some k) p e = ap (λ (h : Fault). Some h.place) (same_Some _ _ e)

-- the refusal, by its two tests
abbrev which : List ℕ → Bool → Bool → Option Fault
which bs b c = cond b (cond c (Some (fault Full Series 0)) (beyond (first_beyond (unpacked bs)))) (Some (fault MalformedBytes Series 0))

pub refusal_tells : (bs : List ℕ) → RefusalTells bs (packed_refusal bs)
refusal_tells bs = (at (eqb (length bs % 4) 0) (ltb (4 * fullest) (length bs)), none (eqb (length bs % 4) 0) (ltb (4 * fullest) (length bs)) refl refl)
  where
    at : (b c : Bool) (p : ℕ) → which bs b c ≡ Some (fault OutOfRange Series p) → FirstOut (unpacked bs) p
    at true true p e = apart e (λ z. omega arith)
    at true false p e = first_is p (unpacked bs) (beyond_at _ p e)
    at false c p e = apart e (λ z. omega arith)

    none : (b c : Bool) → eqb (length bs % 4) 0 ≡ b → ltb (4 * fullest) (length bs) ≡ c → which bs b c ≡ None → (length bs % 4 ≡ 0) × (length (unpacked bs) ≤ fullest) × ((i : ℕ) → nat_abs (get_or (unpacked bs) i (pos 0)) ≤ largest)
    none true true q h e = let z : ◌≡◌ {A = ℕ} 0 1 = cc in absurd (omega arith)
    none true false q h e = (eqb-true _ _ q, omega (arith, length-unpacked bs, ltb-false _ _ h), none_beyond (unpacked bs) (not_beyond _ e))
    none false c q h e = let z : ◌≡◌ {A = ℕ} 0 1 = cc in absurd (omega arith)
