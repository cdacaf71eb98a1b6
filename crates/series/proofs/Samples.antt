-- What a sample call answers, at a place of the series and past its end.
use Rattle.std.proofs.Common.{◌≡◌, ℕ, ◌<◌, ◌≤◌, ltb, ◌⊎◌, ℤ, nat_abs, Ok, Err, sym, refl, ap, ◌∙◌, inl, inr, arith}
use Rattle.std.proofs.lemmas.Bool.{cond-true, cond-false, lt-ltb, le-ltb, cases_lt}
use Rattle.series.specs.declared.fault.Fault.{Fault}
use Rattle.series.specs.declared.fault.Cause.TheVariants.{NoSuchPlace}
use Rattle.series.specs.declared.fault.Layer.TheVariants.{Series}
use Rattle.series.specs.Faults.{fault}
use Rattle.series.specs.Seen.{Seen, Lawful, sample_of}
use Rattle.series.proofs.Outcomes.{ok_err}

pub sample_at_lem : (s : Seen) (k : ℕ) → k < s.size → Ok (s.value k) ≡ sample_of s k
sample_at_lem s k h = sym (cond-true (ltb k s.size) _ _ (lt-ltb k s.size h))

pub sample_past : (s : Seen) (k : ℕ) (f : Fault) → f ≡ fault NoSuchPlace Series k → s.size ≤ k → Err f ≡ sample_of s k
sample_past s k f e h = ap Err e ∙ sym (cond-false (ltb k s.size) _ _ (le-ltb k s.size h))

-- an answer comes only at a place of the series
pub sample_inside : (s : Seen) (k : ℕ) (x : ℤ) → Ok x ≡ sample_of s k → k < s.size
sample_inside s k x e = go (cases_lt k s.size)
  where
    go : (k < s.size) ⊎ (s.size ≤ k) → k < s.size
    go (inl h) = h
    go (inr h) = ok_err (e ∙ sym (sample_past s k (fault NoSuchPlace Series k) refl h))

-- an answer is the sample
pub sample_is : (s : Seen) (k : ℕ) (x : ℤ) → k < s.size → Ok x ≡ sample_of s k → x ≡ s.value k
sample_is s k x h e = let f = sample_at_lem s k h in cc

-- and lies within the reach
pub sample_within : (s : Seen) → Lawful s → (k : ℕ) (x : ℤ) → Ok x ≡ sample_of s k → nat_abs x ≤ s.bound
sample_within s l k x e = let h = sample_inside s k x e in let f = sample_is s k x h e in omega (arith, l.within k h, ap nat_abs f)
