-- What follows from a formula: a part that is accepted, and the laws of totals from those of roots.
use Rattle.std.proofs.Common.{◌≡◌, ℕ, ◌*◌, ◌<◌, ◌≤◌, Bool, true, false, cond, ◌&&◌, ltb, leb, ℤ, ◌*ℤ◌, Ok, Err, Result, sym, refl, ap, ◌∙◌, subst, arith}
use Rattle.std.proofs.lemmas.Bool.{ltb-true, ltb-false, leb-true, lt-ltb, le-leb, and_parts, and_from, cond-true}
use Rattle.algebra.specs.Squares.{square}
use Rattle.series.specs.declared.fault.Fault.{Fault}
use Rattle.series.specs.declared.fault.Cause.TheVariants.{SeriesTooLong, FactorNotTaken, TooFewSamples, NoSuchPart, ReachTooLarge}
use Rattle.series.specs.declared.fault.Layer.TheVariants.{Series, Statistic}
use Rattle.series.specs.Faults.{fault, and_then}
use Rattle.series.specs.Limits.{fullest}
use Rattle.series.specs.Seen.{Seen}
use Rattle.series.proofs.Outcomes.{ok_err, ok_same, then_ok}
use Rattle.statistics.specs.Totals.{gated}
use Rattle.statistics.specs.Model.{Formula, parts_of, admitted, part_total, total_of, IsPart, SameTotal}
use Rattle.statistics.proofs.Totals.{gated_cong, gated_scaled}

-- ---- a factor and a part that are accepted
pub parts_ok : (F : Formula) (n m k : ℕ) → parts_of F n m ≡ Ok k → (n ≤ fullest) × (F.takes m ≡ true) × (F.enough n m ≡ true) × (k ≡ F.parts n m)
parts_ok F n m k = go (ltb fullest n) (F.takes m) (F.enough n m) refl refl refl
  where
    go : (a b c : Bool) → ltb fullest n ≡ a → F.takes m ≡ b → F.enough n m ≡ c →
        cond a (Err (fault SeriesTooLong Statistic 0)) (cond b (cond c (Ok (F.parts n m)) (Err (fault TooFewSamples Statistic 0))) (Err (fault FactorNotTaken Statistic 0))) ≡ Ok k →
        (n ≤ fullest) × (F.takes m ≡ true) × (F.enough n m ≡ true) × (k ≡ F.parts n m)
    go true b c p q r e = ok_err (sym e)
    go false true true p q r e = (ltb-false fullest n p, q, r, sym (ok_same e))
    go false true false p q r e = ok_err (sym e)
    go false false c p q r e = ok_err (sym e)

pub admitted_ok : (r : Result ℕ Fault) (j k : ℕ) → admitted r j ≡ Ok k → (r ≡ Ok k) × (1 ≤ j) × (j ≤ k)
admitted_ok (Ok n) j k e = go (ltb 0 j && leb j n) refl e
  where
    go : (b : Bool) → (ltb 0 j && leb j n) ≡ b → cond b (Ok n) (Err (fault NoSuchPart Statistic j)) ≡ Ok k → (◌≡◌ {A = Result ℕ Fault} (Ok n) (Ok k)) × (1 ≤ j) × (j ≤ k)
    go true h p = let w = and_parts (ltb 0 j) (leb j n) h in let q : n ≡ k = ok_same p in (p, ltb-true 0 j w.0, omega (arith, leb-true j n w.1, q))
    go false h p = ok_err (sym p)
admitted_ok (Err f) j k e = ok_err (sym e)

pub part_stands : (F : Formula) (n m j k : ℕ) → parts_of F n m ≡ Ok k → 1 ≤ j → j ≤ k → admitted (parts_of F n m) j ≡ Ok k
part_stands F n m j k e a b = ap (λ r. admitted r j) e ∙ cond-true _ _ _ (and_from (ltb 0 j) (leb j k) (lt-ltb 0 j a) (le-leb j k b))

-- ---- a total that is accepted
pub total_ok : (F : Formula) (s : Seen) (m j t : ℕ) → total_of F s m j ≡ Ok t → IsPart F s.size m j × (gated (F.root s m j) (F.terms s.size m j) ≡ Ok t)
total_ok F s m j t e =
    let p = then_ok (admitted (parts_of F s.size m) j) (λ _. part_total F s m j) t e in
    ((p.0, p.1), go (F.reaches s.size s.bound m) p.2)
  where
    go : (b : Bool) → cond b (gated (F.root s m j) (F.terms s.size m j)) (Err (fault ReachTooLarge Series 0)) ≡ Ok t → gated (F.root s m j) (F.terms s.size m j) ≡ Ok t
    go true h = h
    go false h = ok_err (sym h)

-- ---- the laws of totals, from those of roots
-- a total, by its length, its reach and its roots
abbrev total_by : Formula → ℕ → ℕ → ℕ → ℕ → (ℕ → ℤ) → Result ℕ Fault
total_by F m j n b f = and_then (admitted (parts_of F n m) j) (λ _. cond (F.reaches n b m) (gated f (F.terms n m j)) (Err (fault ReachTooLarge Series 0)))

module _ (F : Formula) (s t : Seen) (m j : ℕ) (long : t.size ≡ s.size) where
  pub rooted_local : t.bound ≡ s.bound → (IsPart F s.size m j → (n : ℕ) → n < F.terms s.size m j → F.root t m j n ≡ F.root s m j n) → total_of F t m j ≡ total_of F s m j
  rooted_local far same =
      ap (λ n. total_by F m j n t.bound (F.root t m j)) long ∙ ap (λ b. total_by F m j s.size b (F.root t m j)) far ∙ go (admitted (parts_of F s.size m) j) refl
    where
      go : (r : Result ℕ Fault) → admitted (parts_of F s.size m) j ≡ r →
          and_then r (λ _. cond (F.reaches s.size s.bound m) (gated (F.root t m j) (F.terms s.size m j)) (Err (fault ReachTooLarge Series 0))) ≡ and_then r (λ _. part_total F s m j)
      go (Ok k) e = ap (λ (y : Result ℕ Fault). cond (F.reaches s.size s.bound m) y (Err (fault ReachTooLarge Series 0))) (gated_cong (F.root s m j) (F.root t m j) (F.terms s.size m j) (same (k, e)))
      go (Err f) e = refl

  pub rooted_scaled : (c : ℤ) (T U : ℕ) → (IsPart F s.size m j → (n : ℕ) → n < F.terms s.size m j → F.root t m j n ≡ c *ℤ F.root s m j n) → total_of F s m j ≡ Ok T → total_of F t m j ≡ Ok U → U ≡ square c * T
  rooted_scaled c T U same e e' =
      let p = total_ok F s m j T e in
      let q = total_ok F t m j U e' in
      gated_scaled (F.root s m j) (F.root t m j) (F.terms s.size m j) c T U (same p.0) p.1 (ap (λ n. gated (F.root t m j) (F.terms n m j)) (sym long) ∙ q.1)

  pub rooted_mirrored : t.bound ≡ s.bound → (IsPart F s.size m j → SameTotal (gated (F.root s m j) (F.terms s.size m j)) (gated (F.root t m j) (F.terms s.size m j))) → SameTotal (total_of F s m j) (total_of F t m j)
  rooted_mirrored far same =
      subst (λ r. SameTotal (total_of F s m j) r) (sym (ap (λ n. total_by F m j n t.bound (F.root t m j)) long ∙ ap (λ b. total_by F m j s.size b (F.root t m j)) far)) (go (admitted (parts_of F s.size m) j) refl)
    where
      at : (b : Bool) → SameTotal (gated (F.root s m j) (F.terms s.size m j)) (gated (F.root t m j) (F.terms s.size m j)) →
          SameTotal (cond b (gated (F.root s m j) (F.terms s.size m j)) (Err (fault ReachTooLarge Series 0))) (cond b (gated (F.root t m j) (F.terms s.size m j)) (Err (fault ReachTooLarge Series 0)))
      at true h = h
      at false h = refl

      go : (r : Result ℕ Fault) → admitted (parts_of F s.size m) j ≡ r →
          SameTotal (and_then r (λ _. part_total F s m j)) (and_then r (λ _. cond (F.reaches s.size s.bound m) (gated (F.root t m j) (F.terms s.size m j)) (Err (fault ReachTooLarge Series 0))))
      go (Ok k) e = at (F.reaches s.size s.bound m) (same (k, e))
      go (Err f) e = refl
