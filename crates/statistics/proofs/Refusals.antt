-- When a factor, a part and a total are refused.
use Rattle.std.proofs.Common.{◌≡◌, ℕ, ◌<◌, Bool, true, false, cond, ltb, leb, ◌⊎◌, Ok, Err, sym, refl, ap, ◌∙◌, subst, inl, inr, ⊎_elim, arith}
use Rattle.std.proofs.lemmas.Bool.{ltb-true, ltb-false, le-ltb, lt-leb, and_left, and_right, cond-false}
use Rattle.series.specs.declared.fault.Cause.TheVariants.{SeriesTooLong, FactorNotTaken, TooFewSamples, NoSuchPart, ReachTooLarge}
use Rattle.series.specs.declared.fault.Layer.TheVariants.{Series, Statistic}
use Rattle.series.specs.Faults.{fault, and_then}
use Rattle.series.specs.Limits.{fullest}
use Rattle.series.specs.Seen.{Seen}
use Rattle.statistics.specs.Totals.{gated}
use Rattle.statistics.specs.Model.{Formula, parts_of, admitted, part_total, total_of, IsPart, FactorAnswered, PartTotalled, RefusalLaws}
use Rattle.statistics.proofs.Formulas.{part_stands}
use Rattle.statistics.proofs.Totals.{gated_is}

parts_answered : (F : Formula) (n m : ℕ) → FactorAnswered F n m (parts_of F n m)
parts_answered F n m = go (ltb fullest n) (F.takes m) (F.enough n m) refl refl refl
  where
    go : (a b c : Bool) → ltb fullest n ≡ a → F.takes m ≡ b → F.enough n m ≡ c →
        FactorAnswered F n m (cond a (Err (fault SeriesTooLong Statistic 0)) (cond b (cond c (Ok (F.parts n m)) (Err (fault TooFewSamples Statistic 0))) (Err (fault FactorNotTaken Statistic 0))))
    go true b c p q r = inl (ltb-true fullest n p, refl)
    go false false c p q r = inr (inl (ltb-false fullest n p, q, refl))
    go false true false p q r = inr (inr (ltb-false fullest n p, q, r, refl))
    go false true true p q r = (record { short = ltb-false fullest n p; taken = q; enough = r }, refl)

no_part : (F : Formula) (n m j k : ℕ) → parts_of F n m ≡ Ok k → (j ≡ 0) ⊎ (k < j) → admitted (parts_of F n m) j ≡ Err (fault NoSuchPart Statistic j)
no_part F n m j k e h = ap (λ r. admitted r j) e ∙ cond-false _ _ _ (⊎_elim (λ z. and_left (ltb 0 j) (leb j k) (le-ltb 0 j (omega arith))) (λ l. and_right (ltb 0 j) (leb j k) (lt-leb j k l)) h)

part_totalled : (F : Formula) (s : Seen) (m j : ℕ) → IsPart F s.size m j → PartTotalled F s m j (total_of F s m j)
part_totalled F s m j a = subst (λ r. PartTotalled F s m j r) (sym (ap (λ r. and_then r (λ _. part_total F s m j)) a.1)) (go (F.reaches s.size s.bound m) refl)
  where
    go : (b : Bool) → F.reaches s.size s.bound m ≡ b → PartTotalled F s m j (cond b (gated (F.root s m j) (F.terms s.size m j)) (Err (fault ReachTooLarge Series 0)))
    go true h = inr (h, gated_is (F.root s m j) (F.terms s.size m j))
    go false h = inl (h, refl)

pub refusal_laws_lem : RefusalLaws
refusal_laws_lem = record {
  parts = parts_answered;
  refused = λ F n m j f e. ap (λ r. admitted r j) e;
  no_part = no_part;
  a_part = part_stands;
  not_admitted = λ F s m j f e. ap (λ r. and_then r (λ _. part_total F s m j)) e;
  total = part_totalled;
}
