-- A read-out, part by part, and how near it is to the exact variance.
use Rattle.std.proofs.Common.{◌≡◌, ℕ, zero, suc, ◌+◌, ◌-◌, ◌*◌, ◌<◌, ◌≤◌, ◌⊎◌, Some, None, Ok, Err, Option, Result, sym, refl, ap, ◌∙◌, subst, inl, inr, ⊎_elim, mul-le-mul_right, mul-le-mul, add-one, arith}
use Rattle.std.proofs.lemmas.Bool.{cases_lt}
use Rattle.series.specs.declared.fault.Fault.{Fault}
use Rattle.series.specs.declared.fault.Cause.TheVariants.{TotalTooLarge}
use Rattle.series.specs.declared.fault.Layer.TheVariants.{Statistic}
use Rattle.series.specs.Faults.{fault, and_then}
use Rattle.series.specs.Seen.{Seen}
use Rattle.statistics.specs.Totals.{largest_word, fitting, stepped}
use Rattle.statistics.specs.Model.{Formula, Model, parts_of, total_of}
use Rattle.statistics.specs.ReadOut.{share, read_step, read_from, read_out, or_zero, exact, AllTotals, shares, Near, FirstRefused, ReadNear}
use Rattle.series.proofs.Outcomes.{ok_err, ok_same, err_same, then_ok}
use Rattle.statistics.proofs.Formulas.{total_ok}
use Rattle.statistics.proofs.Totals.{fitting_some, fitting_none}
use Rattle.statistics.proofs.Shares.{share_least, share_most}

-- ---- the loop over the parts: what is left gives the answer
module _ (F : Formula) (s : Seen) (m : ℕ) where
  pub read_next : (k j sum : ℕ) (r : Result ℕ Fault) → j ≤ k → r ≡ read_step F s m j sum → read_from F s m j (k + 1 - j) sum ≡ and_then r (λ u. read_from F s m (j + 1) (k + 1 - (j + 1)) u)
  read_next k j sum r h e = let left : k + 1 - j ≡ suc (k + 1 - (j + 1)) = omega arith in ap (λ n. read_from F s m j n sum) left ∙ ap (λ (q : Result ℕ Fault). and_then q (λ u. read_from F s m (j + 1) (k + 1 - (j + 1)) u)) (sym e)

-- ---- the bounds, one part more
more_least : (sum num den t v x : ℕ) → sum * den ≤ 4096 * num → x * v ≤ 4096 * t → (sum + x) * (den * v) ≤ 4096 * (num * v + t * den)
more_least sum num den t v x a b = omega (arith, mul-le-mul_right v a, mul-le-mul_right den b)

more_most : (sum num den t v x d : ℕ) → 1 ≤ den → 4096 * num ≤ (sum + d) * den → 4096 * t < (x + 1) * v → 4096 * (num * v + t * den) < (sum + x + suc d) * (den * v)
more_most sum num den t v x d p a b = let c : 4096 * t + 1 ≤ (x + 1) * v = omega arith in omega (arith, mul-le-mul_right v a, mul-le-mul_right den c)

-- after the first d parts
record Upto (F : Formula) (s : Seen) (m d sum : ℕ) : Type 0 where
  totals : AllTotals F s m d
  sums : sum ≡ shares F s m d
  fits : sum ≤ largest_word
  positive : 1 ≤ (exact F s m d).under
  least : sum * (exact F s m d).under ≤ 4096 * (exact F s m d).over
  most : 4096 * (exact F s m d).over ≤ (sum + d) * (exact F s m d).under

module _ (F : Formula) (s : Seen) (m j sum : ℕ) where
  step : ℕ → Result ℕ Fault
  step t = stepped (F.terms s.size m j) (λ u. Ok u) (fitting (sum + share t (F.divisor s.size m j)))

  step_ok : (u : ℕ) → read_step F s m j sum ≡ Ok u → (t : ℕ) × (total_of F s m j ≡ Ok t) × (u ≡ sum + share t (F.divisor s.size m j)) × (u ≤ largest_word)
  unfolding step
  step_ok u e =
      let p = then_ok (total_of F s m j) step u e in
      let q = go (sum + share p.0 (F.divisor s.size m j)) (fitting (sum + share p.0 (F.divisor s.size m j))) refl p.2 in
      (p.0, p.1, q.0, q.1)
    where
      go : (n : ℕ) (o : Option ℕ) → fitting n ≡ o → stepped (F.terms s.size m j) (λ u. Ok u) o ≡ Ok u → (u ≡ n) × (u ≤ largest_word)
      go n (Some w) h q = let f = fitting_some n w h in let g : w ≡ u = ok_same q in (sym g ∙ f.0, omega (arith, f.0, f.1, g))
      go n None h q = ok_err (sym q)

  step_err : (f : Fault) → read_step F s m j sum ≡ Err f → (total_of F s m j ≡ Err f) ⊎ ((t : ℕ) × (total_of F s m j ≡ Ok t) × (largest_word < sum + share t (F.divisor s.size m j)) × (f ≡ fault TotalTooLarge Statistic (F.terms s.size m j)))
  unfolding step
  step_err f e = go (total_of F s m j) refl e
    where
      past : (n : ℕ) (o : Option ℕ) → fitting n ≡ o → stepped (F.terms s.size m j) (λ u. Ok u) o ≡ Err f → (largest_word < n) × (f ≡ fault TotalTooLarge Statistic (F.terms s.size m j))
      past n (Some w) h q = ok_err q
      past n None h q = (fitting_none n h, sym (err_same q))

      go : (r : Result ℕ Fault) → total_of F s m j ≡ r → and_then r step ≡ Err f → (total_of F s m j ≡ Err f) ⊎ ((t : ℕ) × (total_of F s m j ≡ Ok t) × (largest_word < sum + share t (F.divisor s.size m j)) × (f ≡ fault TotalTooLarge Statistic (F.terms s.size m j)))
      go (Ok t) p q = let h = past (sum + share t (F.divisor s.size m j)) (fitting (sum + share t (F.divisor s.size m j))) refl q in inr (t, p, h.0, h.1)
      go (Err g) p q = inl (p ∙ ap Err (err_same q))

-- the shares of one part more
more_shares : (F : Formula) (s : Seen) (m d t : ℕ) → total_of F s m (d + 1) ≡ Ok t → shares F s m (suc d) ≡ shares F s m d + share t (F.divisor s.size m (d + 1))
more_shares F s m d t e = ap (λ n. shares F s m d + share n (F.divisor s.size m (d + 1))) (ap or_zero e)

module _ (M : Model) (s : Seen) (m : ℕ) where
  upto_more : (d sum u : ℕ) → Upto M.formula s m d sum → read_step M.formula s m (d + 1) sum ≡ Ok u → Upto M.formula s m (suc d) u × (4096 * (exact M.formula s m (suc d)).over < (u + suc d) * (exact M.formula s m (suc d)).under)
  upto_more d sum u a e =
      let F = M.formula in
      let p = step_ok F s m (d + 1) sum u e in
      let t = p.0 in
      let v = F.divisor s.size m (d + 1) in
      let x = share t v in
      let E = exact F s m d in
      let pos_v : 1 ≤ v = (M.divisible s.size m (d + 1) (total_ok F s m (d + 1) t p.1).0).0 in
      let o : or_zero (total_of F s m (d + 1)) ≡ t = ap or_zero p.1 in
      let over : (exact F s m (suc d)).over ≡ E.over * v + t * E.under = ap (λ n. E.over * v + n * E.under) o in
      let lo = more_least sum E.over E.under t v x a.least (share_least t v) in
      let hi = more_most sum E.over E.under t v x d a.positive a.most (share_most t v pos_v) in
      let lo' : u * (E.under * v) ≤ 4096 * (exact F s m (suc d)).over = omega (arith, over, ap (λ n. n * (E.under * v)) p.2, lo) in
      let hi' : 4096 * (exact F s m (suc d)).over < (u + suc d) * (E.under * v) = omega (arith, over, ap (λ n. n * (E.under * v)) p.2, hi) in (
        record {
          totals = λ j l h. ⊎_elim (λ g. a.totals j l (omega arith)) (λ g. let q : j ≡ d + 1 = omega arith in (t, ap (total_of F s m) q ∙ p.1)) (cases_lt j (d + 1));
          sums = p.2 ∙ ap (λ n. n + x) a.sums ∙ sym (more_shares F s m d t p.1);
          fits = p.3;
          positive = mul-le-mul a.positive pos_v;
          least = lo';
          most = omega (arith, hi');
        },
        hi',
      )

  near_from : (k d left sum q : ℕ) → d + left ≡ k → Upto M.formula s m d sum → (left ≡ 0 → 1 ≤ d → 4096 * (exact M.formula s m d).over < (sum + d) * (exact M.formula s m d).under) → read_from M.formula s m (d + 1) left sum ≡ Ok q → Near M.formula s m k q
  near_from k d zero sum q n a strict e =
      let h : d ≡ k = omega arith in let g : sum ≡ q = ok_same e in
      subst (λ i. Near M.formula s m i q) h (subst (λ i. Near M.formula s m d i) g (record { totals = a.totals; sum = a.sums; fits = a.fits; least = a.least; most = strict refl }))
  near_from k d (suc left) sum q n a strict e =
      let F = M.formula in
      let p = then_ok (read_step F s m (d + 1) sum) (λ u. read_from F s m (d + 1 + 1) left u) q e in
      let b = upto_more d sum p.0 a p.1 in
      let i : d + 1 + 1 ≡ suc d + 1 = omega arith in
      near_from k (suc d) left p.0 q (omega arith) b.0 (λ _ _. b.1) (ap (λ j. read_from F s m j left p.0) (sym i) ∙ p.2)

  -- the first part that refuses
  refused_at : (d sum : ℕ) (f : Fault) → Upto M.formula s m d sum → read_step M.formula s m (d + 1) sum ≡ Err f → FirstRefused M.formula s m d f
  refused_at d sum f a e = record {
    totals = a.totals;
    fits = omega (arith, a.sums, a.fits);
    why = ⊎_elim inl (λ h. inr ((h.0, h.1), omega (arith, h.2, a.sums, more_shares M.formula s m d h.0 h.1, ap (λ n. shares M.formula s m n) (add-one d)), h.3)) (step_err M.formula s m (d + 1) sum f e);
  }

  refused_from : (k d left sum : ℕ) (f : Fault) → d + left ≡ k → Upto M.formula s m d sum → read_from M.formula s m (d + 1) left sum ≡ Err f → (e : ℕ) × (e < k) × FirstRefused M.formula s m e f
  refused_from k d zero sum f n a e = ok_err e
  refused_from k d (suc left) sum f n a e = go (read_step M.formula s m (d + 1) sum) refl (λ u b h. refused_from k (suc d) left u f (omega arith) b h) e
    where
      go : (r : Result ℕ Fault) → read_step M.formula s m (d + 1) sum ≡ r → ((u : ℕ) → Upto M.formula s m (suc d) u → read_from M.formula s m (suc d + 1) left u ≡ Err f → (e : ℕ) × (e < k) × FirstRefused M.formula s m e f) → and_then r (λ u. read_from M.formula s m (d + 1 + 1) left u) ≡ Err f → (e : ℕ) × (e < k) × FirstRefused M.formula s m e f
      go (Ok u) p next q = let i : d + 1 + 1 ≡ suc d + 1 = omega arith in next u (upto_more d sum u a p).0 (ap (λ j. read_from M.formula s m j left u) (sym i) ∙ q)
      go (Err g) p next q = (d, omega arith, refused_at d sum f a (p ∙ ap Err (err_same q)))

  none_yet : Upto M.formula s m 0 0
  none_yet = record { totals = λ j l h. absurd (omega arith); sums = refl; fits = omega arith; positive = omega arith; least = omega arith; most = omega arith }

  pub read_near : (r : Result ℕ Fault) → r ≡ read_out M.formula s m → ReadNear M.formula s m r
  unfolding ReadNear
  read_near (Ok q) e =
      let F = M.formula in
      let p = then_ok (parts_of F s.size m) (λ k. read_from F s m 1 k 0) q (sym e) in
      (p.0, p.1, near_from p.0 0 p.0 0 q (omega arith) none_yet (λ _ l. absurd (omega arith)) p.2)
  read_near (Err f) e = go (parts_of M.formula s.size m) refl (sym e)
    where
      go : (r : Result ℕ Fault) → parts_of M.formula s.size m ≡ r → and_then r (λ k. read_from M.formula s m 1 k 0) ≡ Err f → ReadNear M.formula s m (Err f)
      go (Ok k) p q = inr (k, p, refused_from k 0 k 0 f (omega arith) none_yet q)
      go (Err g) p q = inl (p ∙ ap Err (err_same q))
