-- The first line of a text, and the lines after it.
use Rattle.std.proofs.Common.{◌≡◌, ℕ, suc, ◌+◌, ◌<◌, Bool, true, false, cond, not, eqb, List, [], ◌∷◌, length, take, drop, sym, refl, ap, ◌∙◌, arith}
use Rattle.std.specs.List.{prefix_len}
use Rattle.job_line.specs.Split.{lines_of, prepend, in_line}

-- a byte that ends the line, or that is the first of it
first_byte : (t : Bool) (b n : ℕ) (bs : List ℕ) → prepend b (lines_of bs) ≡ take (1 + n) (b ∷ bs) ∷ lines_of (drop (1 + n + 1) (b ∷ bs)) → cond t ([] ∷ lines_of bs) (prepend b (lines_of bs)) ≡ take (cond (not t) (1 + n) 0) (b ∷ bs) ∷ lines_of (drop (cond (not t) (1 + n) 0 + 1) (b ∷ bs))
first_byte true b n bs h = refl
first_byte false b n bs h = h

one_longer : (b n : ℕ) (bs : List ℕ) → take (1 + n) (b ∷ bs) ∷ lines_of (drop (1 + n + 1) (b ∷ bs)) ≡ (b ∷ take n bs) ∷ lines_of (drop (n + 1) bs)
one_longer b n bs =
    let p : 1 + n ≡ suc n = omega arith in let q : 1 + n + 1 ≡ suc (n + 1) = omega arith in rw (q, p)

-- a text with a byte has a first line, up to the first byte 10 or the end
pub lines_of-first : (bs : List ℕ) → 0 < length bs → lines_of bs ≡ take (prefix_len in_line bs) bs ∷ lines_of (drop (prefix_len in_line bs + 1) bs)
lines_of-first [] h = absurd (omega arith)
lines_of-first (b ∷ []) h = first_byte (eqb b 10) b 0 [] refl
lines_of-first (b ∷ (x ∷ xs)) h =
    let n = prefix_len in_line (x ∷ xs) in
    first_byte (eqb b 10) b n (x ∷ xs) (ap (prepend b) (lines_of-first (x ∷ xs) (omega arith)) ∙ sym (one_longer b n (x ∷ xs)))
