-- A part of a sequence with a ramp, and of one that is read backwards.
use Rattle.std.proofs.Common.{ℕ, ◌+◌, ◌-◌, ◌≤◌, [], ◌∷◌, ℤ, pos, ◌+ℤ◌, ◌*ℤ◌, ap, ◌∙◌, arith}
use Rattle.algebra.proofs.Reify.{reads, ring_by}
use Rattle.algebra.specs.Differences.{Ramped, Turned}
use Rattle.algebra.specs.Windows.{onward}

pub onward_ramp : (n place k : ℕ) (c a b : ℤ) (x y : ℕ → ℤ) → place + k ≤ n → Ramped n c a b x y → Ramped k c (a +ℤ (b *ℤ pos place)) b (onward place x) (onward place y)
onward_ramp n place k c a b x y l h i u = h (place + i) (omega arith) ∙ ring_by (c ∷ a ∷ b ∷ x (place + i) ∷ pos place ∷ pos i ∷ []) (search reads depth 30 fits 9000) tt

pub onward_turn : (n place k : ℕ) (x y : ℕ → ℤ) → place + k ≤ n → Turned n x y → Turned k (onward (n - k - place) x) (onward place y)
onward_turn n place k x y l h i u = h (place + i) (omega arith) ∙ ap x (omega arith)
