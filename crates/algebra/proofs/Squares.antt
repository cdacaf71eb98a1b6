use Rattle.std.proofs.Common.{◌≡◌, ◌*◌, ℤ, pos, negsuc, ◌*ℤ◌, refl, ◌∙◌, ap₂, arith}
use Rattle.algebra.specs.Squares.{square}
use Rattle.algebra.proofs.Sizes.{abs_times}

pub square_is : (z : ℤ) → pos (square z) ≡ z *ℤ z
square_is (pos n) = refl
square_is (negsuc n) = refl

pub square_times : (c z : ℤ) → square (c *ℤ z) ≡ square c * square z
square_times c z = ap₂ ◌*◌ (abs_times c z) (abs_times c z) ∙ omega arith
