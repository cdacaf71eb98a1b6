-- Answers and refusals.
use Rattle.std.proofs.Common.{◌≡◌, ℕ, Ok, Err, Result, sym, refl, arith}
use Rattle.series.specs.declared.fault.Fault.{Fault}
use Rattle.series.specs.Faults.{and_then}

pub ok_same : {A : Type 0} {a b : A} → ◌≡◌ {A = Result A Fault} (Ok a) (Ok b) → a ≡ b
ok_same e = cc

pub err_same : {A : Type 0} {f g : Fault} → ◌≡◌ {A = Result A Fault} (Err f) (Err g) → f ≡ g
err_same e = cc

pub ok_err : {A B : Type 0} {a : A} {f : Fault} → ◌≡◌ {A = Result A Fault} (Ok a) (Err f) → B
ok_err e = let z : ◌≡◌ {A = ℕ} 0 1 = cc in absurd (omega arith)

pub then_ok : {A B : Type 0} (r : Result A Fault) (go : A → Result B Fault) (b : B) → and_then r go ≡ Ok b → (a : A) × (r ≡ Ok a) × (go a ≡ Ok b)
then_ok (Ok a) go b e = (a, refl, e)
then_ok (Err f) go b e = ok_err (sym e)
