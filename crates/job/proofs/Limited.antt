-- What a reader of limited length gives, cut to the limit.
use Rattle.std.proofs.Common.{◌≡◌, ℕ, List, [], ◌++◌, length, take, Some, None, Option, ◌∙◌, ap, subst, arith}
use Rattle.std.proofs.lemmas.List.{take_all, length-take}
use Rattle.std.specs.Option.{IfSome, option_map}

given : (o : Option (List ℕ)) (most : ℕ) (before items cut : List ℕ) → before ≡ [] → cut ≡ take most items → IfSome (option_map (take most) o) (λ xs. items ≡ before ++ xs) → IfSome o (λ xs. cut ≡ take most xs)
given None most before items cut p q h = tt
given (Some xs) most before items cut p q h =
    let all : items ≡ take most xs = h ∙ ap (λ b. b ++ take most xs) p in
    q ∙ take_all most items (omega (arith, ap length all, length-take most xs)) ∙ all

pub limited : {R : Type 0} (left : R → Option (List ℕ)) (inner input : R) (limit most : ℕ) (before items cut : List ℕ) → inner ≡ input → limit ≡ most → before ≡ [] → cut ≡ take most items → IfSome (option_map (take limit) (left inner)) (λ xs. items ≡ before ++ xs) → IfSome (left input) (λ xs. cut ≡ take most xs)
limited left inner input limit most before items cut e n p q h =
    given (left input) most before items cut p q
    (subst (λ m. IfSome (option_map (take m) (left input)) (λ xs. items ≡ before ++ xs)) n
    (subst (λ r. IfSome (option_map (take limit) (left r)) (λ xs. items ≡ before ++ xs)) e h))
