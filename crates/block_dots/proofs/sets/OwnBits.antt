-- Two tests of one expression
use Rattle.std.proofs.Common.{◌≡◌, Bool, false, not, ◌&&◌, Option, Some, None, option_map, unwrap_or, refl}

pub one_without : {A : Type 0} (f g : A → Bool) (o : Option A)
    → (unwrap_or (option_map f o) false && not (unwrap_or (option_map g o) false)) ≡ unwrap_or (option_map (λ x. f x && not (g x)) o) false
one_without f g None = refl
one_without f g (Some x) = refl
