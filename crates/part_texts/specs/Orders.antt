-- Elements put in order by a number.
use Rattle.std.specs.Prelude.{ℕ, List, [], ◌∷◌, nat_le, if◌then◌else◌}

-- before the first element whose number is not lower
abbrev pub put_by : {A : Type 0} → (A → ℕ) → A → List A → List A
put_by place x [] = x ∷ []
put_by place x (y ∷ ys) = if nat_le (place x) (place y) then x ∷ y ∷ ys else y ∷ put_by place x ys

-- The elements by their numbers; those of one number stay in the order in which they stood.
abbrev pub in_order_by : {A : Type 0} → (A → ℕ) → List A → List A
in_order_by place [] = []
in_order_by place (x ∷ xs) = put_by place x (in_order_by place xs)
