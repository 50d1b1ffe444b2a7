-- What is written element by element
use Rattle.std.proofs.Common.{◌≡◌, ℕ, ◌+◌, ◌<◌, List, [], ◌∷◌, ◌++◌, length, get_or, take, flat_map, sym, ap, ◌∙◌, append-nil}
use Rattle.std.proofs.lemmas.Grind.{flat_map-append}
use Rattle.std.proofs.lemmas.List.{take_more}

-- the text of one element more
pub text_more : {X : Type 0} (xs : List X) (i : ℕ) (f : X → List ℕ) (x : X) → i < length xs → x ≡ get_or xs i x
    → flat_map f (take i xs) ++ f x ≡ flat_map f (take (i + 1) xs)
text_more xs i f x below read =
    ap (λ t. flat_map f (take i xs) ++ t) (sym (append-nil (f x)))
    ∙ sym (flat_map-append f (take i xs) (x ∷ []))
    ∙ ap (λ y. flat_map f (take i xs ++ y ∷ [])) read
    ∙ ap (flat_map f) (sym (take_more xs i x below))
