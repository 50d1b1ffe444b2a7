-- What is put behind a text element by element
use Rattle.std.proofs.Common.{◌≡◌, ℕ, ◌+◌, ◌<◌, Bool, true, false, List, [], ◌∷◌, ◌++◌, length, get_or, take, flat_map, nat_eq, if◌then◌else◌}
use Rattle.std.proofs.Common.{refl, sym, ap, ◌∙◌, append_assoc, append-nil, arith}
use Rattle.std.proofs.lemmas.Bool.{eqb-true}
use Rattle.std.proofs.lemmas.Grind.{flat_map-append}
use Rattle.std.proofs.Math.Seq.{take-length}
use Rattle.lint_styles.proofs.Elements.{text_more}

-- the text of one element more
pub put_more : {X : Type 0} (xs : List X) (i : ℕ) (f : X → List ℕ) (x : X) (old before now : List ℕ) → i < length xs → x ≡ get_or xs i x
    → before ≡ old ++ flat_map f (take i xs) → now ≡ before ++ f x → now ≡ old ++ flat_map f (take (i + 1) xs)
put_more xs i f x old before now below read was put =
    put ∙ ap (λ (t : List ℕ). t ++ f x) was ∙ append_assoc old (flat_map f (take i xs)) (f x)
    ∙ ap (λ t. old ++ t) (text_more xs i f x below read)

-- the text of all
pub put_all : {X : Type 0} (xs ys : List X) (i : ℕ) (f : X → List ℕ) (old now : List ℕ) → i ≡ length xs → xs ≡ ys
    → now ≡ old ++ flat_map f (take i xs) → now ≡ old ++ flat_map f ys
put_all xs ys i f old now all same is =
    is ∙ ap (λ n. old ++ flat_map f (take n xs)) all ∙ ap (λ zs. old ++ flat_map f zs) (take-length xs ∙ same)

-- the text of one more behind others
pub put_behind : {X : Type 0} (f : X → List ℕ) (xs : List X) (x : X) (old before now : List ℕ) → before ≡ old ++ flat_map f xs → now ≡ before ++ f x
    → now ≡ old ++ flat_map f (xs ++ x ∷ [])
put_behind f xs x old before now was put =
    put ∙ ap (λ (t : List ℕ). t ++ f x) was ∙ append_assoc old (flat_map f xs) (f x)
    ∙ ap (λ t. old ++ t) (ap (λ t. flat_map f xs ++ t) (sym (append-nil (f x))) ∙ sym (flat_map-append f xs (x ∷ [])))

-- what a choice by a count that is not 0 gives
pub some_more : (count : ℕ) (words : List ℕ) → 0 < count → words ≡ (if nat_eq count 0 then [] else words)
some_more count words some = by_test (nat_eq count 0) refl where
  by_test : (t : Bool) → nat_eq count 0 ≡ t → words ≡ (if t then [] else words)
  by_test true is = absurd (let none : ⊥ = omega (arith, some, eqb-true count 0 is) in none)
  by_test false is = refl
