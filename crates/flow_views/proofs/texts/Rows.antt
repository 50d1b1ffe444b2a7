-- Texts in a row, with something between them
use Rattle.std.proofs.Common.{◌≡◌, ℕ, zero, suc, ◌+◌, ◌<◌, false, List, [], ◌∷◌, ◌++◌, length, map, flat_map, take, get_or, nat_lt, if◌then◌else◌}
use Rattle.std.proofs.Common.{refl, sym, ap, ◌∙◌, append_assoc, append-nil, codes, arith}
use Rattle.std.proofs.lemmas.Grind.{flat_map-append}
use Rattle.std.proofs.lemmas.List.{map-append, take_more}
use Rattle.std.proofs.Math.Seq.{take-length}
use Rattle.tac_program.specs.Names.{name_at}
use Rattle.text_pieces.specs.code.Lists.{after, some_stand}
use Rattle.flow_texts.proofs.sets.ListTexts.{some_stand-map}
use Rattle.flow_views.specs.Json.{joined}
use Rattle.tac_listing.proofs.layouts.StatementNames.{stand_before}

pub after-joined : (between : List ℕ) (texts : List (List ℕ)) → after between false texts ≡ joined between texts
after-joined between [] = refl
after-joined between (text ∷ others) = refl

-- one text more
pub joined_more : (between : List ℕ) (texts : List (List ℕ)) (text : List ℕ)
    → joined between texts ++ (if some_stand texts then between else []) ++ text ≡ joined between (texts ++ text ∷ [])
joined_more between [] text = sym (append-nil text)
joined_more between (first ∷ others) text =
    append_assoc (first ++ flat_map (λ t. between ++ t) others) between text
    ∙ append_assoc first (flat_map (λ t. between ++ t) others) (between ++ text)
    ∙ ap (λ t. first ++ (flat_map (λ t. between ++ t) others ++ t)) (sym (append-nil (between ++ text)))
    ∙ ap (λ t. first ++ t) (sym (flat_map-append (λ t. between ++ t) others (text ∷ [])))

-- one text more, of those before a place
pub joined_next : {A : Type 0} (between : List ℕ) (f : A → List ℕ) (xs : List A) (i : ℕ) (x : A) → i < length xs → x ≡ get_or xs i x
    → joined between (map f (take i xs)) ++ (if nat_lt 0 i then between else []) ++ f x ≡ joined between (map f (take (i + 1) xs))
joined_next between f xs i x below read =
    ap (λ b. joined between (map f (take i xs)) ++ (if b then between else []) ++ f x) (sym (some_stand-map f (take i xs) ∙ stand_before xs i below))
    ∙ joined_more between (map f (take i xs)) (f x)
    ∙ ap (joined between) (sym (map-append f (take i xs) (x ∷ [])))
    ∙ ap (λ y. joined between (map f (take i xs ++ y ∷ []))) read
    ∙ ap (λ ys. joined between (map f ys)) (sym (take_more xs i x below))

-- and with a text before them
pub joined_behind : {A : Type 0} (first between : List ℕ) (f : A → List ℕ) (xs : List A) (i : ℕ) (x : A) → i < length xs → x ≡ get_or xs i x
    → first ++ joined between (map f (take i xs)) ++ (if nat_lt 0 i then between else []) ++ f x ≡ first ++ joined between (map f (take (i + 1) xs))
joined_behind first between f xs i x below read =
    regroup first (joined between (map f (take i xs))) (if nat_lt 0 i then between else []) (f x)
    ∙ ap (λ t. first ++ t) (joined_next between f xs i x below read)
  where
    regroup : (a b d e : List ℕ) → a ++ b ++ d ++ e ≡ a ++ (b ++ d ++ e)
    regroup a b d e = simp append_assoc

-- a name that was read by its number
pub name_read : (names : List (List ℕ)) (i : ℕ) (name : List ℕ) → i < length names → name ≡ name_at names i → name ≡ get_or names i name
name_read [] i name below is = absurd (omega arith)
name_read (x ∷ names) zero name below is = is
name_read (x ∷ names) (suc i) name below is = name_read names i name (omega arith) is

-- the text of all of them, behind a text and before one
pub joined_all : {A : Type 0} (between : List ℕ) (f : A → List ℕ) (xs : List A) (n : ℕ) → n ≡ length xs
    → codes "[" ++ joined between (map f (take n xs)) ++ codes "]" ≡ codes "[" ++ joined between (map f xs) ++ codes "]"
joined_all between f xs n all =
    ap (λ m. codes "[" ++ joined between (map f (take m xs)) ++ codes "]") all
    ∙ ap (λ ys. codes "[" ++ joined between (map f ys) ++ codes "]") (take-length xs)
