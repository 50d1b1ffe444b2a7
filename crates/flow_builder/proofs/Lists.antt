-- Lists that grow by one: labels, names.
use Rattle.std.proofs.Common.{◌≡◌, ◌≢◌, ◌∙◌, ℕ, zero, suc, ◌+◌, ◌-◌, ◌<◌, ◌≤◌, Bool, true, false, List, [], ◌∷◌, ◌++◌, All, length, get_or, map, take, drop}
use Rattle.std.proofs.Common.{if◌then◌else◌, not, refl, sym, ap, subst, arith, slice_get}
use Rattle.std.specs.List.Sorted.{IsNonDecreasing}
use Rattle.std.proofs.lemmas.List.{get_or-take, get_or_default, length-take-le, map-append, take_all, take_more}
use Rattle.std.proofs.Math.Numerals.{add-one}
use Rattle.std.proofs.Math.Seq.{drop-cons}
use Rattle.std.proofs.lemmas.List.Elements.{All-push}
use Rattle.std.proofs.lemmas.List.Folds.{list_any_at, list_any_none}
use Rattle.std.proofs.lemmas.List.Quantifiers.{all_pairs_push}
use Rattle.std.proofs.lemmas.List.Sorted.{IsNonDecreasingBy-push}
use Rattle.std.proofs.lemmas.Slice.Eq.{bytes_eq-Decides}
use Rattle.std.specs.Prelude.{bytes_eq}
use Rattle.tac_program.specs.Names.{is_one_of, noted}
use Rattle.std.specs.Option.{ForSome}
use Rattle.tac_program.specs.Sound.{AllDiffer, NumberedByPlace}
use Rattle.tac_program.specs.declared.program.Label.{Label}
use Rattle.flow_builder.specs.Built.{labels_from}

-- what stands ahead of the next element is this one
pub behind_one : (xs : List ℕ) (d i : ℕ) → get_or (d ∷ xs) (i + 1) 0 ≡ get_or xs i 0
behind_one xs d i = ap (λ n. get_or (d ∷ xs) n 0) (add-one i)

-- a label more
labels-push : (n : ℕ) (places : List ℕ) (place : ℕ)
    → labels_from n (places ++ place ∷ []) ≡ labels_from n places ++ record { name = n + length places; place = place } ∷ []
labels-push n [] place = ap (λ (k : ℕ). let l : Label = record { name = k; place = place } in l ∷ []) (let e : n ≡ n + 0 = omega arith in e)
labels-push n (p ∷ places) place =
    let e : suc n + length places ≡ n + suc (length places) = omega arith in
    ap (λ ls. record { name = n; place = p } ∷ ls)
    (labels-push (suc n) places place
    ∙ ap (λ (k : ℕ). labels_from (suc n) places ++ record { name = k; place = place } ∷ []) e)

pub labels_more : (places : List ℕ) (i : ℕ) (d : ℕ) → i < length places
    → labels_from 0 (take (i + 1) places) ≡ labels_from 0 (take i places) ++ record { name = i; place = get_or places i d } ∷ []
labels_more places i d below =
    let so_many : 0 + length (take i places) ≡ i = omega (arith, length-take-le i places (omega arith)) in
    ap (labels_from 0) (take_more places i d below)
    ∙ labels-push 0 (take i places) (get_or places i d)
    ∙ ap (λ (k : ℕ). labels_from 0 (take i places) ++ record { name = k; place = get_or places i d } ∷ []) so_many

-- a place more, which is at least the one before
pub rise_more : (places : List ℕ) (i least : ℕ) → i < length places → IsNonDecreasing (take i places) → All (λ p. p ≤ least) (take i places)
    → least ≤ get_or places i 0 → IsNonDecreasing (take (i + 1) places)
rise_more places i least below rise before here =
    subst IsNonDecreasing (sym (take_more places i 0 below))
    (IsNonDecreasingBy-push (λ x. x) (take i places) (get_or places i 0) rise
    (λ d some. omega (arith, before (length (take i places) - 1) d (omega (arith, some)), here)))

pub All_more : {A : Type 0} (P : A → Type 0) (xs : List A) (i : ℕ) (d : A) → i < length xs → All P (take i xs) → P (get_or xs i d)
    → All P (take (i + 1) xs)
All_more P xs i d below before here = subst (All P) (sym (take_more xs i d below)) (All-push P (take i xs) (get_or xs i d) before here)

-- a name that is none of those before
pub noted_new : (known : List (List ℕ)) (x : List ℕ) → is_one_of x known ≡ false → noted known x ≡ known ++ x ∷ []
noted_new known x none = ap (λ b. if b then known else known ++ x ∷ []) none

pub differ_more : (known : List (List ℕ)) (x : List ℕ) → is_one_of x known ≡ false → AllDiffer known → AllDiffer (known ++ x ∷ [])
differ_more known x none differ = all_pairs_push (λ a b. a ≢ b) known x differ (λ k d below same. apart k d below same)
  where
    apart : (k : ℕ) (d : List ℕ) → k < length known → get_or known k d ≡ x → ⊥
    apart k d below same =
        let is : bytes_eq x (get_or known k d) ≡ true = (bytes_eq-Decides x (get_or known k d)).1 (sym same) in
        cc (sym none ∙ list_any_at (bytes_eq x) known k d below is)

-- a test that is turned
pub none_before : (one added : Bool) → added ≡ not one → not added ≡ false → one ≡ false
none_before true added is off = cc (sym (ap not is) ∙ off)
none_before false added is off = refl

-- a name of a list in which each stands once is none of those before it
pub new_of_differing : (names : List (List ℕ)) (n : ℕ) (name : List ℕ) → n < length names → get_or names n name ≡ name → AllDiffer names
    → is_one_of name (take n names) ≡ false
new_of_differing names n name below is differ = list_any_none (bytes_eq name) (take n names) apart
  where
    so_many : length (take n names) ≡ n
    so_many = length-take-le n names (omega (arith, below))

    other : (k : ℕ) (d : List ℕ) → k < n → (b : Bool) → bytes_eq name (get_or names k d) ≡ b → b ≡ false
    other k d low true same =
        let equal : name ≡ get_or names k d = (bytes_eq-Decides name (get_or names k d)).0 same in
        absurd (differ k n d low below (sym equal ∙ sym (get_or_default names n d name below ∙ is)))
    other k d low false same = refl

    apart : All (λ x. bytes_eq name x ≡ false) (take n names)
    apart k d low =
        let inside : k < n = omega (arith, low, so_many) in
        ap (bytes_eq name) (get_or-take n names k d inside) ∙ other k d inside (bytes_eq name (get_or names k d)) refl

pub drop_more : {A : Type 0} (xs : List A) (n : ℕ) (d : A) → n < length xs → drop n xs ≡ get_or xs n d ∷ drop (n + 1) xs
drop_more xs n d below = rw add-one (drop-cons xs n d below)

pub map_more : {A B : Type 0} (f : A → B) (xs : List A) (i : ℕ) (d : A) → i < length xs → map f (take (i + 1) xs) ≡ map f (take i xs) ++ f (get_or xs i d) ∷ []
map_more f xs i d below = ap (map f) (take_more xs i d below) ∙ map-append f (take i xs) (get_or xs i d ∷ [])

pub All_whole : {A : Type 0} (P : A → Type 0) (xs : List A) (i : ℕ) → length xs ≤ i → All P (take i xs) → All P xs
All_whole P xs i whole each = subst (All P) (take_all i xs whole) each

pub All_take : {A : Type 0} (P : A → Type 0) (n : ℕ) (xs : List A) → n ≤ length xs → All P xs → All P (take n xs)
All_take P n xs within each k d low =
    let inside : k < n = omega (arith, low, length-take-le n xs within) in
    subst P (sym (get_or-take n xs k d inside)) (each k d (omega (arith, inside, within)))

pub differ_take : (n : ℕ) (xs : List (List ℕ)) → n ≤ length xs → AllDiffer xs → AllDiffer (take n xs)
differ_take n xs within differ i j d below low same =
    let inside : j < n = omega (arith, low, length-take-le n xs within) in
    differ i j d below (omega (arith, inside, within))
    (sym (get_or-take n xs i d (omega (arith, below, inside))) ∙ same ∙ get_or-take n xs j d inside)

-- labels by places have their numbers and their places
pub length-labels : (n : ℕ) (places : List ℕ) → length (labels_from n places) ≡ length places
length-labels n [] = refl
length-labels n (p ∷ places) = ap suc (length-labels (suc n) places)

pub places_of_labels : (n : ℕ) (places : List ℕ) → map (λ (l : Label). l.place) (labels_from n places) ≡ places
places_of_labels n [] = refl
places_of_labels n (p ∷ places) = ap (λ ps. p ∷ ps) (places_of_labels (suc n) places)

numbered_from : (n : ℕ) (places : List ℕ) (i : ℕ) → ForSome (slice_get (labels_from n places) i) (λ (l : Label). l.name ≡ n + i)
numbered_from n [] i l is = absurd (cc is)
numbered_from n (p ∷ places) zero l is =
    let first : Label = record { name = n; place = p } in
    let same : first ≡ l = cc is in
    sym (ap (λ (x : Label). x.name) same) ∙ (let e : n ≡ n + 0 = omega arith in e)
numbered_from n (p ∷ places) (suc i) l is =
    numbered_from (suc n) places i l is ∙ (let e : suc n + i ≡ n + suc i = omega arith in e)

pub numbered : (places : List ℕ) → NumberedByPlace (λ (l : Label). l.name) (labels_from 0 places)
numbered places i l is = numbered_from 0 places i l is ∙ (let e : 0 + i ≡ i = omega arith in e)
