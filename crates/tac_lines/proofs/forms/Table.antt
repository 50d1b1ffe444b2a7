-- What is left of the forms behind a token.
use Rattle.std.proofs.Common.{◌≡◌, Bool, true, false, ◌&&◌, ◌||◌, List, [], ◌∷◌, ◌++◌, refl, sym, ap, ◌∙◌, Option, Some, if◌then◌else◌}
use Rattle.std.specs.List.{list_any}
use Rattle.tac_lines.specs.Tokens.{Token}
use Rattle.tac_lines.specs.code.Views.{GoesAsFar}
use Rattle.tac_lines.specs.Forms.{Slot, fills, begins, has_form, some_begins, some_form, first_wrong}

-- What is left of the forms behind a token.
abbrev pub behind : Token → List (List Slot) → List (List Slot)
behind t [] = []
behind t ([] ∷ fs) = behind t fs
behind t ((s ∷ slots) ∷ fs) = if fills s t.word then slots ∷ behind t fs else behind t fs

choose : (a : Bool) (x : Bool) (fs : List (List Slot)) (slots : List Slot) (ts : List Token)
    → ((a && begins slots ts) || list_any (λ f. begins f ts) fs) ≡ list_any (λ f. begins f ts) (if a then slots ∷ fs else fs)
choose true x fs slots ts = refl
choose false x fs slots ts = refl

pub begins-behind : (t : Token) (ts : List Token) (fs : List (List Slot)) → some_begins fs (t ∷ ts) ≡ some_begins (behind t fs) ts
begins-behind t ts [] = refl
begins-behind t ts ([] ∷ fs) = begins-behind t ts fs
begins-behind t ts ((s ∷ slots) ∷ fs) =
    ap (λ x. (fills s t.word && begins slots ts) || x) (begins-behind t ts fs) ∙ choose (fills s t.word) true (behind t fs) slots ts

pub wrong-behind : (t : Token) (fs : List (List Slot)) (before ts : List Token) → first_wrong fs (t ∷ before) ts ≡ first_wrong (behind t fs) before ts
wrong-behind t fs before [] = refl
wrong-behind t fs before (u ∷ ts) =
    ap (λ x. elim x as (λ _. Option Token) [ true ↦ first_wrong fs (t ∷ before ++ u ∷ []) ts | false ↦ Some u ])
    (begins-behind t (before ++ u ∷ []) fs)
    ∙ ap (λ x. elim (some_begins (behind t fs) (before ++ u ∷ [])) as (λ _. Option Token) [ true ↦ x | false ↦ Some u ])
    (wrong-behind t fs (before ++ u ∷ []) ts)

pub form-behind : (t : Token) (ts : List Token) (fs : List (List Slot)) → some_form fs (t ∷ ts) ≡ some_form (behind t fs) ts
form-behind t ts [] = refl
form-behind t ts ([] ∷ fs) = form-behind t ts fs
form-behind t ts ((s ∷ slots) ∷ fs) = ap (λ x. (fills s t.word && has_form slots ts) || x) (form-behind t ts fs) ∙ whole (fills s t.word) where
  whole : (a : Bool) → ((a && has_form slots ts) || some_form (behind t fs) ts) ≡ some_form (if a then slots ∷ behind t fs else behind t fs) ts
  whole true = refl
  whole false = refl

wrong_step : (fs : List (List Slot)) (t : Token) (ts : List Token) → first_wrong fs [] (t ∷ ts)
    ≡ elim (some_begins (behind t fs) []) as (λ _. Option Token) [ true ↦ first_wrong (behind t fs) [] ts | false ↦ Some t ]
wrong_step fs t ts =
    ap (λ x. elim x as (λ _. Option Token) [ true ↦ first_wrong fs (t ∷ []) ts | false ↦ Some t ]) (begins-behind t [] fs)
    ∙ ap (λ x. elim (some_begins (behind t fs) []) as (λ _. Option Token) [ true ↦ x | false ↦ Some t ]) (wrong-behind t fs [] ts)

-- Two tables judge alike where they do so behind the first token.
pub step : (fs gs : List (List Slot)) (t : Token) (ts : List Token) → some_begins (behind t fs) [] ≡ some_begins (behind t gs) []
    → GoesAsFar (behind t fs) (behind t gs) ts → GoesAsFar fs gs (t ∷ ts)
step fs gs t ts live same = record {
  wrong = wrong_step fs t ts ∙ (λ i. elim (live i) as (λ _. Option Token) [ true ↦ same.wrong i | false ↦ Some t ]) ∙ sym (wrong_step gs t ts);
  whole = form-behind t ts fs ∙ same.whole ∙ sym (form-behind t ts gs);
}

pub same_behind : (fs gs : List (List Slot)) (t : Token) (ts : List Token) → behind t fs ≡ behind t gs → GoesAsFar fs gs (t ∷ ts)
same_behind fs gs t ts e =
    step fs gs t ts (ap (λ r. some_begins r []) e) (record { wrong = ap (λ r. first_wrong r [] ts) e; whole = ap (λ r. some_form r ts) e })

-- One row, whose first slot the token fills: the rest of it judges the rest.
pub row_on : (s : Slot) (r : List Slot) (t : Token) (ts : List Token) → fills s t.word ≡ true
    → first_wrong ((s ∷ r) ∷ []) [] (t ∷ ts) ≡ first_wrong (r ∷ []) [] ts
row_on s r t ts h = wrong_step ((s ∷ r) ∷ []) t ts ∙ ap (λ b. let fs : List (List Slot) = (if b then r ∷ [] else []) in
    elim (some_begins fs []) as (λ _. Option Token) [ true ↦ first_wrong fs [] ts | false ↦ Some t ]) h

pub row_off : (s : Slot) (r : List Slot) (t : Token) (ts : List Token) → fills s t.word ≡ false → first_wrong ((s ∷ r) ∷ []) [] (t ∷ ts) ≡ Some t
row_off s r t ts h = wrong_step ((s ∷ r) ∷ []) t ts ∙ ap (λ b. let fs : List (List Slot) = (if b then r ∷ [] else []) in
    elim (some_begins fs []) as (λ _. Option Token) [ true ↦ first_wrong fs [] ts | false ↦ Some t ]) h
