-- No words have two rows of the table of statements: two rows differ in length, or in a place where no word fills both slots.
use Rattle.std.proofs.Common.{◌≡◌, ℕ, Bool, true, false, not, ◌&&◌, ◌||◌, List, [], ◌∷◌, refl, sym, ◌∙◌, bytes_eq, true≢false, All, AllPairs, arith}
use Rattle.std.specs.List.{list_all}
use Rattle.std.proofs.lemmas.List.Elements.{All-cons, All-nil}
use Rattle.std.proofs.lemmas.List.Kept.{AllPairs-cons}
use Rattle.std.proofs.lemmas.Slice.Eq.{bytes_eq-Decides}
use Rattle.std.proofs.lemmas.Bool.{and_parts}
use Rattle.std.proofs.Math.Bool.{or-false}
use Rattle.tac_lines.specs.Tokens.{Word, name, number, fixed, Token}
use Rattle.tac_lines.specs.Forms.{Slot, exactly, variable, fills, has_form, statements}
use Rattle.tac_lines.specs.LineLaws.{StatementsAreApart, NoWordsInBoth}
use Rattle.tac_lines.specs.declared.form.Form.{Form}

-- whether no word fills both: two fixed words, or a fixed word and a name
abbrev clash : Slot → Slot → Bool
clash (exactly a) (exactly b) = not (bytes_eq a b)
clash (exactly a) variable = true
clash variable (exactly b) = true
clash _ _ = false

differs : (a b : List ℕ) → a ≡ b → not (bytes_eq a b) ≡ true → ⊥
differs a b e h = by_test (bytes_eq a b) refl h where
  by_test : (t : Bool) → bytes_eq a b ≡ t → not t ≡ true → ⊥
  by_test true same n = absurd (true≢false (sym n))
  by_test false same n = absurd (true≢false (sym ((bytes_eq-Decides a b).1 e) ∙ same))

same : (s a : List ℕ) → (bytes_eq s a || false) ≡ true → s ≡ a
same s a h = (bytes_eq-Decides s a).0 (sym (or-false (bytes_eq s a)) ∙ h)

clashing : (s u : Slot) (w : Word) → clash s u ≡ true → fills s w ≡ true → fills u w ≡ true → ⊥
clashing (exactly a) (exactly b) (fixed s) h l r = differs a b (sym (same s a l) ∙ same s b r) h
clashing (exactly a) variable (fixed s) h l r = absurd (true≢false (sym r))
clashing variable (exactly b) (fixed s) h l r = absurd (true≢false (sym l))
clashing (exactly a) u (name s) h l r = absurd (true≢false (sym l))
clashing (exactly a) u (number n) h l r = absurd (true≢false (sym l))
clashing s (exactly b) (name n) h l r = absurd (true≢false (sym r))
clashing s (exactly b) (number n) h l r = absurd (true≢false (sym r))
clashing s u w h l r = absurd (true≢false (sym h))

abbrev pub apart : List Slot → List Slot → Bool
apart [] [] = false
apart [] (u ∷ us) = true
apart (s ∷ ss) [] = true
apart (s ∷ ss) (u ∷ us) = clash s u || apart ss us

pub not_both : (f g : List Slot) (ts : List Token) → apart f g ≡ true → has_form f ts ≡ true → has_form g ts ≡ true → ⊥
not_both [] [] ts h l r = absurd (true≢false (sym h))
not_both [] (u ∷ us) [] h l r = absurd (true≢false (sym r))
not_both [] (u ∷ us) (t ∷ ts) h l r = absurd (true≢false (sym l))
not_both (s ∷ ss) [] [] h l r = absurd (true≢false (sym l))
not_both (s ∷ ss) [] (t ∷ ts) h l r = absurd (true≢false (sym r))
not_both (s ∷ ss) (u ∷ us) [] h l r = absurd (true≢false (sym l))
not_both (s ∷ ss) (u ∷ us) (t ∷ ts) h l r =
    let left = and_parts (fills s t.word) (has_form ss ts) l in
    let right = and_parts (fills u t.word) (has_form us ts) r in
    by_test (clash s u) refl h (λ k. not_both ss us ts k left.1 right.1) left.0 right.0
  where
    by_test : (c : Bool) → clash s u ≡ c → (c || apart ss us) ≡ true → (apart ss us ≡ true → ⊥) → fills s t.word ≡ true → fills u t.word ≡ true → ⊥
    by_test true e k behind a b = clashing s u t.word e a b
    by_test false e k behind a b = behind k

-- every two rows are apart, as a test that computes
abbrev all_apart : List (Form × List Slot) → Bool
all_apart [] = true
all_apart (f ∷ fs) = list_all (λ g. apart f.1 g.1) fs && all_apart fs

each_apart : (f : Form × List Slot) (fs : List (Form × List Slot)) → list_all (λ g. apart f.1 g.1) fs ≡ true → All (NoWordsInBoth f) fs
each_apart f [] h = All-nil (NoWordsInBoth f)
each_apart f (g ∷ gs) h =
    let parts = and_parts (apart f.1 g.1) (list_all (λ g. apart f.1 g.1) gs) h in
    All-cons (NoWordsInBoth f) g gs (λ ts l r. not_both f.1 g.1 ts parts.0 l r) (each_apart f gs parts.1)

pairs_apart : (fs : List (Form × List Slot)) → all_apart fs ≡ true → AllPairs NoWordsInBoth fs
pairs_apart [] h = λ i j d below within. absurd (let never : ⊥ = omega (arith, within) in never)
pairs_apart (f ∷ fs) h =
    let parts = and_parts (list_all (λ g. apart f.1 g.1) fs) (all_apart fs) h in
    AllPairs-cons NoWordsInBoth f fs (each_apart f fs parts.0) (pairs_apart fs parts.1)

pub statements_are_apart : StatementsAreApart
statements_are_apart = pairs_apart statements refl
