-- The parts of the text
use Rattle.std.proofs.Common.{◌≡◌, ℕ, ◌+◌, ◌<◌, Bool, true, false, cond, List, [], ◌∷◌, ◌++◌, length, get_or, take, flat_map, nat_eq, if◌then◌else◌}
use Rattle.std.proofs.Common.{suc, ◌||◌, drop, codes, decimal, sym, ap, ◌∙◌, refl, subst, append-nil, arith}
use Rattle.std.specs.List.{count_by, list_any}
use Rattle.std.proofs.Math.Seq.{drop-cons, take-length}
use Rattle.std.proofs.lemmas.Bool.{eq-eqb, eqb-true}
use Rattle.std.proofs.lemmas.Grind.{flat_map-append}
use Rattle.std.proofs.lemmas.List.{take_more}
use Rattle.std.proofs.lemmas.List.Sums.{count_by_more_no, count_by_more_yes}
use Rattle.flow_lints.specs.Lints.{IsLinted}
use Rattle.flow_lints.specs.declared.lint.Linted.{Linted}
use Rattle.flow_texts.specs.Tables.{line_at}
use Rattle.lint_texts.specs.LintTexts.{FileText, IsLintText, TellsLints, left_out_words, remark_count, unreached_words, untold_words}
use Rattle.lint_texts.specs.declared.telling.Telling.{Telling}
use Rattle.tac_program.specs.Programs.{Program}

-- what a choice by equality gives
equal : (a b : ℕ) (x y : List ℕ) → a ≡ b → x ≡ (if nat_eq a b then x else y)
equal a b x y is = sym (ap (λ t. cond t x y) (eq-eqb a b is))

unequal_by : (a b : ℕ) (x y : List ℕ) (t : Bool) → nat_eq a b ≡ t → (a ≡ b → ⊥) → y ≡ cond t x y
unequal_by a b x y true is differ = absurd (differ (eqb-true a b is))
unequal_by a b x y false is differ = refl

unequal : (a b : ℕ) (x y : List ℕ) → (a ≡ b → ⊥) → y ≡ (if nat_eq a b then x else y)
unequal a b x y differ = unequal_by a b x y (nat_eq a b) refl differ

pub one_untold : (count : ℕ) → count ≡ 1 → codes "1 dead assignment is not told" ≡ untold_words count
one_untold count is = equal count 1 (codes "1 dead assignment is not told") (decimal count ++ codes " dead assignments are not told") is

pub more_untold : (count : ℕ) → (count ≡ 1 → ⊥) → decimal count ++ codes " dead assignments are not told" ≡ untold_words count
more_untold count differ = unequal count 1 (codes "1 dead assignment is not told") (decimal count ++ codes " dead assignments are not told") differ

pub more_remarks : (count : ℕ) → (count ≡ 0 → ⊥) → (count ≡ 1 → ⊥) → decimal count ++ codes " remarks" ≡ remark_count count
more_remarks count some more =
    unequal count 1 (codes "1 remark") (decimal count ++ codes " remarks") more
    ∙ unequal count 0 (codes "no remarks") (if nat_eq count 1 then codes "1 remark" else decimal count ++ codes " remarks") some

pub one_left_out : (count : ℕ) → count ≡ 1 → codes "1 more turn of the way is left out" ≡ left_out_words count
one_left_out count is = equal count 1 (codes "1 more turn of the way is left out") (decimal count ++ codes " more turns of the way are left out") is

pub more_left_out : (count : ℕ) → (count ≡ 1 → ⊥) → decimal count ++ codes " more turns of the way are left out" ≡ left_out_words count
more_left_out count differ =
    unequal count 1 (codes "1 more turn of the way is left out") (decimal count ++ codes " more turns of the way are left out") differ

pub some_left_out : (count : ℕ) (words : List ℕ) → 0 < count → words ≡ (if nat_eq count 0 then [] else words)
some_left_out count words some = unequal count 0 [] words (λ e. let none : ⊥ = omega (arith, some, e) in none)

abbrev stretch_words : Program → ℕ → List ℕ
stretch_words program last = codes "no statement from here to line " ++ decimal (line_at program last) ++ codes " is ever reached"

module _ (program : Program) (point last found : ℕ) (same : found ≡ last) where
  pub one_unreached : found ≡ point → codes "this statement is never reached" ≡ unreached_words program point last
  one_unreached is =
      equal found point (codes "this statement is never reached") (stretch_words program found) is ∙ ap (unreached_words program point) same

  pub more_unreached : (found ≡ point → ⊥) → (line : ℕ) → line ≡ line_at program found
      → codes "no statement from here to line " ++ decimal line ++ codes " is ever reached" ≡ unreached_words program point last
  more_unreached differ line is =
      ap (λ n. codes "no statement from here to line " ++ decimal n ++ codes " is ever reached") is
      ∙ unequal found point (codes "this statement is never reached") (stretch_words program found) differ
      ∙ ap (unreached_words program point) same

module _ {X : Type 0} (xs : List X) (i : ℕ) where
  -- the text of one element more
  pub text_more : (f : X → List ℕ) (x : X) → i < length xs → x ≡ get_or xs i x → flat_map f (take i xs) ++ f x ≡ flat_map f (take (i + 1) xs)
  text_more f x below read =
      ap (λ t. flat_map f (take i xs) ++ t) (sym (append-nil (f x)))
      ∙ sym (flat_map-append f (take i xs) (x ∷ []))
      ∙ ap (λ y. flat_map f (take i xs ++ y ∷ [])) read
      ∙ ap (flat_map f) (sym (take_more xs i x below))

  -- whether one of those from here on passes a test: the first of them does, or it is asked of those behind it
  pub any_here : (p : X → Bool) (x : X) → i < length xs → x ≡ get_or xs i x → p x ≡ true → list_any p (drop i xs) ≡ true
  any_here p x below read is =
      ap (list_any p) (drop-cons xs i x below) ∙ ap (λ t. t || list_any p (drop (suc i) xs)) (ap p (sym read) ∙ is)

  pub any_behind : (p : X → Bool) (x : X) → i < length xs → x ≡ get_or xs i x → p x ≡ false
      → list_any p (drop i xs) ≡ list_any p (drop (i + 1) xs)
  any_behind p x below read is =
      let next : suc i ≡ i + 1 = omega arith in
      ap (list_any p) (drop-cons xs i x below)
      ∙ ap (λ t. t || list_any p (drop (suc i) xs)) (ap p (sym read) ∙ is)
      ∙ ap (λ n. list_any p (drop n xs)) next

  -- one element more is counted
  pub count_more : (p : X → Bool) (x : X) (count more : ℕ) (b : Bool) → i < length xs → x ≡ get_or xs i x → count ≡ count_by p (take i xs)
      → b ≡ p x → more ≡ (if b then count + 1 else count) → more ≡ count_by p (take (i + 1) xs)
  count_more p x count more true below read before is now =
      now ∙ ap (λ n. n + 1) before ∙ sym (count_by_more_yes p xs i x below (ap p (sym read) ∙ sym is))
  count_more p x count more false below read before is now = now ∙ before ∙ sym (count_by_more_no p xs i x below (ap p (sym read) ∙ sym is))

  -- all are taken
  pub all_taken : {A : Type 0} (f : List X → A) (ys : List X) → i ≡ length xs → xs ≡ ys → f (take i xs) ≡ f ys
  all_taken f ys all same = ap (λ n. f (take n xs)) all ∙ ap f (take-length xs) ∙ ap f same

-- the text of one element behind others
pub text_behind : {X : Type 0} (f : X → List ℕ) (xs : List X) (x : X) → flat_map f xs ++ f x ≡ flat_map f (xs ++ x ∷ [])
text_behind f xs x = ap (λ t. flat_map f xs ++ t) (sym (append-nil (f x))) ∙ sym (flat_map-append f xs (x ∷ []))

pub tells : (file : FileText) (telling : Telling) (program : Program) (linted : Linted) (text whole : List ℕ) → IsLinted program linted
    → IsLintText file telling program linted text → whole ≡ text → TellsLints file telling program whole
tells file telling program linted text whole is_linted is_text same =
    record { linted = linted; is_linted = is_linted; is_text = subst (IsLintText file telling program linted) (sym same) is_text }
