-- The words of a first line, and the numbers of parts.
use Rattle.std.proofs.Common.{◌≡◌, refl, ℕ, zero, suc, ◌+◌, ◌-◌, ◌<◌, Bool, true, false, cond, List, [], ◌∷◌, Option, Some, None, sym, ap, ◌∙◌, arith}
use Rattle.std.specs.List.{find, onto_first, range_with_len, slice_split}
use Rattle.part_texts.specs.Lines.{is_comma, is_space}
use Rattle.part_texts.specs.Parts.{heading_of, json_heading_of}
use Rattle.part_texts.specs.Shares.{is_slash, share_of}

-- more than six words
pub more_words : (a b c d e f : List ℕ) (text : List ℕ) → heading_of (a ∷ b ∷ c ∷ d ∷ e ∷ f ∷ slice_split is_space text) ≡ None
more_words a b c d e f [] = refl
more_words a b c d e f (x ∷ text) = by (is_space x)
  where
    by_words : (words : List (List ℕ)) → heading_of (a ∷ b ∷ c ∷ d ∷ e ∷ f ∷ onto_first x words) ≡ None
    by_words [] = refl
    by_words (w ∷ words) = refl

    by : (test : Bool) → heading_of
        (a ∷ b ∷ c ∷ d ∷ e ∷ f ∷ cond test ([] ∷ slice_split is_space text) (onto_first x (slice_split is_space text))) ≡ None
    by true = refl
    by false = by_words (slice_split is_space text)

-- more than five fields
pub more_fields : (a b c d e : List ℕ) (text : List ℕ) → json_heading_of (a ∷ b ∷ c ∷ d ∷ e ∷ slice_split is_comma text) ≡ None
more_fields a b c d e [] = refl
more_fields a b c d e (x ∷ text) = by (is_comma x)
  where
    by_fields : (fields : List (List ℕ)) → json_heading_of (a ∷ b ∷ c ∷ d ∷ e ∷ onto_first x fields) ≡ None
    by_fields [] = refl
    by_fields (f ∷ fields) = refl

    by : (test : Bool) → json_heading_of
        (a ∷ b ∷ c ∷ d ∷ e ∷ cond test ([] ∷ slice_split is_comma text) (onto_first x (slice_split is_comma text))) ≡ None
    by true = refl
    by false = by_fields (slice_split is_comma text)

-- more than two between slashes
pub more_than_two : (a b : List ℕ) (text : List ℕ) → share_of (a ∷ b ∷ slice_split is_slash text) ≡ None
more_than_two a b [] = refl
more_than_two a b (x ∷ text) = by (is_slash x)
  where
    by_words : (words : List (List ℕ)) → share_of (a ∷ b ∷ onto_first x words) ≡ None
    by_words [] = refl
    by_words (w ∷ words) = refl

    by : (test : Bool) → share_of (a ∷ b ∷ cond test ([] ∷ slice_split is_slash text) (onto_first x (slice_split is_slash text))) ≡ None
    by true = refl
    by false = by_words (slice_split is_slash text)

pub find_more : (p : ℕ → Bool) (first count : ℕ) → 0 < count → p first ≡ false
    → find p (range_with_len first count) ≡ find p (range_with_len (first + 1) (count - 1))
find_more p first zero some out = absurd (omega (arith, some))
find_more p first (suc count) some out =
    let e : count ≡ suc count - 1 = omega arith in
    ap (λ b. cond b (Some first) (find p (range_with_len (first + 1) count))) out ∙ ap (λ n. find p (range_with_len (first + 1) n)) e
