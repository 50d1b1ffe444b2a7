-- Texts that are cut around a byte.
use Rattle.std.proofs.Common.{◌≡◌, ◌==◌, ℕ, suc, ◌+◌, ◌-◌, ◌<◌, ◌≤◌, Bool, true, false, List, ◌∷◌, [], length, get_or, take, drop, arith, sym, ◌∙◌}
use Rattle.std.proofs.Common.{ap, subst, take_all}
use Rattle.std.specs.List.{after_first, before_first, position_or_len, slice_split, All}
use Rattle.std.proofs.lemmas.List.{length-drop}
use Rattle.std.proofs.lemmas.List.Sums.{position_or_len_is, fails_before_first}
use Rattle.std.proofs.lemmas.List.Splits.{slice_split_first, slice_split_none}
use Rattle.std.proofs.lemmas.Grind.{common_steps}
use Rattle.part_texts.specs.code.ReadParts.{IsCut, IsWhole}

take_rest : (text : List ℕ) (i : ℕ) → take (length text - i) (drop i text) ≡ drop i text
take_rest text i = take_all _ _ (subst (λ n. n ≤ length text - i) (sym (length-drop i text)) (omega arith))

cut_at : (test : ℕ → Bool) (text : List ℕ) (i : ℕ) → i < length text → position_or_len test text ≡ i
    → IsCut test text (take i text) (take (length text - (i + 1)) (drop (i + 1) text))
cut_at test text i within at =
    let before : take i text ≡ before_first test text = ap (λ p. take p text) (sym at) in
    let after : take (length text - (i + 1)) (drop (i + 1) text) ≡ after_first test text = take_rest text (i + 1)
    ∙ ap (λ p. drop (p + 1) text) (sym at) in
    record {
      is_before = before;
      is_after = after;
      split = slice_split_first test text 0 (subst (λ p. p < length text) (sym at) within)
          ∙ ap (λ xs. xs ∷ slice_split test (after_first test text)) (sym before) ∙ ap (λ xs. take i text ∷ slice_split test xs) (sym after);
      shorter = subst (λ n. n < length text) (sym (ap length (take_rest text (i + 1)) ∙ length-drop (i + 1) text)) (omega arith);
    }

pub first_cut : (test : ℕ → Bool) (text : List ℕ) (i : ℕ) → i < length text → ((k : ℕ) → k < i → test (get_or text k 0) ≡ false)
    → test (get_or text i 0) ≡ true → IsCut test text (take i text) (take (length text - (i + 1)) (drop (i + 1) text))
first_cut test text i within none here = cut_at test text i within (position_or_len_is test text i 0 (omega arith) none (λ _. here))

whole_at : (test : ℕ → Bool) (text : List ℕ) → position_or_len test text ≡ length text → IsWhole test text
whole_at test text none = record {
  none = none;
  split = slice_split_none test text (λ k d below. fails_before_first test text k d (subst (λ p. k < p) (sym none) below));
}

pub none_cut : (test : ℕ → Bool) (text : List ℕ) (i : ℕ) → length text ≤ i → ((k : ℕ) → k < i → test (get_or text k 0) ≡ false) → IsWhole test text
none_cut test text i end none =
    whole_at test text (position_or_len_is test text (length text) 0 (omega arith) (λ k below. none k (omega arith)) (λ below. absurd (omega arith)))
