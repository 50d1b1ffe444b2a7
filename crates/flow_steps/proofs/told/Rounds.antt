-- Lines of rounds, round by round
use Rattle.std.proofs.Common.{◌≡◌, ◌∙◌, ℕ, ◌+◌, ◌≤◌, Bool, true, false, List, [], ◌∷◌, ◌++◌, flat_map, filter, refl, sym, ap, arith, append_assoc}
use Rattle.std.proofs.Common.{inl, inr, eq-or-lt_of_le}
use Rattle.std.specs.List.{range_with_len}
use Rattle.flow_graph.proofs.lists.Ranges.{flat_map-range_more}
use Rattle.text_pieces.specs.code.Lists.{some_stand}
use Rattle.flow_rounds.specs.Steps.{changed_points}
use Rattle.flow_rounds.specs.code.Frames.{AreColumns, Framed, IsOrdered, iteration_of}
use Rattle.flow_steps.specs.StepTexts.{round_line}
use Rattle.flow_steps.specs.code.Told.{HasRounds, KeepsRounds, differs, round_told}
use Rattle.flow_steps.proofs.told.Same.{same_points, same_round}

none_of : {A : Type 0} (xs : List A) → some_stand xs ≡ false → xs ≡ []
none_of [] is = refl
none_of (x ∷ xs) is = absurd (cc is)

not_none : {A : Type 0} (xs : List A) → some_stand xs ≡ true → ¬ (xs ≡ [])
not_none [] is none = absurd (cc is)
not_none (x ∷ xs) is none = absurd (cc none)

module _ (framed : Framed) (rounds : ℕ) (columns next : List (List Bool)) (old text new : List ℕ) (ordered : IsOrdered framed)
    (keeps : KeepsRounds framed rounds columns old text) (after : AreColumns framed (rounds + 1) next)
    (told : new ≡ text ++ round_told framed columns next rounds) where
  one_more : new ≡ old ++ flat_map (round_line (iteration_of framed)) (range_with_len 0 (rounds + 1))
  one_more =
      told ∙ (λ i. keeps.is_text i ++ same_round framed rounds columns next keeps.are_columns after ordered i)
      ∙ append_assoc old (flat_map (round_line (iteration_of framed)) (range_with_len 0 rounds)) (round_line (iteration_of framed) rounds)
      ∙ ap (λ t. old ++ t) (sym (flat_map-range_more (round_line (iteration_of framed)) rounds))

  changed : filter (differs framed columns next) framed.order ≡ changed_points (iteration_of framed) rounds
  changed = same_points framed rounds columns next keeps.are_columns after ordered

  pub next_round : some_stand (filter (differs framed columns next) framed.order) ≡ true → KeepsRounds framed (rounds + 1) next old new
  next_round some = record {
    are_columns = after;
    is_text = one_more;
    some = λ earlier below none. elim (eq-or-lt_of_le (let few : earlier ≤ rounds = omega (arith, below) in few)) [
      | inl same ↦ not_none (filter (differs framed columns next) framed.order) some
          (changed ∙ ap (changed_points (iteration_of framed)) (sym same) ∙ none)
      | inr less ↦ keeps.some earlier less none
    ];
  }

  pub last_round : some_stand (filter (differs framed columns next) framed.order) ≡ false → HasRounds (iteration_of framed) old new
  last_round none = record {
    last = rounds;
    is_last = record { none = sym changed ∙ none_of (filter (differs framed columns next) framed.order) none; some = keeps.some };
    is_text = one_more;
  }
