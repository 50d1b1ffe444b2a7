-- Lines and the text that they make up.
use Rattle.std.proofs.Common.{◌≡◌, ℕ, Bool, true, false, List, [], ◌∷◌, flat_map, refl, ap, ◌∙◌, ◌==◌, if◌then◌else◌}
use Rattle.std.specs.List.{onto_first}
use Rattle.tac_lines.specs.Text.{lines}
use Rattle.tac_lines.specs.LineLaws.{LinesJoin}

joined : List (List ℕ) → List ℕ
joined ls = flat_map (λ line. line) ls

onto_first_joined : (b : ℕ) (ls : List (List ℕ)) → joined (onto_first b ls) ≡ b ∷ joined ls
unfolding joined
onto_first_joined b [] = refl
onto_first_joined b (l ∷ ls) = refl

-- either way of a byte, one byte more is joined
choice_joined : (end : Bool) (b : ℕ) (ls : List (List ℕ)) → joined (if end then (b ∷ []) ∷ ls else onto_first b ls) ≡ b ∷ joined ls
unfolding joined
choice_joined true b ls = refl
choice_joined false b ls = onto_first_joined b ls

pub lines_join : LinesJoin
unfolding joined
lines_join [] = refl
lines_join (b ∷ bs) = choice_joined (b == 10) b (lines bs) ∙ ap (λ r. b ∷ r) (lines_join bs)
