-- Gen and kill of statements in a row, statement by statement
use Rattle.std.proofs.Common.{◌≡◌, ◌∙◌, ℕ, ◌+◌, ◌-◌, ◌<◌, ◌≤◌, Bool, true, false, not, ◌&&◌, ◌||◌, List, [], ◌∷◌, refl, sym, ap}
use Rattle.std.specs.List.{range_with_len}
use Rattle.flow_graph.specs.Transfers.{gens, kills}
use Rattle.flow_graph.specs.declared.analysis.Analysis.{Analysis}
use Rattle.point_sets.specs.Sets.{passes}
use Rattle.tac_program.specs.Programs.{Program}
use Rattle.block_dots.specs.BlockSets.{exposed_down, exposed_up, kills_some}
use Rattle.block_dots.specs.Laws.{StatementsCompose, passed_down, passed_up}
use Rattle.block_dots.proofs.points.Ranges.{range_first, range_none}

-- one statement before others, by what it generates and kills and what they do
before_down : (gen kill kills holds value : Bool)
    → (holds || ((gen || (value && not kill)) && not kills)) ≡ (((gen && not kills) || holds) || (value && not (kill || kills)))
before_down true true true true true = refl
before_down true true true true false = refl
before_down true true true false true = refl
before_down true true true false false = refl
before_down true true false true true = refl
before_down true true false true false = refl
before_down true true false false true = refl
before_down true true false false false = refl
before_down true false true true true = refl
before_down true false true true false = refl
before_down true false true false true = refl
before_down true false true false false = refl
before_down true false false true true = refl
before_down true false false true false = refl
before_down true false false false true = refl
before_down true false false false false = refl
before_down false true true true true = refl
before_down false true true true false = refl
before_down false true true false true = refl
before_down false true true false false = refl
before_down false true false true true = refl
before_down false true false true false = refl
before_down false true false false true = refl
before_down false true false false false = refl
before_down false false true true true = refl
before_down false false true true false = refl
before_down false false true false true = refl
before_down false false true false false = refl
before_down false false false true true = refl
before_down false false false true false = refl
before_down false false false false true = refl
before_down false false false false false = refl

before_up : (gen kill kills holds value : Bool)
    → (gen || ((holds || (value && not kills)) && not kill)) ≡ ((gen || (not kill && holds)) || (value && not (kill || kills)))
before_up true true true true true = refl
before_up true true true true false = refl
before_up true true true false true = refl
before_up true true true false false = refl
before_up true true false true true = refl
before_up true true false true false = refl
before_up true true false false true = refl
before_up true true false false false = refl
before_up true false true true true = refl
before_up true false true true false = refl
before_up true false true false true = refl
before_up true false true false false = refl
before_up true false false true true = refl
before_up true false false true false = refl
before_up true false false false true = refl
before_up true false false false false = refl
before_up false true true true true = refl
before_up false true true true false = refl
before_up false true true false true = refl
before_up false true true false false = refl
before_up false true false true true = refl
before_up false true false true false = refl
before_up false true false false true = refl
before_up false true false false false = refl
before_up false false true true true = refl
before_up false false true true false = refl
before_up false false true false true = refl
before_up false false true false false = refl
before_up false false false true true = refl
before_up false false false true false = refl
before_up false false false false true = refl
before_up false false false false false = refl

none_before : (value : Bool) → value ≡ (false || (value && not false))
none_before true = refl
none_before false = refl

nothing_carried : (holds kills : Bool) → holds ≡ (holds || (false && not kills))
nothing_carried true kills = refl
nothing_carried false kills = refl

module _ (program : Program) (analysis : Analysis) (bit : ℕ) where
  -- what is exposed behind statements, where a value stands before them
  abbrev pub carried : List ℕ → Bool → Bool
  carried points value = exposed_down program analysis points bit || (value && not (kills_some program analysis points bit))

  pub carried_further : (point : ℕ) (points : List ℕ) (value : Bool)
      → carried points (passes program analysis point bit value) ≡ carried (point ∷ points) value
  carried_further point points value =
      before_down (gens program analysis point bit) (kills program analysis point bit) (kills_some program analysis points bit)
      (exposed_down program analysis points bit) value

  down_composes : (points : List ℕ) (value : Bool) → passed_down program analysis points bit value ≡ carried points value
  down_composes [] value = none_before value
  down_composes (point ∷ points) value =
      down_composes points (passes program analysis point bit value) ∙ carried_further point points value

  up_composes : (points : List ℕ) (value : Bool) → passed_up program analysis points bit value
      ≡ (exposed_up program analysis points bit || (value && not (kills_some program analysis points bit)))
  up_composes [] value = none_before value
  up_composes (point ∷ points) value =
      ap (passes program analysis point bit) (up_composes points value)
      ∙ before_up (gens program analysis point bit) (kills program analysis point bit) (kills_some program analysis points bit)
      (exposed_up program analysis points bit) value

  -- along the numbers of a range
  pub carried_first : (first end : ℕ) (value : Bool) → first < end
      → carried (range_with_len (first + 1) (end - (first + 1))) (passes program analysis first bit value)
      ≡ carried (range_with_len first (end - first)) value
  carried_first first end value below =
      carried_further first (range_with_len (first + 1) (end - (first + 1))) value
      ∙ sym (ap (λ points. carried points value) (range_first first end below))

  pub carried_none : (first end : ℕ) (value : Bool) → end ≤ first → value ≡ carried (range_with_len first (end - first)) value
  carried_none first end value above = none_before value ∙ sym (ap (λ points. carried points value) (range_none first end above))

  pub carried_begin : (points : List ℕ) → exposed_down program analysis points bit ≡ carried points false
  carried_begin points = nothing_carried (exposed_down program analysis points bit) (kills_some program analysis points bit)

  pub up_first : (first end : ℕ) → first < end → exposed_up program analysis (range_with_len first (end - first)) bit
      ≡ (gens program analysis first bit || (not (kills program analysis first bit)
      && exposed_up program analysis (range_with_len (first + 1) (end - (first + 1))) bit))
  up_first first end below = ap (λ points. exposed_up program analysis points bit) (range_first first end below)

  pub up_none : (first end : ℕ) → end ≤ first → exposed_up program analysis (range_with_len first (end - first)) bit ≡ false
  up_none first end above = ap (λ points. exposed_up program analysis points bit) (range_none first end above)

pub statements_compose : StatementsCompose
statements_compose program analysis points bit value =
    (down_composes program analysis bit points value, up_composes program analysis bit points value)
