-- The sets of an analysis in one procedure, round by round.
use Rattle.std.specs.Prelude.{◌≡◌, ◌↔◌, ◌<◌, ◌≤◌, ℕ, suc, ◌+◌, Bool, true, ◌||◌, List, [], ◌∷◌, filter, Contains}
use Rattle.std.specs.List.{list_any, range_with_len}
use Rattle.flow_graph.specs.Analyses.{is_must}
use Rattle.flow_graph.specs.Points.{end_place, entry_point}
use Rattle.flow_graph.specs.Problems.{directed_transfer, may_shape}
use Rattle.flow_graph.specs.Universes.{bits}
use Rattle.flow_graph.specs.declared.analysis.Analysis.{Analysis}
use Rattle.flow_team.specs.Excerpts.{AreFactsAt}
use Rattle.flow_team.specs.Tables.{Facts}
use Rattle.point_sets.specs.Changes.{beyond}
use Rattle.tac_program.specs.Programs.{Program}
use Rattle.flow_rounds.specs.Rounds.{BitProblem, after_rounds, is_computed}

-- An analysis in a procedure of a program: its facts there, and the order in which each round takes the points.
pub record Iteration : Type 0 where
  pub program : Program
  pub analysis : Analysis
  pub procedure : ℕ
  pub facts : Facts
  pub order : List ℕ

-- its problem at one bit, in the direction of the analysis
abbrev pub problem_at : Iteration → ℕ → BitProblem
problem_at iteration bit = record {
  shape = may_shape iteration.program iteration.analysis;
  transfer = directed_transfer iteration.program iteration.analysis bit;
  is_must = is_must iteration.analysis;
  has_path = iteration.facts.has_path;
  in_table = λ point. iteration.facts.contains point bit;
}

-- whether rounds compute a point
abbrev pub computes : Iteration → ℕ → Bool
computes iteration point =
    is_computed (may_shape iteration.program iteration.analysis) iteration.procedure iteration.facts.has_path point

-- the set of a point after so many rounds
abbrev pub set_after : Iteration → ℕ → ℕ → ℕ → Bool
set_after iteration rounds point bit = after_rounds (problem_at iteration bit) iteration.procedure iteration.order rounds point

-- whether a set has changed between two rounds
abbrev pub has_changed : Iteration → ℕ → ℕ → Bool
has_changed iteration rounds point =
    list_any (λ bit. beyond (set_after iteration (rounds + 1) point) (set_after iteration rounds point) bit
    || beyond (set_after iteration rounds point) (set_after iteration (rounds + 1) point) bit)
    (range_with_len 0 (bits iteration.program iteration.analysis))

-- the points whose sets the round behind so many rounds changes, in the order in which it takes them
abbrev pub changed_points : Iteration → ℕ → List ℕ
changed_points iteration rounds = filter (has_changed iteration rounds) iteration.order

-- The point is one of the procedure's.
abbrev pub IsInside : Program → ℕ → ℕ → Type 0
IsInside program procedure point =
    (entry_point program procedure ≤ point) × (point < entry_point program procedure + suc (end_place program procedure))

-- No point stands twice in a list.
abbrev pub AreApart : List ℕ → Type 0
AreApart [] = Unit {0}
AreApart (point ∷ others) = (¬ (Contains others point)) × AreApart others

-- The facts are the meets over all valid paths at the procedure's points, and each of these that is computed stands in the order once, and no other.
pub record IsIteration (iteration : Iteration) : Type 0 where
  pub facts : AreFactsAt iteration.program iteration.analysis (entry_point iteration.program iteration.procedure)
      (entry_point iteration.program iteration.procedure + suc (end_place iteration.program iteration.procedure)) iteration.facts
  pub ordered : (point : ℕ) → Contains iteration.order point
      ↔ (IsInside iteration.program iteration.procedure point × (computes iteration point ≡ true))
  pub once : AreApart iteration.order

-- The first round that changes nothing is the one behind so many rounds: with it they end.
pub record IsLast (iteration : Iteration) (rounds : ℕ) : Type 0 where
  pub none : changed_points iteration rounds ≡ []
  pub some : (earlier : ℕ) → earlier < rounds → ¬ (changed_points iteration earlier ≡ [])
