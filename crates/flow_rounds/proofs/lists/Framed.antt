-- What the code keeps stands for an iteration
use Rattle.std.proofs.Common.{◌≡◌, ◌≤◌, ◌&&◌, ℕ, Bool, List, length, nat_eq, not, subst}
use Rattle.std.specs.List.{list_any}
use Rattle.flow_graph.specs.Points.{point_count}
use Rattle.flow_graph.specs.Problems.{may_shape}
use Rattle.flow_graph.specs.Universes.{bits}
use Rattle.flow_graph.specs.declared.analysis.Analysis.{Analysis}
use Rattle.flow_graph.specs.declared.edge.Edge.{Edge}
use Rattle.flow_team.specs.Tables.{TableFacts}
use Rattle.tac_program.specs.Programs.{Program}
use Rattle.flow_rounds.specs.Rounds.{is_return_to}
use Rattle.flow_rounds.specs.Steps.{computes}
use Rattle.flow_rounds.specs.code.Frames.{AreSources, Framed, IsFramed, TellsColumn, has_path_within, iteration_of}
use Rattle.flow_rounds.specs.code.Orders.{ArePut}
use Rattle.flow_rounds.specs.declared.point_range.PointRange.{PointRange}
use Rattle.flow_rounds.proofs.lists.Orders.{put_all}

module _ (program : Program) (analysis : Analysis) (procedure : ℕ) (points : PointRange) (table : TableFacts) (order : List ℕ) (computed : List Bool)
    (sources : List (List ℕ)) where
  abbrev framed : Framed
  framed = record { program = program; analysis = analysis; procedure = procedure; points = points; table = table; order = order }

  abbrev test : List Edge → ℕ → ℕ → Bool
  test edges entry point = has_path_within points table point && not (nat_eq point entry) && not (list_any (is_return_to point) edges)

  pub framed_is : points.first ≤ points.end → points.end ≤ point_count program → table.analysis ≡ analysis → length table.paths ≡ points.end
      → table.bits ≡ bits program analysis
      → (edges others : List Edge) (entry : ℕ) (marks : List Bool) (taken : List ℕ)
      → edges ≡ (may_shape program analysis).edges → others ≡ (may_shape program analysis).edges
      → entry ≡ (may_shape program analysis).entry procedure → marks ≡ computed → taken ≡ order
      → TellsColumn points (test edges entry) computed → ArePut points marks points.end order
      → AreSources others (has_path_within points table) taken sources
      → IsFramed (record { program = program; analysis = analysis; procedure = procedure; points = points; table = table; order = order })
      computed sources
  framed_is ordered there of_analysis paths bits_are edges others entry marks taken edges_are others_are entry_is marks_are taken_are tells
      put lists =
      let tells_computed : TellsColumn points (computes (iteration_of framed)) computed =
      subst (λ (t : ℕ → Bool). TellsColumn points t computed) (λ i. test (edges_are i) (entry_is i)) tells in
      let all : ArePut points computed points.end order = subst (λ (m : List Bool). ArePut points m points.end order) marks_are put in
      record {
        ordered = ordered;
        there = there;
        of_analysis = of_analysis;
        count = paths;
        bits = bits_are;
        computed = tells_computed;
        order = record { listed = put_all points computed order (computes (iteration_of framed)) tells_computed all; once = all.once };
        sources = subst (λ (es : List Edge). AreSources es (has_path_within points table) order sources) others_are
            (subst (λ (ps : List ℕ). AreSources others (has_path_within points table) ps sources) taken_are lists);
      }
