-- The sets of a table on both sides of a statement are those of all that is known.
use Rattle.std.proofs.Common.{◌≡◌, ℕ, ◌<◌, true, List, get_or, length, sym, subst, All, arith}
use Rattle.std.proofs.lemmas.List.Elements.{All-contains_itself}
use Rattle.flow_graph.specs.Edges.{edges_from}
use Rattle.flow_graph.specs.Paths.{target_of}
use Rattle.flow_graph.specs.Points.{point_count}
use Rattle.flow_graph.specs.declared.edge.Edge.{Edge}
use Rattle.flow_team.specs.Tables.{TableFacts, facts_of}
use Rattle.point_sets.specs.Sets.{has_behind, set_on}
use Rattle.point_sets.specs.declared.side.Side.{Side}
use Rattle.point_sets.specs.declared.side.Side.TheVariants.{Behind}
use Rattle.flow_views.specs.Views.{known_facts}
use Rattle.flow_views.specs.code.ViewProgram.{AreShown, IsShownPoint, IsShownTable, known_of}
use Rattle.flow_views.specs.declared.view_program.ViewProgram.{ViewProgram}
use Rattle.flow_views.proofs.facts.Behind.{next_shown, same_set_on}

module _ (shown : ViewProgram) (are : AreShown shown) (table : TableFacts) (is_table : IsShownTable shown table) (point : ℕ) (here : IsShownPoint shown point)
    (below : point < point_count shown.found.graph.now) (side : Side)
    (stands : side ≡ Behind → has_behind shown.found.graph.now point ≡ true) where
  -- the table has the points to which control may go
  pub next_there : (edges : List Edge) → edges ≡ edges_from shown.found.graph.now point → side ≡ Behind
      → All (λ edge. target_of edge < length table.paths) edges
  next_there edges read is =
      subst (λ (es : List Edge). All (λ edge. target_of edge < length table.paths) es) (sym read)
      (λ k d within.
      let next = next_shown shown.found.graph.now are.found.sound shown.view.procedure are.procedure point below here (stands is)
      (get_or (edges_from shown.found.graph.now point) k d) (All-contains_itself (edges_from shown.found.graph.now point) k d within) in
      omega (arith, is_table.points, next.1))

  pub same_set : set_on side shown.found.graph.now table.analysis (facts_of table) point
      ≡ set_on side shown.found.graph.now table.analysis (known_facts (known_of shown) table.analysis) point
  same_set =
      same_set_on shown.found.graph.now (facts_of table) (known_facts (known_of shown) table.analysis) point (is_table.tells point here) table.analysis side
      (λ is edge among. is_table.tells (target_of edge)
      (next_shown shown.found.graph.now are.found.sound shown.view.procedure are.procedure point below here (stands is) edge among))
