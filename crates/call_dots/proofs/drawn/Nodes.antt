-- The picture of what was found is that of all that is known
use Rattle.std.proofs.Common.{◌≡◌, ℕ, zero, suc, ◌+◌, ◌-◌, ◌<◌, ◌≤◌, Bool, List, ◌++◌, codes, flat_map, length, get_or, refl, ap, ap₂, ◌∙◌}
use Rattle.std.proofs.Common.{arith}
use Rattle.std.specs.List.{range_with_len}
use Rattle.std.proofs.lemmas.List.{get_or_default}
use Rattle.flow_graph.specs.Analyses.{main_procedure}
use Rattle.flow_graph.specs.Points.{entry_point, point_count}
use Rattle.flow_graph.proofs.graphs.GraphLaws.{graphs_are_well_formed}
use Rattle.flow_reports.specs.Listed.{placed_at, remarks_of}
use Rattle.flow_reports.specs.Reports.{Knowledge, remarks_at}
use Rattle.flow_reports.specs.declared.listed.PlacedRemark.{PlacedRemark}
use Rattle.flow_reports.proofs.knowledge.KnownReports.{Agree, same_remarks, same_texts}
use Rattle.tac_program.specs.Programs.{Program}
use Rattle.tac_program.specs.Sound.{IsSound}
use Rattle.call_dots.specs.CallDots.{all_nodes, call_dot_of, edge_line, head, legend, marked_node, node, remark_count}
use Rattle.call_dots.specs.Calls.{Recursion, edges_of}
use Rattle.call_dots.specs.code.Tables.{AreCounts}
use Rattle.flow_views.specs.Dots.{text_if}
use Rattle.flow_views.proofs.facts.Tables.{ends_below}

-- a count that was read
pub count_read : (program : Program) (remarks : List PlacedRemark) (kind : ℕ) (counts : List ℕ) (p read : ℕ) → AreCounts program remarks kind counts
    → p < length program.procedures → read ≡ get_or counts p read → read ≡ remark_count program remarks p kind
count_read program remarks kind counts p read are low is =
    is ∙ get_or_default counts p read 0 (omega (arith, low, are.count)) ∙ are.each p low

module _ (program : Program) (sound : IsSound program) (one other : Knowledge) (agree : Agree program one other) (recursion : Recursion) where
  same_placed : (a n : ℕ) → a + n ≤ point_count program
      → flat_map (λ point. placed_at point (remarks_at program one point)) (range_with_len a n)
      ≡ flat_map (λ point. placed_at point (remarks_at program other point)) (range_with_len a n)
  same_placed a zero low = refl
  same_placed a (suc n) low =
      ap₂ (λ (xs ys : List PlacedRemark). xs ++ ys) (ap (placed_at a) (same_remarks program sound one other agree a (omega (arith, low))))
      (same_placed (a + 1) n (omega (arith, low)))

  pub same_listed : remarks_of program one ≡ remarks_of program other
  same_listed = same_placed 0 (point_count program) (omega arith)

  same_node : (p : ℕ) → p < length program.procedures → node program one recursion p ≡ node program other recursion p
  same_node p there =
      let reached = agree.flags (entry_point program p) (omega (arith, ends_below program p there)) in
      ap₂ (λ (remarks : List PlacedRemark) (is : Bool).
      marked_node program remarks p (record { reached = is; recursive = recursion.procedures p })) same_listed reached

  same_nodes : (a n : ℕ) → a + n ≤ length program.procedures
      → flat_map (node program one recursion) (range_with_len a n) ≡ flat_map (node program other recursion) (range_with_len a n)
  same_nodes a n low =
      same_texts (node program one recursion) (node program other recursion) a n (λ k from to. same_node k (omega (arith, to, low)))

  pub same_picture : (has_legend : Bool) → call_dot_of program one recursion has_legend ≡ call_dot_of program other recursion has_legend
  same_picture has_legend =
      let main = main_procedure program in
      let main_there : main < length program.procedures = (graphs_are_well_formed program sound).root_in_range in
      let rest : List ℕ = flat_map (edge_line program recursion) (edges_of program) in
      let nodes : all_nodes program one recursion ≡ all_nodes program other recursion =
      ap₂ (λ (xs ys : List ℕ). xs ++ ys)
      (ap₂ (λ (xs ys : List ℕ). xs ++ ys) (same_node main main_there) (same_nodes 0 main (omega (arith, main_there))))
      (same_nodes (main + 1) (length program.procedures - (main + 1)) (omega (arith, main_there))) in
      ap (λ (ns : List ℕ). head ++ ns ++ rest ++ text_if has_legend legend ++ codes "}\n") nodes
