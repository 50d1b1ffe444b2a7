-- How the code's tables stand for the call graph.
use Rattle.std.specs.Prelude.{◌≡◌, ℕ, ◌<◌, ◌&&◌, Bool, false, List, length, get_or, nat_eq, slice_index, count_by}
use Rattle.std.specs.List.{list_any}
use Rattle.flow_graph.specs.Points.{point_count}
use Rattle.graph_components.specs.Components.{AreComponents}
use Rattle.graph_components.specs.declared.arc.Arc.{Arc}
use Rattle.flow_reports.specs.Listed.{remarks_of}
use Rattle.flow_reports.specs.code.Findings.{AreFindings, TellDoubtful, knowledge_of}
use Rattle.flow_reports.specs.declared.listed.PlacedRemark.{PlacedRemark}
use Rattle.tac_program.specs.Programs.{Program}
use Rattle.call_dots.specs.CallDots.{is_counted}
use Rattle.call_dots.specs.Calls.{Recursion, arcs_of, edges_of}
use Rattle.call_dots.specs.declared.calls.CallEdge.{CallEdge}
use Rattle.call_dots.specs.declared.calls.CallGraph.{CallGraph}
use Rattle.call_dots.specs.declared.counts.RemarkCounts.{RemarkCounts}
use Rattle.call_dots.specs.declared.texts.CallProgram.{CallProgram}

-- a call leads back where its procedures have one component's number
abbrev pub is_back : List ℕ → ℕ → ℕ → Bool
is_back numbers caller callee = nat_eq (slice_index numbers caller) (slice_index numbers callee)

-- whether an arc leaves a procedure and leads back
abbrev pub leaves_back : List ℕ → ℕ → Arc → Bool
leaves_back numbers procedure arc = nat_eq procedure arc.from && is_back numbers arc.from arc.to

-- what numbers of components tell
abbrev pub recursion_by : Program → List ℕ → Recursion
recursion_by program numbers = record {
  procedures = λ p. list_any (leaves_back numbers p) (arcs_of program);
  calls = is_back numbers;
}

pub record AreCallTables (program : Program) (graph : CallGraph) : Type 0 where
  pub edges : graph.edges.items ≡ edges_of program
  pub components : AreComponents (arcs_of program) (length program.procedures) graph.numbers.items
  pub count : length graph.recursive.items ≡ length program.procedures
  pub recursive : (p : ℕ) → p < length program.procedures
      → get_or graph.recursive.items p false ≡ list_any (leaves_back graph.numbers.items p) (arcs_of program)

-- for each procedure how many of some remarks are of a kind
pub record AreCounts (program : Program) (remarks : List PlacedRemark) (kind : ℕ) (counts : List ℕ) : Type 0 where
  pub count : length counts ≡ length program.procedures
  pub each : (p : ℕ) → p < length program.procedures → slice_index counts p ≡ count_by (is_counted program p kind) remarks

pub record AreRemarkCounts (program : Program) (remarks : List PlacedRemark) (counts : RemarkCounts) : Type 0 where
  pub never_reached : AreCounts program remarks 0 counts.never_reached.items
  pub unset : AreCounts program remarks 1 counts.unset.items
  pub computed : AreCounts program remarks 2 counts.computed.items
  pub busy : AreCounts program remarks 3 counts.busy.items
  pub dead : AreCounts program remarks 4 counts.dead.items

-- What was found is of one program, whose call graph and remarks the tables tell.
pub record IsCallProgram (shown : CallProgram) : Type 0 where
  pub found : AreFindings shown.found
  pub doubts : TellDoubtful shown.found.graph.now shown.found.doubtful.items
  pub tables : AreCallTables shown.found.graph.now shown.calls
  pub counts : AreRemarkCounts shown.found.graph.now (remarks_of shown.found.graph.now (knowledge_of shown.found)) shown.counts

-- what is told of recursion
abbrev pub recursion_of : CallProgram → Recursion
recursion_of shown = recursion_by shown.found.graph.now shown.calls.numbers.items

-- its procedures and its point are there
pub record IsEdgeIn (program : Program) (edge : CallEdge) : Type 0 where
  pub caller : edge.call.caller < length program.procedures
  pub callee : edge.call.callee < length program.procedures
  pub site : edge.call.site < point_count program
