use Rattle.std.proofs.Common.{◌≡◌, ◌∙◌, ◌<◌, ℕ, List, All, flat_map, length, map, ap, ap₂, sym, subst, arith}
use Rattle.std.specs.List.{list_any, range_with_len}
use Rattle.graph_components.specs.Components.{AreComponents}
use Rattle.graph_components.specs.declared.arc.Arc.{Arc}
use Rattle.tac_program.specs.Programs.{Procedure, Program}
use Rattle.call_dots.specs.Calls.{arc_of, arcs_of, calls_in, edges_in}
use Rattle.call_dots.specs.code.Tables.{leaves_back}
use Rattle.call_dots.proofs.named.Calls.{arcs_within}
use Rattle.call_dots.proofs.calls.call_graph.Goals as goal

pub components_of-requires-clause-within : goal.components_of-requires-clause-within
components_of-requires-clause-within c =
    let program : Program = c.args.graph.now in
    let procs : c.procs.result.now ≡ program.procedures = c.procs.ensures.procedures ∙ ap (λ (p : Program). p.procedures) c.program.ensures in
    let count : length c.procs.result.now ≡ length program.procedures = ap (λ (ps : List Procedure). length ps) procs in
    let all : c.as_slice.result.now ≡ arcs_of program =
    c.as_slice.ensures.value ∙ c.in_ok-all.ensures.arcs ∙ ap (λ n. map arc_of (flat_map (calls_in program) (range_with_len 0 n))) count in
    subst (λ (arcs : List Arc). All (λ (arc : Arc). (arc.from < length c.procs.result.now) × (arc.to < length c.procs.result.now)) arcs) (sym all)
    (λ k d below.
    let both = arcs_within program c.points.ensures.sound k d below in
    (omega (arith, both.0, count), omega (arith, both.1, count)))

pub recursive_nodes-requires-clause-within : goal.recursive_nodes-requires-clause-within
recursive_nodes-requires-clause-within c =
    let program : Program = c.args.graph.now in
    let procs : c.procs.result.now ≡ program.procedures = c.procs.ensures.procedures ∙ ap (λ (p : Program). p.procedures) c.program.ensures in
    let count : length c.procs.result.now ≡ length program.procedures = ap (λ (ps : List Procedure). length ps) procs in
    let all : c.as_slice-2.result.now ≡ arcs_of program =
    c.as_slice-2.ensures.value ∙ c.in_ok-all.ensures.arcs ∙ ap (λ n. map arc_of (flat_map (calls_in program) (range_with_len 0 n))) count in
    subst (λ (arcs : List Arc). All (λ (arc : Arc). (arc.from < length c.procs.result.now) × (arc.to < length c.procs.result.now)) arcs) (sym all)
    (λ k d below.
    let both = arcs_within program c.points.ensures.sound k d below in
    (omega (arith, both.0, count), omega (arith, both.1, count)))

pub returns : goal.returns
returns c =
    let program : Program = c.args.graph.now in
    let procs : c.procs.result.now ≡ program.procedures = c.procs.ensures.procedures ∙ ap (λ (p : Program). p.procedures) c.program.ensures in
    let count : length c.procs.result.now ≡ length program.procedures = ap (λ (ps : List Procedure). length ps) procs in
    let arcs : c.in_ok-all.all.arcs.items ≡ arcs_of program =
    c.in_ok-all.ensures.arcs ∙ ap (λ n. map arc_of (flat_map (calls_in program) (range_with_len 0 n))) count in
    let numbers : List ℕ = c.in_ok-numbers.numbers.items in
    record {
      edges = c.in_ok-all.ensures.edges ∙ ap (λ n. flat_map (edges_in program) (range_with_len 0 n)) count;
      components = subst (λ (n : ℕ). AreComponents (arcs_of program) n numbers) count
          (subst (λ (joined : List Arc). AreComponents joined (length c.procs.result.now) numbers) (c.as_slice.ensures.value ∙ arcs) c.in_ok-numbers.ensures);
      count = c.in_ok-recursive.ensures.count ∙ count;
      recursive = λ p low.
          c.in_ok-recursive.ensures.each p (omega (arith, low, count))
          ∙ ap₂ (λ (ns : List ℕ) (joined : List Arc). list_any (leaves_back ns p) joined) c.as_slice-3.ensures.value (c.as_slice-2.ensures.value ∙ arcs);
    }
