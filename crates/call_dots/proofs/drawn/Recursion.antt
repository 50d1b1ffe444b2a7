-- Numbers of components tell recursion
use Rattle.std.proofs.Common.{◌≡◌, ◌↔◌, ℕ, ◌<◌, true, List, length, get_or, nat_eq, sym, subst, arith, refl}
use Rattle.std.specs.List.{list_any}
use Rattle.std.proofs.lemmas.Bool.{and_parts, eqb-true}
use Rattle.flow_graph.proofs.edges.EdgeLemmas.{All-Contains}
use Rattle.flow_graph.proofs.searches.FiniteSearch.{any_contains, contains_any}
use Rattle.graph_components.specs.Components.{AreComponents, Joins, Leads}
use Rattle.graph_components.specs.declared.arc.Arc.{Arc}
use Rattle.graph_components.proofs.walks.Walks.{arc_leads}
use Rattle.tac_program.specs.Programs.{Program}
use Rattle.tac_program.specs.Sound.{IsSound}
use Rattle.call_dots.specs.Calls.{IsRecursion, IsRecursive, LeadsBack, arcs_of}
use Rattle.call_dots.specs.code.Tables.{is_back, leaves_back, recursion_by}
use Rattle.call_dots.proofs.named.Calls.{arcs_within}

module _ (program : Program) (sound : IsSound program) (numbers : List ℕ) (are : AreComponents (arcs_of program) (length program.procedures) numbers) where
  joined_within : (caller callee : ℕ) → Joins (arcs_of program) caller callee
      → (caller < length program.procedures) × (callee < length program.procedures)
  joined_within caller callee joins =
      All-Contains (λ (arc : Arc). (arc.from < length program.procedures) × (arc.to < length program.procedures)) (arcs_of program)
      (record { from = caller; to = callee }) (arcs_within program sound) joins

  back_tells : (caller callee : ℕ) → Joins (arcs_of program) caller callee → (is_back numbers caller callee ≡ true) ↔ LeadsBack program caller callee
  back_tells caller callee joins =
      let (low, high) = joined_within caller callee joins in
      let tells = are.each caller callee low high in (
        λ is. (tells.0 (eqb-true (get_or numbers caller 0) (get_or numbers callee 0) is)).back,
        λ back.
            let same : get_or numbers caller 0 ≡ get_or numbers callee 0 =
            tells.1 (record { there = arc_leads (arcs_of program) caller callee joins; back = back }) in
            (let test : nat_eq (get_or numbers caller 0) (get_or numbers callee 0) ≡ true = grind arith in test),
      )

  recursive_tells : (p : ℕ) → (list_any (leaves_back numbers p) (arcs_of program) ≡ true) ↔ IsRecursive program p
  recursive_tells p = (
    λ any.
        let (arc, among, passes) = any_contains (leaves_back numbers p) (arcs_of program) any in
        let (from, back) = and_parts (nat_eq p arc.from) (is_back numbers arc.from arc.to) passes in
        let same : p ≡ arc.from = eqb-true p arc.from from in
        let joins : Joins (arcs_of program) arc.from arc.to = among in
        let leads : Leads (arcs_of program) arc.to arc.from = (back_tells arc.from arc.to joins).0 back in
        (arc.to, subst (λ q. Joins (arcs_of program) q arc.to) (sym same) joins, subst (Leads (arcs_of program) arc.to) (sym same) leads),
    λ recursive.
        let (first, joins, leads) = recursive in
        let itself : nat_eq p p ≡ true = grind arith in
        let back : is_back numbers p first ≡ true = (back_tells p first joins).1 leads in
        contains_any (leaves_back numbers p) (arcs_of program) (record { from = p; to = first }) joins
        (rw (itself, back) refl),
  )

  pub is_recursion : IsRecursion program (recursion_by program numbers)
  is_recursion = record { procedures = λ p low. recursive_tells p; calls = back_tells }
