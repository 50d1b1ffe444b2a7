use Rattle.std.proofs.Common.{true, false, List, [], ◌∷◌, ◌++◌, lit<, refl, ◌∙◌, ap, subst}
use Rattle.flow_graph.specs.Examples.{inner_definition, recursive_procedure}
use Rattle.flow_graph.specs.Paths.{IsPath}
use Rattle.flow_graph.specs.declared.edge.Edge.{Edge}
use Rattle.flow_graph.specs.declared.edge.Edge.TheVariants as edge
use Rattle.flow_why.specs.Witnesses.{IsThrough}
use Rattle.flow_why.specs.code.Moves.{Moves, moves_by_step, moves_past_call}
use Rattle.flow_why.specs.declared.hop.Effect.TheVariants.{Generates}
use Rattle.flow_why.specs.declared.hop.Hop.TheVariants as hop
use Rattle.flow_why.proofs.unfoldings.Moving.{lead_more, lead_none, witness_of}
use Rattle.flow_why.proofs.examples.recursion_examples.Goals as goal

-- through the procedure: the inner activation jumps to its end, the outer one defines the variable
through : List Edge
through = edge.Step 4 5 ∷ edge.Call 5 5 4 ∷ edge.Step 4 7 ∷ edge.Ret 5 7 6 ∷ edge.Step 6 7 ∷ []

is_through : IsThrough recursive_procedure inner_definition 1 Generates through
unfolding through
is_through = (
  (
    (
      (3, lit< tt, refl),
      refl,
      ((5, lit< tt, refl), refl, ((4, lit< tt, refl), refl, ((8, lit< tt, refl), refl, ((6, lit< tt, refl), refl, refl)))),
    ),
    refl,
  ),
  refl,
)

step : Moves recursive_procedure inner_definition false 0 false (hop.Step 0 1) 1 false
step = moves_by_step 0 1 false false (0, lit< tt, refl) refl tt

passed : Moves recursive_procedure inner_definition false 1 false (hop.Pass 1 1 1 2 Generates) 2 true
passed = moves_past_call 1 1 1 2 false true Generates (lit< tt, (1, lit< tt, refl)) (7, lit< tt, refl) refl (λ had. refl) refl (through, is_through)

pub returns-clause-witness : goal.returns-clause-witness
returns-clause-witness c =
    witness_of recursive_procedure inner_definition false 2 (hop.Step 0 1 ∷ hop.Pass 1 1 1 2 Generates ∷ []) (λ had. absurd (cc had))
    (lead_more recursive_procedure inner_definition false 0 false (hop.Step 0 1) 1 false (hop.Pass 1 1 1 2 Generates ∷ []) 2 true step
    (lead_more recursive_procedure inner_definition false 1 false (hop.Pass 1 1 1 2 Generates) 2 true [] 2 true passed
    (lead_none recursive_procedure inner_definition false 2 true)))

pub returns-clause-hop_left_out : goal.returns-clause-hop_left_out
returns-clause-hop_left_out c witness =
    let (path, is) = witness.unfolds in
    let joins = (witness.valid path is).0 in
    let at_call = subst (λ p. IsPath recursive_procedure 0 p 2) (is.2 ∙ ap (λ f. f ++ is.1) is.3.1) joins in
    absurd (cc at_call.1)
