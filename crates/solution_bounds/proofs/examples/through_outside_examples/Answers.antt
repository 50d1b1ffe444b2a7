use Rattle.std.proofs.Common.{◌≡◌, true, false, nat_eq, ◌<◌, [], ◌∷◌, refl, arith}
use Rattle.std.specs.Prelude.{if◌then◌else◌}
use Rattle.summary_equations.specs.Equations.{Reached, Preserved, Entered, root_is_entered, Brought}
use Rattle.summary_equations.specs.Laws.{Passes}
use Rattle.solution_bounds.specs.Bounds.{IsLowerBound}
use Rattle.solution_bounds.specs.Examples.{nested_calls, values_above, among, inner_definition, inner_above, inner_below}
use Rattle.solution_bounds.specs.Witnesses.{Ranks, FollowsPreserved, FollowsGenerated, generated_follows_by_step, generated_follows_by_callee, FollowsBrought}
use Rattle.solution_bounds.proofs.bounds.Bounds.{points_are_bounded}
use Rattle.solution_bounds.proofs.bounds.NestedCalls.{is_well_formed, into_p, out_of_p, into_q, out_of_q, step_of_q, at_call, in_p, in_q, after_call, each}
use Rattle.solution_bounds.proofs.quotients.ExampleTests.{quotient_above}
use Rattle.solution_bounds.proofs.witnesses.Justified.{justified_values_are_below}
use Rattle.solution_bounds.proofs.examples.through_outside_examples.Goals as goal

pub returns-clause-upper : goal.returns-clause-upper
returns-clause-upper c = quotient_above nested_calls inner_definition inner_above is_well_formed refl

abbrev ranks : Ranks
ranks = record { preserved = λ x. 0; generated = λ x. if nat_eq x 6 then 0 else if nat_eq x 4 then 1 else 2; brought = λ p. 0 }

lower : IsLowerBound nested_calls inner_definition inner_below
lower = justified_values_are_below nested_calls inner_definition (among []) (among []) ranks inner_below
    (each (λ p. Preserved nested_calls inner_definition.kill (nested_calls.exit p)) [] tt) (each (Brought nested_calls inner_definition) [] tt) (record {
      reached = each (Reached nested_calls) (1 ∷ 2 ∷ []) (at_call, (after_call, tt));
      entered = each (Entered nested_calls) (0 ∷ []) (root_is_entered, tt);
      preserved = each (λ y. FollowsPreserved nested_calls inner_definition.kill (among []) (λ x. Passes inner_below.preserved x × (0 < 0)) y) [] tt;
      generated = each (λ y. FollowsGenerated nested_calls inner_definition (among []) (Passes inner_below.preserved)
          (λ x. Passes inner_below.generated x × (ranks.generated x < ranks.generated y)) y) (2 ∷ 4 ∷ 6 ∷ []) (
            generated_follows_by_callee 1 1 1 2 into_p out_of_p at_call (refl, omega arith),
            (generated_follows_by_callee 3 3 2 4 into_q out_of_q in_p (refl, omega arith), (generated_follows_by_step 5 6 step_of_q in_q refl, tt)),
          );
      brought = each (λ q. FollowsBrought nested_calls inner_definition (among []) (Passes inner_below.preserved) (Passes inner_below.generated)
          (λ p. Passes inner_below.brought p × (0 < 0)) q) [] tt;
    })

pub returns-clause-lower : goal.returns-clause-lower
returns-clause-lower c = lower

pub returns-clause-after_call : goal.returns-clause-after_call
returns-clause-after_call c = (points_are_bounded nested_calls inner_definition inner_below 2).1 lower refl

pub returns-clause-not_before_call : goal.returns-clause-not_before_call
returns-clause-not_before_call c = λ member.
    let upper = quotient_above nested_calls inner_definition inner_above is_well_formed refl in
    let has : false ≡ true = (points_are_bounded nested_calls inner_definition (values_above inner_above) 1).0 upper member in
    cc has
