use Rattle.std.proofs.Common.{◌≡◌, ℕ, Bool, true, false, nat_eq, ◌<◌, [], ◌∷◌, refl, arith}
use Rattle.std.specs.Prelude.{if◌then◌else◌}
use Rattle.summary_equations.specs.Equations.{Reached, Entered, root_is_entered, Brought}
use Rattle.summary_equations.specs.Laws.{Passes}
use Rattle.solution_bounds.specs.Bounds.{IsLowerBound}
use Rattle.solution_bounds.specs.Examples.{nested_calls, values_above, among, lasting_definition, lasting_above, lasting_below}
use Rattle.solution_bounds.specs.Witnesses.{Way, way_begins, way_by_step, way_by_call, ranked_below, HaveWaysThrough, Ranks, FollowsPreserved, FollowsGenerated}
use Rattle.solution_bounds.specs.Witnesses.{generated_follows_by_step, generated_follows_by_way, FollowsBrought}
use Rattle.solution_bounds.proofs.bounds.Bounds.{points_are_bounded}
use Rattle.solution_bounds.proofs.bounds.NestedCalls.{is_well_formed, into_p, out_of_p, into_q, out_of_q, first_step, step_of_q, at_beginning, after_call, each}
use Rattle.solution_bounds.proofs.quotients.ExampleTests.{quotient_above}
use Rattle.solution_bounds.proofs.witnesses.Justified.{justified_values_are_below}
use Rattle.solution_bounds.proofs.witnesses.Ways.{ways_preserve}
use Rattle.solution_bounds.proofs.examples.settled_examples.Goals as goal

pub returns-clause-upper : goal.returns-clause-upper
returns-clause-upper c = quotient_above nested_calls lasting_definition lasting_above is_well_formed refl

-- p and q have ways through them, that of p by q's
through : ℕ → Bool
through = among (1 ∷ 2 ∷ [])

abbrev rank : ℕ → ℕ
rank p = if nat_eq p 1 then 1 else 0

abbrev HasWay : ℕ → Type 0
HasWay p = (p < 3) × Way nested_calls lasting_definition.kill (ranked_below through rank p) (nested_calls.entry p) (nested_calls.exit p)

ways : HaveWaysThrough nested_calls lasting_definition.kill through rank
unfolding through
ways = each HasWay (1 ∷ 2 ∷ [])
    ((omega arith, way_by_call 3 3 2 4 into_q out_of_q refl way_begins), ((omega arith, way_by_step 5 6 step_of_q refl way_begins), tt))

abbrev ranks : Ranks
ranks = record { preserved = λ x. 0; generated = λ x. x; brought = λ p. 0 }

lower : IsLowerBound nested_calls lasting_definition lasting_below
unfolding through
lower = justified_values_are_below nested_calls lasting_definition through (among []) ranks lasting_below
    (ways_preserve nested_calls lasting_definition.kill through rank ways) (each (Brought nested_calls lasting_definition) [] tt) (record {
      reached = each (Reached nested_calls) (0 ∷ 2 ∷ []) (at_beginning, (after_call, tt));
      entered = each (Entered nested_calls) (0 ∷ []) (root_is_entered, tt);
      preserved = each (λ y. FollowsPreserved nested_calls lasting_definition.kill through (λ x. Passes lasting_below.preserved x × (0 < 0)) y) [] tt;
      generated = each (λ y. FollowsGenerated nested_calls lasting_definition through (Passes lasting_below.preserved)
          (λ x. Passes lasting_below.generated x × (x < y)) y) (1 ∷ 2 ∷ []) (
            generated_follows_by_step 0 1 first_step at_beginning refl,
            (generated_follows_by_way 1 2 (refl, omega arith) (way_by_call 1 1 1 2 into_p out_of_p refl way_begins), tt),
          );
      brought = each (λ q. FollowsBrought nested_calls lasting_definition (among []) (Passes lasting_below.preserved) (Passes lasting_below.generated)
          (λ p. Passes lasting_below.brought p × (0 < 0)) q) [] tt;
    })

pub returns-clause-lower : goal.returns-clause-lower
returns-clause-lower c = lower

pub returns-clause-after_call : goal.returns-clause-after_call
returns-clause-after_call c = (points_are_bounded nested_calls lasting_definition lasting_below 2).1 lower refl

pub returns-clause-not_at_beginning : goal.returns-clause-not_at_beginning
returns-clause-not_at_beginning c = λ member.
    let upper = quotient_above nested_calls lasting_definition lasting_above is_well_formed refl in
    let has : false ≡ true = (points_are_bounded nested_calls lasting_definition (values_above lasting_above) 0).0 upper member in
    cc has
