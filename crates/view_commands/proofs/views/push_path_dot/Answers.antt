use Rattle.std.proofs.Common.{◌≡◌, List, ℕ, Option, Some, None, refl, sym, subst}
use Rattle.std.specs.Prelude.{MatchOption}
use Rattle.flow_runs.proofs.deliveries.Deliveries.{delivers_as, no_graph_fault}
use Rattle.flow_paths.specs.Pictures.{IsDotWithPath, LacksUse}
use Rattle.view_commands.proofs.views.push_path_dot.Goals as goal

pub returns-clause-delivers : goal.returns-clause-delivers
returns-clause-delivers g c =
    let program = c.args.graph.now in
    let place : List ℕ = c.args.place.now in
    let is : IsDotWithPath program c.args.view place c.in-Some.text =
    subst (λ (found : Option (List ℕ)). MatchOption found (LacksUse program c.args.view place) (IsDotWithPath program c.args.view place))
    c.in-Some.is c.in_ok-text.ensures in
    delivers_as _ _ _ _ c.push_text.result (λ out same. subst (λ (t : List ℕ). IsDotWithPath program c.args.view place t) (sym same) is)
    c.push_text.ensures.delivers

pub returns-clause-fault : goal.returns-clause-fault
returns-clause-fault g c =
    no_graph_fault (λ _. ⊥) ⊥ (LacksUse c.args.graph.now c.args.view c.args.place.now) ⊥ c.push_text.result (λ none. absurd none)
    c.push_text.ensures.fault

-- what is told where there is no text
lacking : (P : Type 0) (Q : List ℕ → Type 0) (found : Option (List ℕ)) → ((text : List ℕ) → found ≡ Some text → ⊥) → MatchOption found P Q → P
lacking P Q None none told = told
lacking P Q (Some text) none told = absurd (none text refl)

pub returns-in_default-clause-fault : goal.returns-in_default-clause-fault
returns-in_default-clause-fault g c = lacking _ _ c.in_ok-text.field-0 c.in_default.not-Some c.in_ok-text.ensures
