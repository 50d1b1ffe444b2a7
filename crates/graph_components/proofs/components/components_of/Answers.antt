use Rattle.std.proofs.Common.{◌∙◌, ℕ, List, subst, sym}
use Rattle.graph_components.specs.Components.{AreComponents}
use Rattle.graph_components.specs.code.Levels.{AreLevels, is_level}
use Rattle.graph_components.specs.declared.arc.Arc.{Arc}
use Rattle.graph_components.proofs.walks.Inner.{whole_components}
use Rattle.graph_components.proofs.walks.Within.{filtered_within}
use Rattle.graph_components.proofs.components.components_of.Goals as goal

pub components_of_inner-requires-clause-within : goal.components_of_inner-requires-clause-within
components_of_inner-requires-clause-within c =
    filtered_within c.args.nodes (is_level c.as_slice.result.now) c.args.arcs.now c.as_slice-2.result.now
    (c.as_slice-2.ensures.value ∙ c.in_ok-inner.ensures) c.requires.within

pub returns : goal.returns
returns c =
    let levels : AreLevels c.args.arcs.now c.args.nodes c.as_slice.result.now =
    subst (λ (xs : List ℕ). AreLevels c.args.arcs.now c.args.nodes xs) (sym c.as_slice.ensures.value) c.in_ok-levels.ensures in
    whole_components c.args.arcs.now c.as_slice.result.now c.args.nodes levels c.in_ok-numbers.numbers.items
    (subst (λ (arcs : List Arc). AreComponents arcs c.args.nodes c.in_ok-numbers.numbers.items)
    (c.as_slice-2.ensures.value ∙ c.in_ok-inner.ensures) c.in_ok-numbers.ensures)
