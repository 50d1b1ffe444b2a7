use Rattle.std.proofs.Common.{[], ◌∷◌, refl}
use Rattle.flow_graph.specs.Analyses.{shape_of}
use Rattle.checked_examples.specs.ProgramExamples.{may_loop}
use Rattle.flow_graph.specs.declared.edge.Edge.TheVariants.{Step}
use Rattle.flow_graph.proofs.graphs.ExampleLemmas.{path_is}
use Rattle.checked_examples.proofs.text_examples.doubt_examples.Goals as goal

pub returns-clause-not_safe : goal.returns-clause-not_safe
returns-clause-not_safe c safe =
    let path = Step 1 3 ∷ [] in
    safe (path, 3, (path_is (shape_of may_loop) 1 path 3 refl, refl), refl, refl)
