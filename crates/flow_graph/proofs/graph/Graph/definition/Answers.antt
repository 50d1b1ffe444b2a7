use Rattle.std.proofs.Common.{◌≡◌, ◌<◌, length, slice_get, Some, refl, subst, sym, ap, ◌∙◌}
use Rattle.std.proofs.lemmas.Option.{slice_get_read}
use Rattle.flow_graph.specs.Universes.{definitions as definitions_of}
use Rattle.flow_graph.proofs.bits.DefinitionRanges.{definitions_there}
use Rattle.tac_program.specs.Sound.{IsSound}
use Rattle.flow_graph.proofs.graph.Graph.definition.Goals as goal

pub returns-clause-there : goal.returns-clause-there
returns-clause-there c =
    let same = c.self.invariant.1 ∙ ap definitions_of c.self.view_is in
    let below = subst (λ ds. c.args.bit < length ds) (sym same) c.requires in
    let at = slice_get_read c.self.inside.definitions.items (length c.self.inside.definitions.items)
    c.args.bit c.index.result.now refl below c.index.ensures in
    definitions_there c.args.self.now c.args.bit c.index.result.now (subst IsSound c.program.ensures c.procs.ensures.sound)
    (subst (λ ds. slice_get ds c.args.bit ≡ Some c.index.result.now) same at)
