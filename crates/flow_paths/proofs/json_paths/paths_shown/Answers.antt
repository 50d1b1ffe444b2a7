use Rattle.std.proofs.Common.{◌∙◌}
use Rattle.std.proofs.lemmas.Result.{IfOk-weaker}
use Rattle.flow_paths.proofs.lists.Shown.{shown_uses, shown_witnesses}
use Rattle.flow_paths.proofs.json_paths.paths_shown.Goals as goal

pub of-requires-clause-uses : goal.of-requires-clause-uses
of-requires-clause-uses c =
    shown_uses c.args.shown.now c.requires.shown c.deref.result.now (c.deref.ensures.value ∙ c.in_ok-uses.ensures.uses) c.args.graph.now
    c.requires.program

pub returns : goal.returns
returns c =
    IfOk-weaker c.of.result _ _
    (λ table are. shown_witnesses c.args.shown.now c.requires.shown c.deref.result.now (c.deref.ensures.value ∙ c.in_ok-uses.ensures.uses)
    c.args.graph.now c.requires.program table are)
    c.of.ensures
