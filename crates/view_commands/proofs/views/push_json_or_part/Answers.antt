use Rattle.std.proofs.Common.{Option, sym, subst}
use Rattle.flow_runs.proofs.deliveries.Deliveries.{delivers_as}
use Rattle.part_texts.specs.Shares.{some_share}
use Rattle.part_texts.specs.declared.share.Share.{Share}
use Rattle.view_commands.specs.Views.{IsJsonOrPart}
use Rattle.view_commands.proofs.views.push_json_or_part.Goals as goal

pub returns-in-None-clause-delivers : goal.returns-in-None-clause-delivers
returns-in-None-clause-delivers g c =
    delivers_as _ _ _ _ c.push_json.result
    (λ out is. subst (λ (share : Option Share).
    IsJsonOrPart (some_share share) c.args.shown.digest.now c.args.shown.source.now c.args.graph.now c.args.shown.view out)
    (sym c.in-None.is) is)
    c.push_json.ensures.delivers
