use Rattle.std.proofs.Common.{◌∙◌}
use Rattle.flow_views.proofs.facts.Known.{flag_known}
use Rattle.json_texts.proofs.changes.is_reached.Goals as goal

pub returns : goal.returns
returns c = c.is_reached.ensures ∙ flag_known c.args.shown.now c.requires.shown c.args.point c.requires.point
