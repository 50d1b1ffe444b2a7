use Rattle.std.proofs.Common.{flat_map, ap}
use Rattle.text_pieces.proofs.sinks.Taking.{takes_as}
use Rattle.flow_views.proofs.facts.Known.{remarks_known}
use Rattle.flow_views.proofs.view_program.ViewProgram.write_remarks_at.Goals as goal

pub returns : goal.returns
returns g c =
    takes_as _ _ _ _ c.write_remarks.ensures
    (ap (flat_map (g.F.RemarkForm.text c.args.form.now c.args.self.now.found.graph.now c.args.point))
    (remarks_known c.args.self.now c.requires.shown c.args.point c.requires.point))
