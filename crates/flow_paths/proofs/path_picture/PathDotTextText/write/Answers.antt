use Rattle.std.proofs.Common.{◌∙◌, ap}
use Rattle.text_pieces.proofs.sinks.Taking.{takes_as, takes_then}
use Rattle.flow_views.specs.Dots.{open_dot}
use Rattle.flow_views.specs.code.ViewProgram.{known_of}
use Rattle.flow_paths.specs.Pictures.{marked_dot, path_legend}
use Rattle.flow_paths.specs.code.Doubted.{is_shown}
use Rattle.flow_paths.proofs.path_picture.PathDotTextText.write.Goals as goal

pub returns : goal.returns
returns g c =
    let shown = c.self.inside.shown in
    let picture = takes_then _ _ _ _ _ c.write.ensures c.write_open_dot.ensures in
    let marks = takes_then _ _ _ _ _ (takes_then _ _ _ _ _ picture c.write_path_marks.ensures) c.write_point_mark.ensures in
    takes_as _ _ _ _ (takes_then _ _ _ _ _ (takes_then _ _ _ _ _ marks c.write_path_legend.ensures) c.write-2.ensures)
    (ap (λ hops. marked_dot (is_shown c.self.inside.points) (open_dot shown.found.graph.now (known_of shown) shown.view) hops c.self.inside.one.point
    (path_legend shown.view.look.legend))
    c.hops-hops.ensures ∙ c.self.view_is)
