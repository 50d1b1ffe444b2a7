use Rattle.std.proofs.Common.{List, ℕ, ◌++◌, codes, decimal, flat_map, ap}
use Rattle.text_pieces.proofs.sinks.Taking.{takes_as, takes_then}
use Rattle.tac_program.specs.Programs.{Program}
use Rattle.text_pieces.specs.Strings.{quoted}
use Rattle.flow_views.specs.Views.{points_in}
use Rattle.dot_texts.proofs.dots.write_cluster.Goals as goal

pub returns : goal.returns
returns g c =
    let program : Program = c.args.shown.now.found.graph.now in
    let first : List ℕ = codes "  subgraph \"cluster_" ++ decimal c.args.procedure ++ codes "\" {\n"
    ++ codes "    id=\"procedure" ++ decimal c.args.procedure ++ codes "\";\n    class=\"procedure\";\n" ++ codes "    label=" in
    let nodes : List ℕ = flat_map (g.F.PointForm.text c.args.form.now c.args.shown.now) (points_in program c.args.procedure) in
    takes_as _ _ _ _
    (takes_then _ _ _ _ _ (takes_then _ _ _ _ _ (takes_then _ _ _ _ _ (takes_then _ _ _ _ _ (takes_then _ _ _ _ _
    (takes_then _ _ _ _ _ (takes_then _ _ _ _ _ (takes_then _ _ _ _ _ (takes_then _ _ _ _ _ (takes_then _ _ _ _ _ c.write.ensures
    c.write_number.ensures)
    c.write-2.ensures)
    c.write-3.ensures)
    c.write_number-2.ensures)
    c.write-4.ensures)
    c.write-5.ensures)
    c.write_quoted.ensures)
    c.write-6.ensures)
    c.write_points.ensures)
    c.write-7.ensures)
    (ap (λ n. first ++ quoted n ++ codes ";\n" ++ nodes ++ codes "  }\n") c.procedure_name.ensures)
