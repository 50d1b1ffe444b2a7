use Rattle.std.proofs.Common.{◌≡◌, List, ℕ, ◌++◌, codes, decimal, ap, ◌∙◌, arith}
use Rattle.flow_graph.specs.Points.{procedure_at}
use Rattle.flow_graph.specs.declared.place.Place.{Place}
use Rattle.flow_graph.proofs.places.PointLemmas.{points_have_places}
use Rattle.text_pieces.proofs.sinks.Taking.{takes_as, takes_then}
use Rattle.tac_program.specs.Programs.{Program}
use Rattle.text_pieces.specs.Strings.{quoted}
use Rattle.flow_views.specs.Views.{procedure_name}
use Rattle.json_texts.proofs.outlines.write_point_place.Goals as goal

pub name_of_procedure-requires : goal.name_of_procedure-requires
name_of_procedure-requires g c =
    let place = points_have_places c.args.graph.now c.args.point c.requires.point in
    omega (arith, place.procedure, ap (λ (at : Place). at.procedure) c.place-place.ensures)

pub returns : goal.returns
returns g c =
    let program : Program = c.args.graph.now in
    let first : List ℕ = codes "{\"type\":\"point\",\"point\":" ++ decimal c.args.point ++ codes ",\"procedure\":" in
    let named : c.name_of_procedure.result.now ≡ procedure_name program (procedure_at program c.args.point) =
    c.name_of_procedure.ensures ∙ ap (λ (at : Place). procedure_name program at.procedure) c.place-place.ensures in
    takes_as _ _ _ _ (takes_then _ _ _ _ _ (takes_then _ _ _ _ _ (takes_then _ _ _ _ _ (takes_then _ _ _ _ _ (takes_then _ _ _ _ _
    c.write.ensures c.write_number.ensures) c.write-2.ensures) c.write_quoted.ensures)
    c.write-3.ensures) c.write_number-2.ensures)
    (ap (λ n. first ++ quoted n ++ codes ",\"place\":" ++ decimal c.place-place.result.place) named
    ∙ ap (λ (at : Place). first ++ quoted (procedure_name program (procedure_at program c.args.point)) ++ codes ",\"place\":" ++ decimal at.place)
    c.place-place.ensures)
