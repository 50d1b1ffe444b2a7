use Rattle.std.proofs.Common.{◌≡◌, ◌∙◌, ℕ, ◌<◌, List, length, get_or, ap, arith}
use Rattle.flow_graph.specs.declared.place.Place.{Place}
use Rattle.flow_graph.proofs.places.PointLemmas.{points_have_places}
use Rattle.tac_program.specs.Programs.{Procedure, Program}
use Rattle.flow_views.specs.Views.{labels_in, labels_of_place}
use Rattle.flow_views.proofs.facts.Tables.{reads_labels}
use Rattle.flow_views.proofs.point_names.labels_of.Goals as goal

pub bounds-procs-place : goal.bounds-procs-place
bounds-procs-place c =
    let program : Program = c.args.graph.now in
    let place = points_have_places program c.args.point c.requires in
    let procs : length c.procs-procs.result.now ≡ length program.procedures =
    ap length (c.procs-procs.ensures.procedures ∙ ap (λ (p : Program). p.procedures) c.program.ensures) in
    omega (arith, place.procedure, ap (λ (at : Place). at.procedure) c.place-place.ensures, procs)

pub returns : goal.returns
returns c =
    let program : Program = c.args.graph.now in
    let at : ℕ = c.place-place.result.procedure in
    let place = points_have_places program c.args.point c.requires in
    let there : at < length program.procedures = omega (arith, place.procedure, ap (λ (p : Place). p.procedure) c.place-place.ensures) in
    let read : c.index-procs-place.result ≡ get_or program.procedures at c.index-procs-place.result =
    c.index-procs-place.is
    ∙ ap (λ (ps : List Procedure). get_or ps at c.index-procs-place.result)
    (c.procs-procs.ensures.procedures ∙ ap (λ (p : Program). p.procedures) c.program.ensures) in
    c.labels_of_place.ensures
    ∙ ap (labels_of_place c.place-place.result.place)
    (reads_labels program at c.index-procs-place.result c.labels.result.now there read c.labels.ensures.labels)
    ∙ ap (λ (p : Place). labels_of_place p.place (labels_in program p.procedure)) c.place-place.ensures
