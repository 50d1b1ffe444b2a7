use Rattle.std.proofs.Common.{◌≡◌, ◌∙◌, ℕ, ◌<◌, List, length, get_or, ap, arith}
use Rattle.flow_graph.specs.declared.place.Place.{Place}
use Rattle.flow_graph.proofs.places.PointLemmas.{points_have_places}
use Rattle.tac_program.specs.Programs.{Procedure, Program}
use Rattle.tac_program.specs.Names.{name_at}
use Rattle.tac_listing.specs.Listings.{names_in}
use Rattle.flow_views.proofs.facts.Tables.{reads_label_names}
use Rattle.flow_views.proofs.point_names.name_of_label.Goals as goal

pub bounds-procs-place : goal.bounds-procs-place
bounds-procs-place c =
    let program : Program = c.args.graph.now in
    let place = points_have_places program c.args.point c.requires in
    let procs : length c.procs-procs.result.now ≡ length program.procedures =
    ap length (c.procs-procs.ensures.procedures ∙ ap (λ (p : Program). p.procedures) c.program.ensures) in
    omega (arith, place.procedure, ap (λ (at : Place). at.procedure) c.place-place.ensures, procs)

pub returns : goal.returns
returns c =
    let program : Program = c.args.graph.now in
    let at : ℕ = c.place-place.result.procedure in
    let place = points_have_places program c.args.point c.requires in
    let there : at < length program.procedures = omega (arith, place.procedure, ap (λ (p : Place). p.procedure) c.place-place.ensures) in
    let read : c.index-procs-place.result ≡ get_or program.procedures at c.index-procs-place.result =
    c.index-procs-place.is
    ∙ ap (λ (ps : List Procedure). get_or ps at c.index-procs-place.result)
    (c.procs-procs.ensures.procedures ∙ ap (λ (p : Program). p.procedures) c.program.ensures) in
    c.name_or_empty.ensures
    ∙ ap (λ (names : List (List ℕ)). name_at names c.args.label.name)
    (reads_label_names program at c.index-procs-place.result c.label_names.result.now there read c.label_names.ensures)
    ∙ ap (λ (p : Place). name_at (names_in program p.procedure).labels c.args.label.name) c.place-place.ensures
