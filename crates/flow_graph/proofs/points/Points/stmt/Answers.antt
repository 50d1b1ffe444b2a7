use Rattle.std.proofs.Common.{◌≡◌, ◌<◌, length, slice_get, option_map, unwrap_or, Some, [], get_or, refl, ap, ap₂, ◌∙◌, sym}
use Rattle.std.proofs.lemmas.Option.{slice_get_read}
use Rattle.tac_program.specs.Programs.{Program, Procedure}
use Rattle.flow_graph.specs.Points.{Place, place_of, statements_of}
use Rattle.flow_graph.specs.ProgramLaws.{IsPlaceOf}
use Rattle.flow_graph.proofs.places.PlaceTables.{copied_is_get}
use Rattle.flow_graph.proofs.places.PointLemmas.{points_have_places}
use Rattle.flow_graph.proofs.points.Points.stmt.Goals as goal

pub bounds-procs-place : goal.bounds-procs-place
bounds-procs-place c =
    let there : (place_of c.args.self.now c.args.point).procedure < length c.args.self.now.procedures =
    (points_have_places c.args.self.now c.args.point c.requires).procedure in
    let same : c.place-place.result.procedure ≡ (place_of c.args.self.now c.args.point).procedure =
    ap (λ (at : Place). at.procedure) c.place-place.ensures in
    let procs : c.procs.result.now ≡ c.args.self.now.procedures = c.procs.ensures.procedures ∙ ap (λ (p : Program). p.procedures) c.self.view_is in
    rw (same, procs) there

pub returns-clause-stmt : goal.returns-clause-stmt
returns-clause-stmt c =
    let at : Place = place_of c.args.self.now c.args.point in
    let place : IsPlaceOf c.args.self.now c.args.point = points_have_places c.args.self.now c.args.point c.requires in
    let same : c.place-place.result ≡ at = c.place-place.ensures in
    let procs : c.procs.result.now ≡ c.args.self.now.procedures = c.procs.ensures.procedures ∙ ap (λ (p : Program). p.procedures) c.self.view_is in
    let element : slice_get c.args.self.now.procedures at.procedure ≡ Some c.index-procs-place.result =
    slice_get_read c.args.self.now.procedures _ at.procedure c.index-procs-place.result refl place.procedure
    (c.index-procs-place.is ∙ ap₂ (λ xs i. get_or xs i c.index-procs-place.result) procs (ap (λ (at : Place). at.procedure) same)) in
    let statements : c.stmts.result.now ≡ statements_of c.args.self.now at.procedure =
    c.stmts.ensures ∙ sym (ap (λ o. unwrap_or (option_map (λ (p : Procedure). p.statements) o) []) element) in
    copied_is_get c.get.result c.stmts.result.now c.place-place.result.place c.get.ensures.lookup.0 c.get.ensures.lookup.1
    ∙ ap₂ slice_get statements (ap (λ (at : Place). at.place) same)
