use Rattle.std.proofs.Common.{◌≡◌, ◌∙◌, ◌<◌, ℕ, List, slice_index_or, sym, ap, subst}
use Rattle.flow_graph.specs.Points.{procedure_at}
use Rattle.flow_graph.specs.declared.place.Place.{Place}
use Rattle.flow_graph.proofs.places.PointLemmas.{points_have_places}
use Rattle.busy_bounds.specs.code.Kept.{IsPointSet, IsProcedureSet, busy_shape}
use Rattle.busy_bounds.specs.declared.bound.Bound.{Bound}
use Rattle.busy_bounds.specs.declared.bound.Bound.TheVariants.{Unknown}
use Rattle.busy_bounds.proofs.sets_left.Leaving.{in_one_of}
use Rattle.tac_program.specs.Programs.{Program}
use Rattle.busy_bounds.proofs.busy_bounds.sets_at.Goals as goal

pub returns-clause-one : goal.returns-clause-one
returns-clause-one c = λ bit low table.
    let program : Program = c.args.graph.now in
    let sets = c.requires.sets in
    let items : List ℕ = c.args.items.now in
    let point : ℕ = c.args.point in
    let procedure : c.place-procedure.result.procedure ≡ procedure_at program point = ap (λ (p : Place). p.procedure) c.place-procedure.ensures in
    let here : IsPointSet program items point c.bound_at.result =
    subst (λ (b : Bound). IsPointSet program items point b) (sym c.bound_at.ensures) (sets.of_points.each point c.requires.point) in
    let there : procedure_at program point < (busy_shape program).procedures =
    (points_have_places program point c.requires.point).procedure in
    let brought : IsProcedureSet program items (procedure_at program point) c.bound_at-2.result =
    subst (λ (b : Bound). IsProcedureSet program items (procedure_at program point) b)
    (ap (λ p. slice_index_or c.args.procedures.now p Unknown) (sym procedure) ∙ sym c.bound_at-2.ensures)
    (sets.of_procedures.each (procedure_at program point) there) in
    in_one_of program items point bit c.bound_at.result c.bound_at-2.result sets.formed low here brought table
