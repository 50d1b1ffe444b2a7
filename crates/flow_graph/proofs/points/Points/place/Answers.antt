use Rattle.std.proofs.Common.{◌≡◌, ◌-◌, ◌<◌, vec_len, rules, length, sym, subst}
use Rattle.tac_program.specs.Programs.{Program}
use Rattle.flow_graph.specs.Points.{point_count, place_of}
use Rattle.flow_graph.proofs.places.PlaceTables.{found, procedure_found}
use Rattle.flow_graph.proofs.points.Points.place.Goals as goal

pub index-requires : goal.index-requires
index-requires c =
    let below : c.args.point < point_count c.self.inside.program.now =
    subst (λ (p : Program). c.args.point < point_count p) (sym c.self.view_is) c.requires in
    let len : vec_len c.self.inside.firsts ≡ length c.self.inside.firsts.items = search rules in
    rw len (procedure_found c.self.inside.program.now c.self.inside.firsts.items c.self.inside.procedures.items c.args.point
    c.index-procedure.result.now c.self.invariant.1 c.self.invariant.2 below c.index-procedure.ensures).1

pub overflow_sub-result : goal.overflow_sub-result
overflow_sub-result c =
    let below : c.args.point < point_count c.self.inside.program.now =
    subst (λ (p : Program). c.args.point < point_count p) (sym c.self.view_is) c.requires in
    (found c.self.inside.program.now c.self.inside.firsts.items c.self.inside.procedures.items c.args.point c.index-procedure.result.now
    c.index.result.now c.self.invariant.1 c.self.invariant.2 below c.index-procedure.ensures c.index.ensures).first

pub returns : goal.returns
returns c =
    let below : c.args.point < point_count c.self.inside.program.now =
    subst (λ (p : Program). c.args.point < point_count p) (sym c.self.view_is) c.requires in
    let is = found c.self.inside.program.now c.self.inside.firsts.items c.self.inside.procedures.items c.args.point c.index-procedure.result.now
    c.index.result.now c.self.invariant.1 c.self.invariant.2 below c.index-procedure.ensures c.index.ensures in
    subst (λ (p : Program). record { procedure = c.index-procedure.result.now; place = c.args.point - c.index.result.now } ≡ place_of p c.args.point)
    c.self.view_is is.place
