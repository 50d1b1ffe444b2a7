use Rattle.std.proofs.Common.{◌+◌, ◌<◌, ◌≤◌, rules, length, sym, subst, arith}
use Rattle.tac_program.specs.Programs.{Program}
use Rattle.flow_graph.specs.Points.{point_count, end_place}
use Rattle.flow_graph.proofs.places.PlaceTables.{point_fits}
use Rattle.flow_graph.proofs.points.Points.point.Goals as goal
use Rattle.tac_program.specs.Limits.{most_points}
use Rattle.tac_program.specs.declared.limits.Limits.TheVariants.{Large}

pub overflow_add-result : goal.overflow_add-result
overflow_add-result c =
    let there : c.args.procedure < length c.self.inside.program.now.procedures =
    subst (λ (p : Program). c.args.procedure < length p.procedures) (sym c.self.view_is) c.requires.procedure in
    let within : c.args.place ≤ end_place c.self.inside.program.now c.args.procedure =
    subst (λ (p : Program). c.args.place ≤ end_place p c.args.procedure) (sym c.self.view_is) c.requires.place in
    let fits : c.index.result.now + c.args.place < point_count c.self.inside.program.now =
    point_fits c.self.inside.program.now c.self.inside.firsts.items c.args.procedure c.args.place c.index.result.now c.self.invariant.1 there within
    c.index.ensures in
    let few : point_count c.self.inside.program.now ≤ most_points Large = c.self.invariant.0 in
    let below : c.index.result.now + c.args.place < 4294967296 = omega arith in
    search rules
