use Rattle.std.proofs.Common.{◌<◌, length, subst, sym}
use Rattle.flow_graph.proofs.places.PointLemmas.{points_have_places}
use Rattle.gk_solve_tests.proofs.tables.write_place.Goals as goal

pub procedure-requires : goal.procedure-requires
procedure-requires c =
    let graph = c.args.graph.now in
    let below = (points_have_places graph c.args.point c.requires).procedure in
    let among = subst (λ place. place.procedure < length graph.procedures) (sym c.place-place.ensures) below in
    let program = subst (λ p. c.place-place.result.procedure < length p.procedures) (sym c.program-program.ensures) among in
    subst (λ n. c.place-place.result.procedure < n) (sym c.procs.ensures.sound.named) program
