use Rattle.std.proofs.Common.{rules, ◌≡◌, ◌<◌, ◌≤◌, ◌++◌, List, length, vec_len, None, OnOk, option_copied, sym, ap, ◌∙◌, subst, arith}
use Rattle.std.proofs.lemmas.List.{length-map}
use Rattle.tac_program.specs.Programs.{Program}
use Rattle.flow_graph.specs.Paths.{Edge}
use Rattle.flow_graph.specs.Edges.{edges_from}
use Rattle.flow_graph.specs.Points.{Place, point_count, procedure_at, statement_at}
use Rattle.flow_graph.proofs.places.PointLemmas.{points_have_places}
use Rattle.flow_graph.proofs.edges.SuccessorLemmas.{reads_sites}
use Rattle.flow_graph.proofs.graph.Graph.put_succ.Goals as goal
use Rattle.tac_program.specs.Limits.{most_points}
use Rattle.tac_program.specs.declared.limits.Limits.TheVariants.{Large}

pub index-requires : goal.index-requires
index-requires g c =
    let below : c.args.point < point_count c.self.inside.points =
    subst (λ (p : Program). c.args.point < point_count p) (sym c.self.view_is) c.requires.point in
    let place = points_have_places c.self.inside.points c.args.point below in
    let same : c.place-procedure.result.procedure ≡ procedure_at c.self.inside.points c.args.point =
    ap (λ (at : Place). at.procedure) c.place-procedure.ensures in
    let len : vec_len c.self.inside.sites ≡ length c.self.inside.sites.items = search rules in
    omega (arith, len, place.procedure, same, c.self.invariant.4.count, length-map c.self.inside.sites.items (λ list. list.items))

pub put_returns-requires : goal.put_returns-requires
put_returns-requires g c =
    let below : c.args.point < point_count c.self.inside.points =
    subst (λ (p : Program). c.args.point < point_count p) (sym c.self.view_is) c.requires.point in
    let same : c.place-procedure.result.procedure ≡ procedure_at c.self.inside.points c.args.point =
    ap (λ (at : Place). at.procedure) c.place-procedure.ensures in
    let sites = reads_sites c.self.inside.points c.self.inside.sites.items c.args.point c.place-procedure.result.procedure c.index.result.now
    c.as_slice.result.now c.self.invariant.4 below same c.index.ensures c.as_slice.ensures in
    let few : point_count c.self.inside.points ≤ most_points Large = c.count.ensures.few in
    λ k d inside. omega (arith, sites.few k d inside, few)

pub returns-in-None : goal.returns-in-None
returns-in-None g c =
    let listed = g.E.EdgeList.listed in
    let none : statement_at c.self.inside.points c.args.point ≡ None =
    subst (λ (p : Program). statement_at p c.args.point ≡ None) (sym c.self.view_is) (sym c.requires.stmt ∙ ap option_copied c.in-None.is) in
    let below : c.args.point < point_count c.self.inside.points =
    subst (λ (p : Program). c.args.point < point_count p) (sym c.self.view_is) c.requires.point in
    let same : c.place-procedure.result.procedure ≡ procedure_at c.self.inside.points c.args.point =
    ap (λ (at : Place). at.procedure) c.place-procedure.ensures in
    let sites = reads_sites c.self.inside.points c.self.inside.sites.items c.args.point c.place-procedure.result.procedure c.index.result.now
    c.as_slice.result.now c.self.invariant.4 below same c.index.ensures c.as_slice.ensures in
    subst (λ (p : Program). OnOk c.put_returns.result (listed c.put_returns.new.edges ≡ listed c.args.edges.now ++ edges_from p c.args.point))
    c.self.view_is
    (subst (λ (es : List Edge). OnOk c.put_returns.result (listed c.put_returns.new.edges ≡ listed c.args.edges.now ++ es)) (sites.returns none)
    c.put_returns.ensures)
