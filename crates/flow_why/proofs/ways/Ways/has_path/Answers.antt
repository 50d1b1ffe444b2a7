use Rattle.std.proofs.Common.{◌<◌, ◌≡◌, ◌↔◌, true, sym, subst}
use Rattle.flow_graph.specs.Paths.{HasPath}
use Rattle.flow_graph.specs.Points.{point_count}
use Rattle.flow_links.specs.Shapes.{directed_shape}
use Rattle.flow_why.specs.code.Ways.{KnownWays}
use Rattle.flow_why.specs.declared.claim.Claim.TheVariants as claim
use Rattle.flow_why.proofs.solutions.Frames.{leads_there}
use Rattle.flow_why.proofs.ways.Ways.has_path.Goals as goal

pub has-requires : goal.has-requires
has-requires c =
    subst (λ n. c.args.point < n) (sym (c.self.invariant.marks.each claim.Holds).points)
    (subst (λ (w : KnownWays). c.args.point < point_count w.linked.program) (sym c.self.view_is) c.requires)

pub returns : goal.returns
returns c =
    let here = c.self.inside in
    subst (λ (w : KnownWays). (c.has.result ≡ true) ↔ HasPath (directed_shape w.linked) c.args.point) c.self.view_is
    (leads_there (record { linked = here.links; found = here.search }) c.self.invariant c.args.point c.has.result c.has.ensures)
