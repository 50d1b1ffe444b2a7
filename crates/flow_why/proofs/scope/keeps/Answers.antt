use Rattle.std.proofs.Common.{rules, ◌≡◌, false, slice_index_or, ap, ◌∙◌, subst}
use Rattle.flow_links.specs.Shapes.{directed_shape}
use Rattle.flow_why.specs.code.Found.{Has}
use Rattle.flow_why.specs.code.Frames.{transfer_for}
use Rattle.flow_why.specs.declared.claim.Claim.TheVariants as claim
use Rattle.flow_graph.specs.Points.{point_count}
use Rattle.flow_why.proofs.solutions.Keeping.{clean_keeps}
use Rattle.flow_why.proofs.scope.keeps.Goals as goal

pub returns-then-not-touched-procedure : goal.returns-then-not-touched-procedure
returns-then-not-touched-procedure c has =
    let frame = c.args.frame.now in
    let shape = directed_shape frame.links.now in
    let formed = c.requires.frame.numbered in
    let reached = c.requires.frame.reaches (shape.exit c.args.procedure)
    (subst (λ n. Has frame.base.now claim.Preserved n) c.exit.ensures (c.has.ensures.0 has)) in
    let clean : slice_index_or c.args.touched.now (shape.procedure_of (shape.exit c.args.procedure)) false ≡ false =
    ap (λ p. slice_index_or c.args.touched.now p false) (formed.formed.exit_inside c.args.procedure c.requires.there)
    ∙ search rules in
    clean_keeps shape (transfer_for frame) frame.links.now.backward (point_count frame.links.now.program) formed c.args.touched.now c.requires.kills
    c.requires.closed (shape.exit c.args.procedure) reached clean
