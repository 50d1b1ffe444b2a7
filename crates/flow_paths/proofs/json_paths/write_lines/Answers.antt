use Rattle.std.proofs.Common.{Bool, ap, sym}
use Rattle.text_pieces.proofs.sinks.Taking.{takes_as}
use Rattle.doubt_origins.specs.Origins.{origins_in}
use Rattle.flow_views.specs.code.ViewProgram.{known_of}
use Rattle.flow_paths.specs.Paths.{remark_with_path}
use Rattle.flow_paths.specs.code.Lined.{rest_with}
use Rattle.flow_paths.specs.code.Arounds.{around_at, sets_of}
use Rattle.flow_paths.specs.code.UnsetPaths.{hops_at}
use Rattle.flow_paths.proofs.json_paths.write_lines.Goals as goal

pub returns-then-changes : goal.returns-then-changes
returns-then-changes g c =
    let shown = c.args.shown.now in
    let object = remark_with_path (hops_at c.args.form.now.paths.now) (sets_of (around_at c.args.form.now.arounds.now)) in
    takes_as _ _ _ _ c.write_differences.ensures
    (ap (λ (changes : Bool). rest_with changes (origins_in c.args.origins.now) object shown.found.graph.now (known_of shown) shown.view)
    (sym c.if-changes.true))

pub returns-else-changes : goal.returns-else-changes
returns-else-changes g c =
    let shown = c.args.shown.now in
    let object = remark_with_path (hops_at c.args.form.now.paths.now) (sets_of (around_at c.args.form.now.arounds.now)) in
    takes_as _ _ _ _ c.write_sets.ensures
    (ap (λ (changes : Bool). rest_with changes (origins_in c.args.origins.now) object shown.found.graph.now (known_of shown) shown.view)
    (sym c.if-changes.false))
