use Rattle.std.proofs.Common.{◌&&◌, ◌||◌, ◌∙◌, Bool, ap, ap₂, not}
use Rattle.gen_kill.specs.code.Effects.{marks}
use Rattle.point_sets.proofs.sets.Passing.{avail_passes}
use Rattle.point_sets.proofs.behind.passes_avail.Goals as goal

pub returns : goal.returns
returns c =
    c.stays.ensures
    ∙ ap₂ (λ (changed evaluated : Bool). not changed && (evaluated || c.args.before)) c.changes-changes.ensures
    (c.is_number-evaluates.ensures ∙ ap (λ told. marks told c.args.bit) c.evaluated.ensures)
    ∙ avail_passes c.args.graph.now c.args.point c.args.bit c.args.before c.expression.result c.expression.ensures
