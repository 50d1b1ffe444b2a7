use Rattle.std.proofs.Common.{◌∙◌, Bool, [], if◌then◌else◌, ap, sym}
use Rattle.flow_views.specs.Json.{remark_object}
use Rattle.text_pieces.proofs.sinks.Taking.{takes_as, takes_nothing}
use Rattle.json_texts.proofs.changes.AloneLineRemarkForm.write_remark.Goals as goal

pub returns-then-stands_together : goal.returns-then-stands_together
returns-then-stands_together g c =
    takes_as _ _ _ _ (takes_nothing _)
    (sym (c.stands_together.ensures c.args.found.now.graph.now c.args.point
    ∙ ap (λ (b : Bool). if b then [] else remark_object c.args.found.now.graph.now c.args.point c.args.remark) c.if-stands_together.true))

pub returns : goal.returns
returns g c =
    takes_as _ _ _ _ c.write_remark.ensures
    (sym (c.stands_together.ensures c.args.found.now.graph.now c.args.point
    ∙ ap (λ (b : Bool). if b then [] else remark_object c.args.found.now.graph.now c.args.point c.args.remark) c.if-stands_together.false))
