use Rattle.std.proofs.Common.{ℕ, Option, [], ◌∷◌, ◌++◌, false, get_or, ap, ◌∙◌, sym}
use Rattle.flow_graph.proofs.lists.Ranges.{map-range_more}
use Rattle.doubt_origins.specs.code.Tracing.{own_origin}
use Rattle.doubt_origins.proofs.tracing.own_origins.Goals as goal

pub loop-point-preserved : goal.loop-point-preserved
loop-point-preserved c =
    let point : ℕ = c.loop-point.point in
    let own : ℕ → Option ℕ = λ p. own_origin (get_or c.args.endless.now p false) p in
    c.in_ok-push.ensures.items
    ∙ ap (λ o. c.loop-point.origins.items ++ o ∷ []) c.own_origin.ensures
    ∙ ap (λ t. t ++ own point ∷ []) c.loop-point.invariant
    ∙ sym (map-range_more own point)
