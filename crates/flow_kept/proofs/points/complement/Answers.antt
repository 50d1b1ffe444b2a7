use Rattle.std.proofs.Common.{◌∙◌, ℕ, [], ◌∷◌, ◌++◌, Bool, false, not, sym, ap}
use Rattle.std.specs.Prelude.{slice_index_or}
use Rattle.flow_graph.proofs.lists.Ranges.{map-range_more}
use Rattle.flow_kept.proofs.points.complement.Goals as goal

pub loop-point-preserved : goal.loop-point-preserved
loop-point-preserved c =
    let other : ℕ → Bool = λ point. not (slice_index_or c.args.values.now point false) in
    c.in_ok-push.ensures.items
    ∙ ap (λ bs. bs ++ other c.loop-point.point ∷ []) c.loop-point.invariant
    ∙ sym (map-range_more other c.loop-point.point)
