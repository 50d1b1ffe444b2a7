use Rattle.std.proofs.Common.{◌≡◌, ◌+◌, ◌∷◌, [], ◌++◌, ℕ, Some, flat_map, append_assoc, append-nil, ap, ◌∙◌, sym}
use Rattle.std.specs.List.{range_with_len}
use Rattle.flow_graph.specs.Universes.{definition_at, dummies}
use Rattle.flow_graph.proofs.lists.Ranges.{flat_map-range_more}
use Rattle.flow_graph.proofs.bits.Added.{added}
use Rattle.flow_graph.proofs.universes.definitions.Goals as goal
use Rattle.flow_graph.proofs.universes.definitions.Goals.{in-Some+in_ok-push-in-Some, in-None}

pub loop-point-preserved : goal.loop-point-preserved
loop-point-preserved c =
    let program = c.args.points.now in
    let n : ℕ = c.loop-point.point in
    let after : dummies program ++ flat_map (definition_at program) (range_with_len 0 (n + 1))
    ≡ (dummies program ++ flat_map (definition_at program) (range_with_len 0 n)) ++ definition_at program n =
    ap (λ ds. dummies program ++ ds) (flat_map-range_more (definition_at program) n)
    ∙ sym (append_assoc (dummies program) (flat_map (definition_at program) (range_with_len 0 n)) (definition_at program n)) in
    elim c.match-target_of_point.branch [
      | in-Some+in_ok-push-in-Some w ↦
          let here : definition_at program n ≡ (w.in-Some.variable, Some n) ∷ [] = ap (added n) (sym c.target_of_point.ensures ∙ w.in-Some.is) in
          ap (λ v. v.items) w.definitions-is
          ∙ w.in_ok-push-in-Some.ensures.items
          ∙ ap (λ ds. ds ++ (w.in-Some.variable, Some n) ∷ []) c.loop-point.invariant
          ∙ ap (λ ds. (dummies program ++ flat_map (definition_at program) (range_with_len 0 n)) ++ ds) (sym here)
          ∙ sym after
      | in-None w ↦
          let here : definition_at program n ≡ [] = ap (added n) (sym c.target_of_point.ensures ∙ w.in-None.is) in
          ap (λ v. v.items) w.definitions-is
          ∙ c.loop-point.invariant
          ∙ sym (append-nil (dummies program ++ flat_map (definition_at program) (range_with_len 0 n)))
          ∙ ap (λ ds. (dummies program ++ flat_map (definition_at program) (range_with_len 0 n)) ++ ds) (sym here)
          ∙ sym after
    ]
