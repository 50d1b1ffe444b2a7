use Rattle.flow_team.specs.Tables.{facts_of}
use Rattle.std.proofs.Common.{◌≡◌, ◌++◌, ◌∷◌, [], ap, sym, ◌∙◌}
use Rattle.flow_graph.proofs.lists.Ranges.{map-range_more}
use Rattle.flow_rows.proofs.table_answers.flags_in.Goals as goal

pub loop-point-preserved : goal.loop-point-preserved
loop-point-preserved c =
    let point = c.loop-point.point in
    let has = (facts_of c.args.table.now).has_path in
    let one : c.push.new.self.items ≡ c.loop-point.flags.items ++ c.has_path.result ∷ [] = c.in_ok-push.ensures.items in
    one
    ∙ ap (λ b. c.loop-point.flags.items ++ b ∷ []) c.has_path.ensures
    ∙ ap (λ t. t ++ has point ∷ []) c.loop-point.invariant
    ∙ sym (map-range_more has point)
