use Rattle.std.proofs.Common.{◌≡◌, ℕ, Bool, [], ◌∷◌, ◌++◌, ap, ◌∙◌, sym}
use Rattle.flow_graph.proofs.lists.Ranges.{map-range_more}
use Rattle.flow_reports.specs.code.Findings.{knowledge_of}
use Rattle.flow_lints.proofs.doubt.reached_points.Goals as goal

pub loop-point-preserved : goal.loop-point-preserved
loop-point-preserved c =
    let point : ℕ = c.loop-point.point in
    let flag : ℕ → Bool = (knowledge_of c.args.found.now).reach.has_path in
    let one : c.push.new.self.items ≡ c.loop-point.reached.items ++ c.is_reached.result ∷ [] = c.in_ok-push.ensures.items in
    one
    ∙ ap (λ b. c.loop-point.reached.items ++ b ∷ []) c.is_reached.ensures
    ∙ ap (λ t. t ++ flag point ∷ []) c.loop-point.invariant
    ∙ sym (map-range_more flag point)
