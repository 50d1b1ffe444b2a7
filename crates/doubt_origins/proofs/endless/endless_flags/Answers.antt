use Rattle.std.proofs.Common.{◌≡◌, ℕ, Bool, [], ◌∷◌, ◌++◌, not, ap, ◌∙◌, sym}
use Rattle.flow_graph.proofs.lists.Ranges.{map-range_more}
use Rattle.flow_graph.specs.declared.analysis.Analysis.TheVariants.{Live}
use Rattle.report_answers.specs.code.Answered.{facts_in}
use Rattle.doubt_origins.proofs.endless.endless_flags.Goals as goal

pub loop-point-preserved : goal.loop-point-preserved
loop-point-preserved c =
    let point : ℕ = c.loop-point.point in
    let endless : ℕ → Bool = λ p. not ((facts_in c.args.answers.now.replies Live).has_path p) in
    let one : c.push.new.self.items ≡ c.loop-point.endless.items ++ not c.has_path.result ∷ [] = c.in_ok-push.ensures.items in
    one
    ∙ ap (λ b. c.loop-point.endless.items ++ not b ∷ []) c.has_path.ensures
    ∙ ap (λ t. t ++ endless point ∷ []) c.loop-point.invariant
    ∙ sym (map-range_more endless point)
