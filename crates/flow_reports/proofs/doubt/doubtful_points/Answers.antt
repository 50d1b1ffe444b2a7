use Rattle.std.proofs.Common.{ℕ, length, not, ap, ◌∙◌}
use Rattle.std.proofs.lemmas.List.FromFn.{length-map-range_with_len}
use Rattle.std.proofs.lemmas.Result.{IfOk-weaker}
use Rattle.flow_graph.specs.Points.{point_count}
use Rattle.flow_graph.specs.declared.analysis.Analysis.TheVariants.{Live}
use Rattle.report_answers.specs.code.Answered.{facts_in}
use Rattle.flow_reports.proofs.knowledge.Doubts.{tell_doubtful}
use Rattle.flow_reports.proofs.doubt.doubtful_points.Goals as goal

pub leads_to-requires : goal.leads_to-requires
leads_to-requires c =
    ap length (c.deref.ensures.value ∙ c.in_ok-endless.ensures.points)
    ∙ length-map-range_with_len (λ (point : ℕ). not ((facts_in c.args.answers.now.replies Live).has_path point)) 0 (point_count c.args.graph.now)

pub returns-clause-points : goal.returns-clause-points
returns-clause-points c =
    IfOk-weaker c.leads_to.result _ _
    (λ answers answered.
    tell_doubtful c.args.graph.now (facts_in c.args.answers.now.replies Live).has_path c.deref.result.now answers.items c.in_ok-endless.ensures.sound
    (λ point below. c.requires.answers.paths Live point below)
    (c.deref.ensures.value ∙ c.in_ok-endless.ensures.points) answered)
    c.leads_to.ensures
