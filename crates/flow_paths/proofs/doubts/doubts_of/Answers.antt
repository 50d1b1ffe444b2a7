use Rattle.std.proofs.Common.{◌∙◌, ℕ, List, ◌++◌, ap}
use Rattle.flow_reports.specs.code.Findings.{knowledge_of}
use Rattle.flow_paths.specs.Doubts.{Assignment, assignments_at}
use Rattle.flow_paths.specs.code.Doubted.{with_doubt}
use Rattle.flow_paths.proofs.lists.Doubting.{one_point_more}
use Rattle.flow_paths.proofs.doubts.doubts_of.Goals as goal

pub loop-point-preserved : goal.loop-point-preserved
loop-point-preserved c =
    let at : ℕ → List Assignment = assignments_at c.args.reasons.now (with_doubt (knowledge_of c.args.sure.now) c.args.doubtful.now) in (
      c.in_ok-put_doubt_at.ensures.put
          ∙ ap (λ xs. xs ++ at c.loop-point.point) c.loop-point.invariant.0
          ∙ one_point_more at c.args.shown.first c.loop-point.point c.loop-point.auto.point,
      c.in_ok-put_doubt_at.ensures.origins c.loop-point.invariant.1,
      c.in_ok-put_doubt_at.ensures.points c.loop-point.invariant.2,
    )
