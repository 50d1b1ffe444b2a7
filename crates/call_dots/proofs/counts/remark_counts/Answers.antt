use Rattle.std.proofs.Common.{◌<◌, ◌∙◌, List, All, subst, sym}
use Rattle.flow_graph.specs.Points.{point_count}
use Rattle.flow_reports.specs.code.Findings.{knowledge_of}
use Rattle.flow_reports.specs.declared.listed.PlacedRemark.{PlacedRemark}
use Rattle.call_dots.proofs.named.Calls.{remarks_within}
use Rattle.call_dots.proofs.counts.remark_counts.Goals as goal

pub all_counts-requires : goal.all_counts-requires
all_counts-requires c =
    subst (λ (remarks : List PlacedRemark). All (λ (placed : PlacedRemark). placed.point < point_count c.args.found.now.graph.now) remarks)
    (sym (c.as_slice.ensures.value ∙ c.in_ok-remarks.ensures)) (remarks_within c.args.found.now.graph.now (knowledge_of c.args.found.now))
