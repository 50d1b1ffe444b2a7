use Rattle.std.proofs.Common.{ap, sym, ◌∙◌}
use Rattle.flow_graph.specs.declared.analysis.Analysis.{Analysis}
use Rattle.flow_team.specs.Tables.{Facts}
use Rattle.flow_views.specs.Views.{known_facts}
use Rattle.flow_views.specs.code.ViewProgram.{known_of}
use Rattle.point_sets.specs.Sets.{set_on}
use Rattle.point_sets.specs.declared.side.Side.{Side}
use Rattle.flow_views.proofs.view_program.ViewProgram.change.Goals as goal

pub returns-in-Behind-clause-new : goal.returns-in-Behind-clause-new
returns-in-Behind-clause-new c =
    let analysis : Analysis = c.args.table.now.analysis in
    let facts : Facts = known_facts (known_of c.args.self.now) analysis in
    c.change_behind.ensures.new ∙ sym (ap (λ (s : Side). set_on s c.args.self.now.found.graph.now analysis facts c.args.point) c.in-Behind.is)
