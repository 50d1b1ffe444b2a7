use Rattle.flow_graph.specs.declared.analysis.Analysis.TheVariants.{Live}
use Rattle.report_answers.specs.code.Answered.{facts_in}
use Rattle.doubt_origins.proofs.traces.Endless.{tell_endless}
use Rattle.doubt_origins.proofs.endless.endless_points.Goals as goal

pub returns : goal.returns
returns c =
    tell_endless c.args.graph.now (facts_in c.args.answers.now.replies Live).has_path c.in_ok-endless.endless.items
    (λ point below. c.requires.answers.paths Live point below) c.in_ok-endless.ensures
