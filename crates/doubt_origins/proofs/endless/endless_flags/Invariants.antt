use Rattle.std.proofs.Common.{◌≡◌, map, not}
use Rattle.std.specs.List.{range_with_len}
use Rattle.flow_graph.specs.declared.analysis.Analysis.TheVariants.{Live}
use Rattle.report_answers.specs.code.Answered.{facts_in}
use Rattle.doubt_origins.proofs.endless.endless_flags.Given as goal

abbrev pub invariant-loop-point : goal.invariant-loop-point
invariant-loop-point l = l.endless.items ≡ map (λ point. not ((facts_in l.answers.replies Live).has_path point)) (range_with_len 0 l.point)
