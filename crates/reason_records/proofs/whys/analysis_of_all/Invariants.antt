use Rattle.reason_records.proofs.answers.ManyWhys.{AreAskedTo}
use Rattle.gen_kill.specs.Selections.{all_bits}
use Rattle.reason_records.proofs.whys.analysis_of_all.Given as goal

abbrev pub invariant-loop-why : goal.invariant-loop-why
invariant-loop-why l = AreAskedTo (all_bits l.graph l.analysis) l.asked l.why-index
