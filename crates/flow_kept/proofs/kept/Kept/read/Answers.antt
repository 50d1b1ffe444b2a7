-- What is kept has few bits.
use Rattle.std.proofs.Common.{subst}
use Rattle.flow_graph.specs.Limits.{HasFewBits}
use Rattle.flow_kept.proofs.kept.Kept.read.Goals as goal

pub returns-in-Ok-clause-few_bits : goal.returns-in-Ok-clause-few_bits
returns-in-Ok-clause-few_bits c = subst (HasFewBits c.args.limits) c.in_ok-program.ensures.program c.in-Ok.ensures.few_bits
