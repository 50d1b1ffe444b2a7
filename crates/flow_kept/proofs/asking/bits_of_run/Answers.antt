use Rattle.std.proofs.Common.{arith}
use Rattle.flow_kept.proofs.asking.bits_of_run.Goals as goal

pub returns-clause-all : goal.returns-clause-all
returns-clause-all c word k low small = (λ there. omega arith, λ there. omega arith)
