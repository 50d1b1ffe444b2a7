use Rattle.std.proofs.Common.{arith}
use Rattle.gen_kill.proofs.bits.Chosen.{few_chosen}
use Rattle.gen_kill.proofs.problem.Problem.of_chosen.Goals as goal

pub chosen-requires-clause-few : goal.chosen-requires-clause-few
chosen-requires-clause-few c =
    omega (arith, few_chosen c.args.graph.now c.args.analysis c.args.chosen.items c.requires, c.bits.ensures.count, c.bits.ensures.few c.args.analysis)
