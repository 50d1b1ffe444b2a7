use Rattle.std.proofs.Common.{ap, ◌∙◌}
use Rattle.gen_kill.specs.code.Effects.{column_depends, depends}
use Rattle.gen_kill.proofs.effects.column_variables.Goals as goal

pub returns : goal.returns
unfolding column_depends
returns c x = c.bit_variables.ensures x ∙ ap (depends c.args.graph.now c.args.analysis x) c.bit.ensures
