use Rattle.std.proofs.Common.{sym, ap, ◌∙◌}
use Rattle.std.proofs.Math.Bool.{or-false}
use Rattle.gen_kill.specs.code.Effects.{marks, owns_numbered}
use Rattle.gen_kill.proofs.bits.OwnBits.{expression_is_own}
use Rattle.gen_kill.proofs.effects.own_bits.Goals as goal

pub returns-in-Avail : goal.returns-in-Avail
returns-in-Avail c bit =
    or-false (marks c.evaluated.result bit)
    ∙ ap (λ n. marks n bit) c.evaluated.ensures
    ∙ expression_is_own c.args.graph.now c.args.point bit
    ∙ ap (λ a. owns_numbered c.args.graph.now a c.args.number c.args.point bit) (sym c.in-Avail.is)

pub returns-in-Busy : goal.returns-in-Busy
returns-in-Busy c bit =
    or-false (marks c.evaluated-in-Busy.result bit)
    ∙ ap (λ n. marks n bit) c.evaluated-in-Busy.ensures
    ∙ expression_is_own c.args.graph.now c.args.point bit
    ∙ ap (λ a. owns_numbered c.args.graph.now a c.args.number c.args.point bit) (sym c.in-Busy.is)
