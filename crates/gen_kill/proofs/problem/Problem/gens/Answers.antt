use Rattle.std.proofs.Common.{sym, ap, ap₂, ◌∙◌}
use Rattle.gen_kill.specs.Selections.{Selection, bit_of}
use Rattle.gen_kill.specs.code.Effects.{gen_from}
use Rattle.gen_kill.proofs.bits.EffectWords.{touched_column}
use Rattle.gen_kill.proofs.bits.MayWords.{may_gens_are}
use Rattle.gen_kill.proofs.problem.Problem.gens.Goals as goal

pub returns : goal.returns
returns c =
    let s : Selection = c.args.self.now in
    let known = c.effect-effect.ensures in
    c.generates.ensures
    ∙ ap (λ (s : Selection). gen_from s.analysis c.is_either-own.result c.touches-touched.result) c.self.view_is
    ∙ ap₂ (gen_from s.analysis) (c.is_either-own.ensures ∙ known.own c.args.column c.requires.column)
    (c.touches-touched.ensures ∙ touched_column s c.args.point c.args.column c.effect-effect.result known)
    ∙ sym (may_gens_are s.program s.analysis c.args.point (bit_of s c.args.column))
