use Rattle.std.proofs.Common.{◌+◌, ◌*◌, nat_lt, ap, ◌∙◌}
use Rattle.bit_rows.specs.Words.{has_bit}
use Rattle.gen_kill.specs.Selections.{Selection}
use Rattle.gen_kill.specs.code.Effects.{gen_from}
use Rattle.gen_kill.proofs.bits.ColumnWords.{word_of_gens}
use Rattle.gen_kill.proofs.problem.Problem.gen_word.Goals as goal

pub returns : goal.returns
returns c =
    word_of_gens c.args.self.now c.args.point c.args.word c.effect-effect.result c.effect-effect.ensures c.own_word-own.result
    c.touched_word-touched.result c.generated.result c.word_below.result c.own_word-own.ensures c.touched_word-touched.ensures
    (λ k within. c.word_below.ensures k within ∙ ap (nat_lt (64 * c.args.word + k)) c.bits.ensures.count)
    (λ k within. c.generated.ensures k within
    ∙ ap (λ (s : Selection). gen_from s.analysis (has_bit c.own_word-own.result k) (has_bit c.touched_word-touched.result k)) c.self.view_is)
