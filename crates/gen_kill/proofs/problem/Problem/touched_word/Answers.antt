use Rattle.std.proofs.Common.{◌+◌, ◌*◌, false, option_map, unwrap_or, sym, ap, ◌∙◌}
use Rattle.bit_rows.proofs.words.WordBits.{has_bit-zero}
use Rattle.gen_kill.specs.code.Effects.{column_depends}
use Rattle.gen_kill.proofs.problem.Problem.touched_word.Goals as goal

pub returns-in-None : goal.returns-in-None
returns-in-None c k within below =
    has_bit-zero k ∙ ap (λ o. unwrap_or (option_map (λ x. column_depends c.args.self.now x (64 * c.args.word + k)) o) false)
    (sym c.in-None.is)
