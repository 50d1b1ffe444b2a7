use Rattle.std.proofs.Common.{sym, ap, ◌∙◌, ◌+◌, ◌*◌}
use Rattle.bit_rows.specs.RowSet.{contains}
use Rattle.slice_board_tests.proofs.sets.Benching.{within_word}
use Rattle.slice_board_tests.proofs.bench.may_post.Goals as goal

pub returns-clause-mask : goal.returns-clause-mask
returns-clause-mask c none i within set =
    ap (λ s. contains s (64 * c.args.word + i)) (sym c.row.ensures.value) ∙ sym (c.word.ensures i within)
    ∙ within_word c.args.mask c.word.result i c.word.type_inv within none set
