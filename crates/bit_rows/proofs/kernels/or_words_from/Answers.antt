use Rattle.std.proofs.Common.{refl, rules}
use Rattle.bit_rows.proofs.rows.WordLoops.{IsAddedTo-none, IsAddedTo-more, IsAddedTo-all}
use Rattle.bit_rows.proofs.kernels.or_words_from.Goals as goal

pub words-init : goal.words-init
words-init c = IsAddedTo-none c.args.base c.args.target.now c.args.first c.args.masks.now c.max-start.result (search rules)

pub words-preserved : goal.words-preserved
words-preserved c =
    IsAddedTo-more c.args.base c.args.target.now c.args.first c.args.masks.now c.words.w _ c.words.target c.words.invariant
    (search rules) (search rules) (search rules) refl

pub returns : goal.returns
returns c =
    IsAddedTo-all c.args.base c.args.target.now c.args.first c.args.masks.now c.words.w c.words.target c.words.invariant
    (search rules) (search rules) (search rules)
