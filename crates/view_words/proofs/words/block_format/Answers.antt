use Rattle.std.proofs.Common.{◌∙◌, sym, ap}
use Rattle.std.specs.Prelude.{option_and_then}
use Rattle.clap.specs.Words.{found_of, rows_of}
use Rattle.view_words.specs.Commands.{has_blocks, fits_blocks}
use Rattle.view_words.specs.Kinds.{with_blocks}
use Rattle.view_words.proofs.words.block_format.Goals as goal

pub returns-in-Some : goal.returns-in-Some
returns-in-Some c =
    let rows = rows_of (found_of c.args.matches.now) in
    c.with_blocks.ensures
    ∙ ap (λ is. with_blocks is c.fits_blocks.result c.in-Some.format) c.has_flag.ensures
    ∙ ap (λ fits. with_blocks (has_blocks rows) fits c.in-Some.format) c.fits_blocks.ensures
    ∙ ap (option_and_then (with_blocks (has_blocks rows) (fits_blocks rows))) (sym (sym c.call_format.ensures ∙ c.in-Some.is))

pub returns-in-None : goal.returns-in-None
returns-in-None c =
    let rows = rows_of (found_of c.args.matches.now) in
    ap (option_and_then (with_blocks (has_blocks rows) (fits_blocks rows))) (sym (sym c.call_format.ensures ∙ c.in-None.is))
