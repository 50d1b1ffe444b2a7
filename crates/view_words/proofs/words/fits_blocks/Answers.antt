use Rattle.std.proofs.Common.{◌∙◌, ◌&&◌, not, ap}
use Rattle.clap.specs.Words.{found_of, rows_of}
use Rattle.view_words.specs.Commands.{look_queried, looks_at_points}
use Rattle.view_words.proofs.words.fits_blocks.Goals as goal

pub returns : goal.returns
returns c =
    let rows = rows_of (found_of c.args.matches.now) in
    c.is_neither.ensures
    ∙ ap (λ looks. not looks && not c.is_given.result) (c.looks_at_points.ensures ∙ ap looks_at_points c.look_found.ensures)
    ∙ ap (λ path. not (looks_at_points (look_queried rows)) && not path) c.is_given.ensures
