use Rattle.std.proofs.Common.{◌≡◌, ◌∙◌, Some, refl, sym}
use Rattle.slice_board.specs.Boards.{about_board}
use Rattle.slice_board.proofs.slice_job.SliceJob.take_up.Goals as goal

pub returns-in-Some-clause-some : goal.returns-in-Some-clause-some
returns-in-Some-clause-some g c =
    let is : Some c.in-Some.slice ≡ c.args.pass.now.held = sym c.in-Some.is ∙ c.held.ensures.value in (
      c.in-Some.ensures.there (about_board c.args.self.now) c.requires.about,
      record {
        was_held = λ held same. (cc (is, same), record { claimed = refl; found = refl; next = refl });
        drawn = λ none. cc (is, none);
      },
    )
