use Rattle.std.proofs.Common.{◌*◌, arith, refl}
use Rattle.flow_rows.proofs.words.RowWords.{tells_more}
use Rattle.flow_rows.proofs.filling.FillingTakeWords.take_words.Goals as goal

pub returns-clause-has : goal.returns-clause-has
returns-clause-has c = λ start before.
    let slice = c.args.slice.now in
    tells_more c.args._problem.now slice c.args.self.now.rows c.put_words.new.rows (64 * slice.from) slice.lo slice.hi c.requires.equations
    c.requires.slice.points refl refl refl (omega (arith, c.requires.more)) c.put_words.ensures before
