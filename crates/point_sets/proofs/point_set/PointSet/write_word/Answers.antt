use Rattle.std.proofs.Common.{◌*◌, ◌-◌, min, arith}
use Rattle.point_sets.proofs.sets.Laid.{lays-no_names}
use Rattle.point_sets.specs.code.PointSets.{shows}
use Rattle.text_pieces.specs.Pieces.{outlet}
use Rattle.point_sets.proofs.point_set.PointSet.write_word.Goals as goal

pub returns-then-is_blank : goal.returns-then-is_blank
returns-then-is_blank g c =
    lays-no_names (shows c.args.self.now) c.args.texts.now.texts (64 * c.args.at) (min (c.args.bits - 64 * c.args.at) 64) c.args.line
    (outlet g.K.Sink c.args.out.now) (λ k below. c.is_blank.ensures c.if-is_blank.true k (omega (arith, below)))
