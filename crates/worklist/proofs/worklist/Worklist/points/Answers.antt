use Rattle.std.proofs.Common.{length, ap, sym, ◌∙◌}
use Rattle.worklist.proofs.words.MarkLemmas.{length-marks_of}
use Rattle.worklist.proofs.worklist.Worklist.points.Goals as goal

pub returns : goal.returns
returns c = c.points.ensures.count ∙ (sym (length-marks_of c.self.inside.words.items c.self.inside.order) ∙ ap length c.self.view_is)
