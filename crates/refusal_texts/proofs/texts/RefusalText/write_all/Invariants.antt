use Rattle.std.proofs.Common.{flat_map, take}
use Rattle.text_pieces.specs.Pieces.{Writes}
use Rattle.refusal_texts.specs.RefusalTexts.{refusal_lines}
use Rattle.refusal_texts.proofs.texts.RefusalText.write_all.Given as goal

abbrev pub invariant-loop-told : goal.invariant-loop-told
invariant-loop-told g l =
    Writes g.K.Sink l.fn.out l.out (flat_map (refusal_lines l.self.style l.self.file.now l.self.text.now) (take l.told-index l.all))
