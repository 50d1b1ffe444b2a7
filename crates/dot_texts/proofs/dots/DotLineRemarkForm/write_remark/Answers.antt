use Rattle.std.proofs.Common.{◌++◌, ap}
use Rattle.tac_program.specs.Programs.{Program}
use Rattle.flow_reports.specs.code.Findings.{remark_name, words_before, words_behind}
use Rattle.flow_reports.proofs.knowledge.RemarkLines.{text_is}
use Rattle.text_pieces.proofs.sinks.Taking.{takes_as, takes_then}
use Rattle.text_pieces.specs.Strings.{escaped}
use Rattle.text_pieces.proofs.sinks.Escapes.{shows_then}
use Rattle.dot_texts.proofs.dots.DotLineRemarkForm.write_remark.Goals as goal

pub returns : goal.returns
returns g c =
    let program : Program = c.args.found.now.graph.now in
    takes_then _ _ _ _ _
    (takes_as _ _ _ _
    (shows_then (words_before c.args.remark ++ remark_name program c.args.remark) (words_behind c.args.remark) _ _ _
    (shows_then (words_before c.args.remark) (remark_name program c.args.remark) _ _ _
    (takes_as _ _ _ _ c.write_escaped.ensures (ap escaped c.words_before_name.ensures))
    (takes_as _ _ _ _ c.write_escaped-2.ensures (ap escaped c.name.ensures)))
    (takes_as _ _ _ _ c.write_escaped-3.ensures (ap escaped c.words_behind_name.ensures)))
    (ap escaped (text_is program c.args.remark)))
    c.write.ensures
