use Rattle.std.proofs.Common.{◌&&◌, ◌∙◌, sym, ap}
use Rattle.text_pieces.specs.code.Lists.{some_stand}
use Rattle.flow_views.proofs.facts.Known.{dead_known, unset_known}
use Rattle.flow_views.proofs.view_program.ViewProgram.statement_marks.Goals as goal

pub returns : goal.returns
returns c i =
    let shown = c.args.self.now in
    let reached = sym c.requires.reached in
    let unset = c.reads_unset.ensures ∙ ap some_stand (unset_known shown c.requires.shown c.args.point c.requires.point) in
    let dead = c.sets_dead.ensures ∙ ap some_stand (dead_known shown c.requires.shown c.args.point c.requires.point) in
    record { reached = reached i; unset = reached i && unset i; dead = reached i && dead i; doubtful = c.is_doubtful.ensures i }
