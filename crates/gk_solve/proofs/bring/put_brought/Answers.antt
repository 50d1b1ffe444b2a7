use Rattle.std.proofs.Common.{◌<◌, length, set, List, [], Bool, arith, subst, sym, ◌∙◌}
use Rattle.std.proofs.lemmas.List.{get_or_default}
use Rattle.gk_solve.specs.Tables.Brought.{BroughtSpreads}
use Rattle.gk_solve.specs.Tables.Groups.{group_of}
use Rattle.gk_solve.proofs.visits.BroughtVisits.{put_spreads}
use Rattle.gk_solve.proofs.bring.put_brought.Goals as goal

pub returns-clause-spreads : goal.returns-clause-spreads
returns-clause-spreads g c =
    let within : c.args.procedure < length c.args.brought.now = omega (arith, c.requires.count, c.requires.within) in
    let group = group_of c.args.frame.now g.row.W in
    subst (λ (dirty : List Bool). BroughtSpreads group c.args.frame.now.paths.now c.args.table.now c.args.brought.now c.args.dirty.now
    (set c.args.brought.now c.args.procedure c.added_words-after.result.0) dirty) (sym c.mark.ensures)
    (put_spreads group c.args.frame.now.paths.now c.args.table.now c.args.brought.now c.args.dirty.now c.args.procedure
    c.index-brought-procedure.result c.args.more c.added_words-after.result.0
    within (omega (arith, c.requires.dirty_count, c.requires.within))
    (c.index-brought-procedure.is ∙ get_or_default c.args.brought.now c.args.procedure c.index-brought-procedure.result [] within)
    c.added_words-after.ensures.bits (c.added_words-after.ensures.less c.if-not-changed.false) c.requires.brings)
