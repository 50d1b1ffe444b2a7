use Rattle.flow_team.specs.Tables.{facts_of}
use Rattle.std.proofs.Common.{sym}
use Rattle.flow_texts.specs.code.Members.{Named, chosen}
use Rattle.flow_texts.proofs.sets.ListTexts.{set_empty, set_written}
use Rattle.text_pieces.proofs.sinks.Taking.{takes_as, takes_then}
use Rattle.flow_texts.proofs.members.write_set.Goals as goal

pub returns-then-write_members : goal.returns-then-write_members
returns-then-write_members g c =
    let set : Named = chosen c.args.texts.now.texts ((facts_of c.args.table.now).contains c.args.point) in
    set_written c.args.texts.now.between set c.args.bits _ _ c.write_members.result c.requires.commas c.write_members.ensures
    c.if-write_members.true

pub returns : goal.returns
returns g c =
    let set : Named = chosen c.args.texts.now.texts ((facts_of c.args.table.now).contains c.args.point) in
    let empty =
    set_empty c.args.texts.now.between set c.args.bits _ _ c.write_members.result c.write_members.ensures c.if-write_members.false in
    takes_as _ _ _ _ (takes_then _ _ _ _ _ empty.0 c.write.ensures) (sym empty.1)
