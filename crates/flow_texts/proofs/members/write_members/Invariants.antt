use Rattle.flow_team.specs.Tables.{facts_of}
use Rattle.flow_texts.proofs.members.write_members.Given as goal

abbrev pub ghost-write_words : goal.ghost-write_words
ghost-write_words g a = (facts_of a.table.now).contains a.point
