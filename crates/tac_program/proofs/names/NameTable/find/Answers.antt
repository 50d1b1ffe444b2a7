use Rattle.std.proofs.Common.{◌∙◌, ap, position, bytes_eq}
use Rattle.tac_program.proofs.known_names.NameTexts.{position-texts}
use Rattle.tac_program.proofs.names.NameTable.find.Goals as goal

pub returns-in-None-clause-number : goal.returns-in-None-clause-number
returns-in-None-clause-number c =
    c.in-None.ensures.index ∙ position-texts c.args.name.now c.self.inside.names.keys ∙ ap (position (bytes_eq c.args.name.now)) c.self.view_is

pub returns-in-Some-clause-number : goal.returns-in-Some-clause-number
returns-in-Some-clause-number c =
    c.in-Some.ensures.index ∙ position-texts c.args.name.now c.self.inside.names.keys ∙ ap (position (bytes_eq c.args.name.now)) c.self.view_is
