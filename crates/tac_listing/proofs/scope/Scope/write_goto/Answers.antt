use Rattle.std.proofs.Common.{codes, slice_get, ap}
use Rattle.text_pieces.proofs.sinks.Taking.{takes_as}
use Rattle.tac_program.specs.Names.{name_at}
use Rattle.tac_program.specs.Names.{Names}
use Rattle.text_pieces.specs.Strings.{escaped}
use Rattle.tac_listing.specs.Listings.{names_in}
use Rattle.text_pieces.proofs.sinks.Escapes.{shows_then}
use Rattle.tac_listing.proofs.layouts.StatementNames.{label_name, label_there}
use Rattle.tac_listing.proofs.scope.Scope.write_goto.Goals as goal

pub label-requires-clause-label : goal.label-requires-clause-label
label-requires-clause-label g c =
    label_there (slice_get c.args.self.now.program.now.procedures c.args.self.now.procedure) c.args.label c.requires.label

pub returns : goal.returns
returns g c =
    let names : Names = names_in c.args.self.now.program.now c.args.self.now.procedure in
    shows_then (codes "goto ") (name_at names.labels c.args.label) _ _ _ c.write.ensures
    (takes_as _ _ _ _ c.write_escaped.ensures
    (ap escaped (label_name (slice_get c.args.self.now.program.now.procedures c.args.self.now.procedure)
    c.args.label c.label.result.now c.requires.label c.label.ensures)))
