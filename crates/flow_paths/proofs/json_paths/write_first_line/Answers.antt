use Rattle.std.proofs.Common.{Bool, ap, sym}
use Rattle.text_pieces.proofs.sinks.Taking.{takes_as}
use Rattle.flow_paths.specs.code.Lined.{first_line}
use Rattle.flow_paths.proofs.json_paths.write_first_line.Goals as goal

pub returns-then-changes : goal.returns-then-changes
returns-then-changes g c =
    takes_as _ _ _ _ c.write_named_program.ensures (ap (λ (changes : Bool). first_line changes c.args.shown.now.found.graph.now) (sym c.if-changes.true))

pub returns-else-changes : goal.returns-else-changes
returns-else-changes g c =
    takes_as _ _ _ _ c.write_program.ensures (ap (λ (changes : Bool). first_line changes c.args.shown.now.found.graph.now) (sym c.if-changes.false))
