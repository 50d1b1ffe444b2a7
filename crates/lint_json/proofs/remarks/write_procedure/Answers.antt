use Rattle.std.proofs.Common.{◌++◌, codes, ap, ◌∙◌}
use Rattle.flow_graph.specs.declared.place.Place.{Place}
use Rattle.tac_program.specs.Names.{name_at}
use Rattle.text_pieces.proofs.sinks.Taking.{takes_as, takes_then}
use Rattle.text_pieces.specs.Strings.{quoted}
use Rattle.lint_json.proofs.remarks.write_procedure.Goals as goal

pub returns : goal.returns
returns g c =
    takes_as _ _ _ _ (takes_then _ _ _ _ _ c.write.ensures c.write_quoted.ensures)
    (ap (λ n. codes ",\"procedure\":" ++ quoted n)
    (c.procedure.ensures ∙ ap (λ (p : Place). name_at c.args.lines.now.graph.now.procedure_names p.procedure) c.place.ensures))
