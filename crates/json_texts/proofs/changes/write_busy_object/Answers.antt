use Rattle.std.proofs.Common.{◌≡◌, ◌∙◌, ℕ, Bool, List, ◌++◌, codes, decimal, ap, arith}
use Rattle.flow_graph.specs.declared.analysis.Analysis.{Analysis}
use Rattle.flow_graph.specs.declared.analysis.Analysis.TheVariants.{Busy}
use Rattle.flow_team.specs.Tables.{facts_of}
use Rattle.flow_views.specs.Json.{span_fields}
use Rattle.flow_views.specs.Views.{known_facts}
use Rattle.flow_views.specs.code.ViewProgram.{known_of}
use Rattle.json_texts.specs.Changes.{numbers_in}
use Rattle.json_texts.proofs.told.Numbers.{enough_numbers, numbers_told}
use Rattle.tac_program.specs.Programs.{Program}
use Rattle.text_pieces.proofs.sinks.Taking.{takes_as, takes_then}
use Rattle.json_texts.proofs.changes.write_busy_object.Goals as goal

pub write_array-requires-clause-bits : goal.write_array-requires-clause-bits
write_array-requires-clause-bits g c =
    let enough = enough_numbers c.args.shown.now.found.graph.now Busy c.args.shown.now.names.form c.args.shown.now.names.numbers c.requires.form
    c.requires.shown.names.numbers in
    omega (arith, c.bits.ensures.count, enough)

pub returns : goal.returns
returns g c =
    let program : Program = c.args.shown.now.found.graph.now in
    let point : ℕ = c.args.point in
    let numbers = numbers_told program Busy c.args.shown.now.names.form c.args.shown.now.names.numbers ((facts_of c.args.table.now).contains point)
    c.bits.result c.requires.form c.requires.shown.names.numbers c.bits.ensures.count in
    let same : (facts_of c.args.table.now).contains point ≡ (known_of c.args.shown.now).busy.contains point =
    (c.requires.table.tells point c.requires.shows).set
    ∙ ap (λ (a : Analysis). (known_facts (known_of c.args.shown.now) a).contains point) c.requires.busy in
    takes_as _ _ _ _
    (takes_then _ _ _ _ _ (takes_then _ _ _ _ _ (takes_then _ _ _ _ _ (takes_then _ _ _ _ _ (takes_then _ _ _ _ _ c.write.ensures c.write_number.ensures)
    c.write_place.ensures) c.write-2.ensures) c.write_array.ensures) c.write-3.ensures)
    (ap (λ (t : List ℕ). codes "{\"type\":\"remark\",\"point\":" ++ decimal point ++ span_fields program point
    ++ codes ",\"kind\":\"busy\",\"expressions\":" ++ t ++ codes "}\n") numbers
    ∙ ap (λ (set : ℕ → Bool). codes "{\"type\":\"remark\",\"point\":" ++ decimal point ++ span_fields program point
    ++ codes ",\"kind\":\"busy\",\"expressions\":" ++ numbers_in program Busy set ++ codes "}\n") same)
