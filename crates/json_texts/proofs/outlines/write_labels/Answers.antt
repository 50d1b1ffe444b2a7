use Rattle.std.proofs.Common.{ℕ, List, codes, ap, arith}
use Rattle.std.proofs.lemmas.List.{get_or_default}
use Rattle.text_pieces.proofs.sinks.Taking.{takes_as, takes_then}
use Rattle.text_pieces.specs.Strings.{quoted}
use Rattle.tac_program.specs.Programs.{Program}
use Rattle.tac_program.specs.declared.program.Label.{Label}
use Rattle.flow_views.specs.Views.{label_name}
use Rattle.flow_views.proofs.texts.Rows.{joined_all, joined_behind}
use Rattle.json_texts.proofs.outlines.write_labels.Goals as goal

pub loop-place-preserved : goal.loop-place-preserved
loop-place-preserved g c =
    let program : Program = c.args.graph.now in
    let name : Label → List ℕ = (λ label. quoted (label_name program c.args.point label)) in
    takes_as _ _ _ _
    (takes_then _ _ _ _ _ (takes_then _ _ _ _ _ c.loop-place.invariant c.write_if.ensures)
    (takes_as _ _ _ _ c.write_quoted.ensures (ap quoted c.name_of_label.ensures)))
    (joined_behind (codes "[") (codes ",") name c.args.labels.now c.loop-place.place _ c.loop-place-test.true
    (get_or_default c.args.labels.now c.loop-place.place _ _ c.loop-place-test.true))

pub returns : goal.returns
returns g c =
    let program : Program = c.args.graph.now in
    let name : Label → List ℕ = (λ label. quoted (label_name program c.args.point label)) in
    takes_as _ _ _ _ (takes_then _ _ _ _ _ c.loop-place.invariant c.write-2.ensures)
    (joined_all (codes ",") name c.args.labels.now c.loop-place.place (omega (arith, c.loop-place-test.false)))
