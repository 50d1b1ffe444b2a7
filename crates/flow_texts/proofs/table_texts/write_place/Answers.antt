use Rattle.std.proofs.Common.{[], ◌++◌, ◌∙◌, codes, decimal, unwrap_or, ◌≡◌, ◌<◌, length, sym, ap, subst, arith}
use Rattle.flow_graph.specs.Points.{procedure_at}
use Rattle.flow_graph.proofs.places.PointLemmas.{points_have_places}
use Rattle.tac_program.specs.Names.{name_at}
use Rattle.text_pieces.proofs.sinks.Taking.{takes_as, takes_then}
use Rattle.flow_texts.proofs.table_texts.write_place.Goals as goal

pub procedure-requires : goal.procedure-requires
procedure-requires g c =
    let there : procedure_at c.args.graph.now c.args.point < length c.args.graph.now.procedures =
    (points_have_places c.args.graph.now c.args.point c.requires.point).procedure in
    let named : length c.args.graph.now.procedure_names ≡ length c.args.graph.now.procedures =
    subst (λ p. length p.procedure_names ≡ length p.procedures) c.program-program.ensures c.procs.ensures.sound.named in
    let below : procedure_at c.args.graph.now c.args.point < length c.args.graph.now.procedure_names = omega (arith, there, named) in
    subst (λ n. n < length c.program-program.result.now.procedure_names) (sym (ap (λ p. p.procedure) c.place-place.ensures))
    (subst (λ p. procedure_at c.args.graph.now c.args.point < length p.procedure_names) (sym c.program-program.ensures) below)

pub returns : goal.returns
returns g c =
    let named : c.procedure.result.now ≡ name_at c.args.graph.now.procedure_names (procedure_at c.args.graph.now c.args.point) =
    sym (ap (λ o. unwrap_or o []) c.procedure.ensures)
    ∙ ap (λ p. name_at p.procedure_names c.place-place.result.procedure) c.program-program.ensures
    ∙ ap (λ q. name_at c.args.graph.now.procedure_names q.procedure) c.place-place.ensures in
    takes_as _ _ _ _ (takes_then _ _ _ _ _ (takes_then _ _ _ _ _ c.write.ensures c.write-2.ensures) c.write_number.ensures)
    (ap (λ t. t ++ codes " " ++ decimal c.place-place.result.place) named
    ∙ ap (λ q. name_at c.args.graph.now.procedure_names (procedure_at c.args.graph.now c.args.point) ++ codes " " ++ decimal q.place)
    c.place-place.ensures)
