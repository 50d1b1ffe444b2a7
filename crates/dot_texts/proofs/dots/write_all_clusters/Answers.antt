use Rattle.std.proofs.Common.{◌≡◌, ◌∙◌, ℕ, ◌+◌, ◌-◌, List, ◌++◌, flat_map, length, ap, arith}
use Rattle.std.specs.List.{range_with_len}
use Rattle.text_pieces.proofs.sinks.Taking.{takes_as, takes_then}
use Rattle.flow_views.specs.Dots.{cluster_of}
use Rattle.dot_texts.proofs.dots.write_all_clusters.Goals as goal

pub write_clusters-requires-2-clause-ordered : goal.write_clusters-requires-2-clause-ordered
write_clusters-requires-2-clause-ordered g c = omega (arith, c.main_procedure-main.ensures.there, c.procedure_count-end.ensures)

pub returns : goal.returns
returns g c =
    let text : ℕ → List ℕ = cluster_of (g.F.PointForm.text c.args.form.now c.args.shown.now) c.args.shown.now.found.graph.now in
    let main : ℕ = c.main_procedure-main.result in
    let all : main - 0 ≡ main = omega arith in
    takes_as _ _ _ _ (takes_then _ _ _ _ _ (takes_then _ _ _ _ _ c.write_cluster.ensures c.write_clusters.ensures) c.write_clusters-2.ensures)
    (ap (λ n. text main ++ flat_map text (range_with_len 0 n)
    ++ flat_map text (range_with_len (main + 1) (c.procedure_count-end.result - (main + 1)))) all
    ∙ ap (λ end. text main ++ flat_map text (range_with_len 0 main) ++ flat_map text (range_with_len (main + 1) (end - (main + 1))))
    c.procedure_count-end.ensures
    ∙ ap (λ m. text m ++ flat_map text (range_with_len 0 m)
    ++ flat_map text (range_with_len (m + 1) (length c.args.shown.now.found.graph.now.procedures - (m + 1)))) c.main_procedure-main.ensures.number)
