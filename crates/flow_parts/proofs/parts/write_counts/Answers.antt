-- The counts stand one behind the other.
use Rattle.std.proofs.Common.{◌≡◌, ◌++◌, List, ℕ, length, codes, decimal, ap, ◌∙◌, append_assoc}
use Rattle.flow_graph.specs.Points.{point_count}
use Rattle.flow_graph.specs.Universes.{definitions, expressions}
use Rattle.tac_program.specs.Programs.{Program}
use Rattle.flow_reports.specs.Reports.{count_line}
use Rattle.text_pieces.proofs.sinks.Taking.{takes_as, takes_then}
use Rattle.flow_parts.proofs.parts.write_counts.Goals as goal

joined : (a p b q c r d s e : List ℕ) → (a ++ p) ++ (b ++ q) ++ (c ++ r) ++ (d ++ s) ++ e ≡ a ++ p ++ b ++ q ++ c ++ r ++ d ++ s ++ e
joined a p b q c r d s e = simp append_assoc

-- found counts are those of the program
counted : (w x y z k l m n : ℕ) → w ≡ k → x ≡ l → y ≡ m → z ≡ n
    → (codes "points " ++ decimal w) ++ (codes ", variables " ++ decimal x) ++ (codes ", definitions " ++ decimal y)
    ++ (codes ", expressions " ++ decimal z) ++ codes "\n"
    ≡ codes "points " ++ decimal k ++ codes ", variables " ++ decimal l ++ codes ", definitions " ++ decimal m ++ codes ", expressions " ++ decimal n
    ++ codes "\n"
counted w x y z k l m n e f g h =
    joined (codes "points ") (decimal w) (codes ", variables ") (decimal x) (codes ", definitions ") (decimal y) (codes ", expressions ") (decimal z)
    (codes "\n")
    ∙ ap (λ i. codes "points " ++ decimal i ++ codes ", variables " ++ decimal x ++ codes ", definitions " ++ decimal y ++ codes ", expressions "
    ++ decimal z ++ codes "\n") e
    ∙ ap (λ i. codes "points " ++ decimal k ++ codes ", variables " ++ decimal i ++ codes ", definitions " ++ decimal y ++ codes ", expressions "
    ++ decimal z ++ codes "\n") f
    ∙ ap (λ i. codes "points " ++ decimal k ++ codes ", variables " ++ decimal l ++ codes ", definitions " ++ decimal i ++ codes ", expressions "
    ++ decimal z ++ codes "\n") g
    ∙ ap (λ i. codes "points " ++ decimal k ++ codes ", variables " ++ decimal l ++ codes ", definitions " ++ decimal m ++ codes ", expressions "
    ++ decimal i ++ codes "\n") h

pub returns : goal.returns
returns g c =
    let program : Program = c.args.graph.now in
    takes_as _ _ _ (count_line program)
    (takes_then _ _ _ _ _ (takes_then _ _ _ _ _ (takes_then _ _ _ _ _ (takes_then _ _ _ _ _ c.write_numbered.ensures c.write_numbered-2.ensures)
    c.write_numbered-3.ensures) c.write_numbered-4.ensures)
    c.write.ensures)
    (counted c.points.result c.bits.result c.bits-2.result c.bits-3.result (point_count program) (length program.variable_names)
    (length (definitions program)) (length (expressions program))
    c.points.ensures.count c.bits.ensures.count c.bits-2.ensures.count c.bits-3.ensures.count)
