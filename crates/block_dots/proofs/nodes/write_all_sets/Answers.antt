use Rattle.std.proofs.Common.{◌≡◌, ◌++◌, ◌∙◌, ℕ, List, [], flat_map, sym, ap, append_assoc, append-nil}
use Rattle.std.proofs.lemmas.Grind.{flat_map-append}
use Rattle.text_pieces.proofs.sinks.Taking.{takes_as, takes_then}
use Rattle.flow_views.specs.Dots.{label_line}
use Rattle.flow_views.specs.code.ViewProgram.{known_of}
use Rattle.block_dots.specs.BlockDots.{lines_of}
use Rattle.block_dots.specs.declared.block_set.BlockSet.{BlockSet}
use Rattle.block_dots.specs.declared.block_set.BlockSet.TheVariants.{Gen, In, Kill, Out}
use Rattle.block_dots.proofs.nodes.write_all_sets.Goals as goal

-- four lists of lines
four : (f : List ℕ → List ℕ) (a b d e : List (List ℕ))
    → ((flat_map f a ++ flat_map f b) ++ flat_map f d) ++ flat_map f e ≡ flat_map f (a ++ (b ++ (d ++ (e ++ []))))
four f a b d e =
    append_assoc (flat_map f a ++ flat_map f b) (flat_map f d) (flat_map f e)
    ∙ append_assoc (flat_map f a) (flat_map f b) (flat_map f d ++ flat_map f e)
    ∙ ap (λ t. flat_map f a ++ (flat_map f b ++ (flat_map f d ++ flat_map f t))) (sym (append-nil e))
    ∙ ap (λ t. flat_map f a ++ (flat_map f b ++ t)) (sym (flat_map-append f d (e ++ [])))
    ∙ ap (λ t. flat_map f a ++ t) (sym (flat_map-append f b (d ++ (e ++ []))))
    ∙ sym (flat_map-append f a (b ++ (d ++ (e ++ []))))

pub returns : goal.returns
returns g c =
    let lines : BlockSet → List (List ℕ) =
    lines_of c.args.shown.now.found.graph.now (known_of c.args.shown.now) c.args.shown.now.view c.args.block.leader c.args.table.now.analysis in
    takes_as _ _ _ _
    (takes_then _ _ _ _ _ (takes_then _ _ _ _ _ (takes_then _ _ _ _ _ c.write_lines_of.ensures c.write_lines_of-2.ensures)
    c.write_lines_of-3.ensures) c.write_lines_of-4.ensures)
    (four label_line (lines Gen) (lines Kill) (lines In) (lines Out))
