use Rattle.std.proofs.Common.{◌∙◌, ℕ, Bool, List, flat_map, sym, ap, append-nil}
use Rattle.text_pieces.proofs.sinks.Taking.{takes_as}
use Rattle.flow_views.specs.Dots.{label_line}
use Rattle.flow_views.specs.code.ViewProgram.{known_of}
use Rattle.block_dots.specs.BlockDots.{lines_of}
use Rattle.block_dots.specs.BlockSets.{sets_of}
use Rattle.block_dots.specs.declared.block_set.BlockSet.{BlockSet}
use Rattle.block_dots.specs.declared.block_set.BlockSet.TheVariants.{In}
use Rattle.block_dots.proofs.nodes.write_sets.Goals as goal

pub returns-then-has_behind : goal.returns-then-has_behind
returns-then-has_behind g c =
    let lines : BlockSet → List (List ℕ) =
    lines_of c.args.shown.now.found.graph.now (known_of c.args.shown.now) c.args.shown.now.view c.args.block.leader c.args.table.now.analysis in
    takes_as _ _ _ _ c.write_all_sets.ensures
    (sym (ap (λ (b : Bool). flat_map label_line (flat_map lines (sets_of b))) (sym c.has_behind.ensures ∙ c.if-has_behind.true)))

pub returns-else-has_behind : goal.returns-else-has_behind
returns-else-has_behind g c =
    let lines : BlockSet → List (List ℕ) =
    lines_of c.args.shown.now.found.graph.now (known_of c.args.shown.now) c.args.shown.now.view c.args.block.leader c.args.table.now.analysis in
    takes_as _ _ _ _ c.write_lines_of.ensures
    (ap (flat_map label_line) (sym (append-nil (lines In)))
    ∙ sym (ap (λ (b : Bool). flat_map label_line (flat_map lines (sets_of b))) (sym c.has_behind.ensures ∙ c.if-has_behind.false)))
