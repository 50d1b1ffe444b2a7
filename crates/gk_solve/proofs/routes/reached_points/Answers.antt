use Rattle.std.proofs.Common.{◌≡◌, ◌∙◌, Bool, false, List, length, ap, get_or, subst, sym, arith, ◌++◌, take, drop}
use Rattle.flow_links.specs.Shapes.{directed_shape}
use Rattle.flow_graph.specs.Points.{point_count}
use Rattle.summary_equations.specs.Equations.{Reached}
use Rattle.gk_solve.specs.Tables.Flags.{AreExactly}
use Rattle.gk_solve.proofs.beginnings.Blank.{none_flagged, unset}
use Rattle.gk_solve.proofs.slices.Slices.{written_over}
use Rattle.gk_solve.proofs.routes.reached_points.Goals as goal

pub reached-requires-clause-none : goal.reached-requires-clause-none
reached-requires-clause-none c =
    none_flagged c.as_mut_slice.result.now _ (c.as_mut_slice.ensures.value ∙ c.in_ok-flags.ensures.items_if_clones_equal (λ y same. same))

pub reached-requires-clause-clear : goal.reached-requires-clause-clear
reached-requires-clause-clear c x = ap (λ (l : List Bool). get_or l x false) c.in_ok-dirty.ensures ∙ unset _ x

pub returns : goal.returns
returns c =
    let flags = c.in_ok-flags.flags in
    let shape = directed_shape c.args.links.now in
    let count : length c.reached.new.flags ≡ length flags.items = c.reached.auto.flags ∙ ap length c.as_mut_slice.ensures.value in
    let same : take flags.len (c.reached.new.flags ++ drop (length c.reached.new.flags) flags.items) ≡ c.reached.new.flags =
    written_over flags.len c.reached.new.flags flags.items flags.ok.0 count in
    subst (λ (found : List Bool). (length found ≡ point_count c.args.links.now.program) × AreExactly (Reached shape) found) (sym same)
    (omega (arith, count, flags.ok.0, c.in_ok-flags.ensures.len, c.points.ensures.count), c.reached.ensures)
