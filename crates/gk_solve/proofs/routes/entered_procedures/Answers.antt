use Rattle.std.proofs.Common.{◌≡◌, ◌∙◌, Bool, false, List, length, ap, get_or, subst, sym, arith, ◌++◌, take, drop}
use Rattle.flow_links.specs.Shapes.{directed_shape}
use Rattle.summary_equations.specs.Equations.{Entered}
use Rattle.gk_solve.specs.Tables.Flags.{AreExactly}
use Rattle.gk_solve.proofs.beginnings.Blank.{none_flagged, unset}
use Rattle.gk_solve.proofs.slices.Slices.{written_over}
use Rattle.gk_solve.proofs.routes.entered_procedures.Goals as goal

pub entered-requires-clause-none : goal.entered-requires-clause-none
entered-requires-clause-none c = none_flagged c.as_mut_slice.result.now c.procedures.result
    (c.as_mut_slice.ensures.value ∙ c.in_ok-flags.ensures.items_if_clones_equal (λ y same. same))

pub entered-requires-clause-clear : goal.entered-requires-clause-clear
entered-requires-clause-clear c x = ap (λ (l : List Bool). get_or l x false) c.in_ok-dirty.ensures ∙ unset _ x

pub returns : goal.returns
returns c =
    let flags = c.in_ok-flags.flags in
    let shape = directed_shape c.args.links.now in
    let count : length c.entered.new.flags ≡ length flags.items = c.entered.auto.flags ∙ ap length c.as_mut_slice.ensures.value in
    let same : take flags.len (c.entered.new.flags ++ drop (length c.entered.new.flags) flags.items) ≡ c.entered.new.flags =
    written_over flags.len c.entered.new.flags flags.items flags.ok.0 count in
    subst (λ (found : List Bool). (length found ≡ shape.procedures) × AreExactly (Entered shape) found) (sym same)
    (omega (arith, count, flags.ok.0, c.in_ok-flags.ensures.len, c.procedures.ensures.count), c.entered.ensures)
