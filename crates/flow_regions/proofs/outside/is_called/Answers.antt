use Rattle.std.proofs.Common.{◌≡◌, true, false, slice_index, slice_index_or, sym, ap, subst, ◌∙◌, arith}
use Rattle.std.proofs.lemmas.Option.{get_or_from_slice_get, slice_get-get_or}
use Rattle.flow_links.specs.Shapes.{directed_shape}
use Rattle.flow_regions.proofs.outside.is_called.Goals as goal

pub returns : goal.returns
returns c _ site x call =
    let shape = directed_shape c.args.links.now in
    let same = ap shape.exit (c.points.ensures.numbered.formed.entry_inside c.args.procedure call.0) ∙ sym c.exit.ensures in
    let (j, low, read) = (c.callers_of-callers.ensures.listed x).1 (site, shape.entry c.args.procedure, call.1, same) in
    let at : slice_index c.callers_of-callers.result.now j ≡ x =
    sym (get_or_from_slice_get c.callers_of-callers.result.now j (slice_index c.callers_of-callers.result.now j) x
    (slice_get-get_or c.callers_of-callers.result.now j 0 low)) ∙ read in
    subst (λ y. slice_index_or c.args.inside.now (shape.procedure_of y) false ≡ true) at
    (c.loop-caller.invariant j (omega (arith, low, c.loop-caller-test.false)))
