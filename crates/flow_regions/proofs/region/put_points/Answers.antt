use Rattle.std.proofs.Common.{◌≡◌, ◌≤◌, ◌+◌, ◌-◌, ℕ, length, slice_index, subst, arith}
use Rattle.flow_links.specs.Shapes.{directed_shape}
use Rattle.flow_regions.specs.code.Lists.{Has}
use Rattle.flow_regions.proofs.region.put_points.Goals as goal

pub put_procedure-requires-clause-all : goal.put_procedure-requires-clause-all
put_procedure-requires-clause-all c x there same =
    c.of.ensures.has x (subst (λ p. Has c.args.listed.now p x) same (c.requires.listed.each x there))

pub returns-clause-few : goal.returns-clause-few
returns-clause-few c =
    let procedures : ℕ = (directed_shape c.args.links.now).procedures in
    let some = c.points.ensures.numbered.formed.root_in_range in
    let all : c.loop-procedure.procedure ≡ procedures = omega (arith, c.loop-procedure-test.false, c.loop-procedure.auto.procedure-end, c.procedures-procedure-end.ensures.count) in
    let up : procedures - 1 + 1 ≡ procedures = omega (arith, some) in
    let within = c.requires.listed.lists.within (procedures - 1) (omega (arith, some)) in
    let last : slice_index c.args.listed.now.starts.items procedures ≤ length c.args.listed.now.values.items =
    subst (λ k. slice_index c.args.listed.now.starts.items k ≤ length c.args.listed.now.values.items) up within in
    let here : length c.loop-procedure.points.items ≤ slice_index c.args.listed.now.starts.items procedures =
    subst (λ k. length c.loop-procedure.points.items ≤ slice_index c.args.listed.now.starts.items k) all c.loop-procedure.invariant.many in
    omega (arith, last, here, c.requires.listed.count, c.points.ensures.few)
