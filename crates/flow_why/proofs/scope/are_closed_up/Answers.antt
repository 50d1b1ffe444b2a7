use Rattle.std.proofs.Common.{◌≡◌, Bool, true, false, slice_index_or, refl}
use Rattle.flow_links.specs.Shapes.{directed_shape}
use Rattle.flow_why.proofs.solutions.Keeping.{marks_clash, not_marked}
use Rattle.flow_why.proofs.scope.are_closed_up.Goals as goal

pub returns : goal.returns
returns c all site x p call is = by_mark (slice_index_or c.args.marks.now ((directed_shape c.args.links.now).procedure_of x) false) refl where
  by_mark : (b : Bool) → slice_index_or c.args.marks.now ((directed_shape c.args.links.now).procedure_of x) false ≡ b → b ≡ true
  by_mark true mark = refl
  by_mark false mark =
      absurd (marks_clash c.in_ok-called.called.items c.as_slice.result.now p c.as_slice.ensures.value
      (c.in_ok-called.ensures.called site x p call.0 call mark is)
      (c.is_some_marked.ensures (not_marked c.is_some_marked.result all) p))
