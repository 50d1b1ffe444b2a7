use Rattle.std.proofs.Common.{◌≡◌, ◌<◌, List, length, subst, sym}
use Rattle.flow_why.specs.code.Found.{IsIndexed, point_at}
use Rattle.flow_why.specs.declared.mark.Mark.{Mark}
use Rattle.flow_why.proofs.found.Blanking.{none_indexed}
use Rattle.flow_why.proofs.marks.Marks.clear.Goals as goal

pub blank_again-requires-clause-marked : goal.blank_again-requires-clause-marked
blank_again-requires-clause-marked c x i low at =
    let here = c.self.invariant.marked x i low at in
    subst (λ (f : List Mark). (i < length f) × (point_at f i ≡ x)) (sym c.as_slice.ensures.value) here

pub invariant_of-self : goal.invariant_of-self
invariant_of-self c =
    let here = c.self.inside in
    subst (λ (f : List Mark). IsIndexed f c.blank_again.new.places.items 0) (sym c.clear.ensures.items)
    (none_indexed here.found.items here.places.items here.taken c.blank_again.new.places.items c.self.invariant c.blank_again.ensures.count
    c.blank_again.ensures.blank)
