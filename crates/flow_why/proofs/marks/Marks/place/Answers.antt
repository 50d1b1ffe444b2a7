use Rattle.std.proofs.Common.{◌≡◌, ◌<◌, ◌-◌, get_or, length, sym, subst}
use Rattle.std.proofs.lemmas.List.{get_or_read}
use Rattle.flow_why.specs.code.Found.{IsPlaceOf, IsThere, MarkList}
use Rattle.flow_why.proofs.found.Indexed.{place_of, unmarked}
use Rattle.flow_why.proofs.marks.Marks.place.Goals as goal

pub returns-then-place-eq0 : goal.returns-then-place-eq0
returns-then-place-eq0 c there =
    let here = c.self.inside in
    let low : c.args.point < length here.places.items = subst (λ (m : MarkList). c.args.point < m.points) (sym c.self.view_is) c.requires in
    let read : c.index-place.result.now ≡ get_or here.places.items c.args.point 0 =
    get_or_read here.places.items c.args.point c.index-place.result.now low c.index-place.ensures 0 in
    unmarked here.found.items here.places.items here.taken c.self.invariant c.args.point (subst (λ n. n ≡ 0) read c.if-place-eq0.true)
    (subst (λ (m : MarkList). IsThere m c.args.point) (sym c.self.view_is) there)

pub returns-else-place-eq0 : goal.returns-else-place-eq0
returns-else-place-eq0 c =
    let here = c.self.inside in
    let low : c.args.point < length here.places.items = subst (λ (m : MarkList). c.args.point < m.points) (sym c.self.view_is) c.requires in
    let read : c.index-place.result.now ≡ get_or here.places.items c.args.point 0 =
    get_or_read here.places.items c.args.point c.index-place.result.now low c.index-place.ensures 0 in
    subst (λ (m : MarkList). IsPlaceOf m c.args.point (c.index-place.result.now - 1)) c.self.view_is
    (place_of here.found.items here.places.items here.taken c.self.invariant c.args.point c.index-place.result.now low (sym read)
    c.if-place-eq0.false)
