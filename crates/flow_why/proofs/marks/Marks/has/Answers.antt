use Rattle.std.proofs.Common.{◌≡◌, ◌<◌, ◌↔◌, true, not, nat_eq, get_or, length, sym, subst}
use Rattle.std.proofs.lemmas.List.{get_or_read}
use Rattle.flow_why.specs.code.Found.{IsThere, MarkList}
use Rattle.flow_why.proofs.found.Indexed.{has_of}
use Rattle.flow_why.proofs.marks.Marks.has.Goals as goal

pub returns : goal.returns
returns c =
    let here = c.self.inside in
    let low : c.args.point < length here.places.items = subst (λ (m : MarkList). c.args.point < m.points) (sym c.self.view_is) c.requires in
    let read : c.index.result.now ≡ get_or here.places.items c.args.point 0 =
    get_or_read here.places.items c.args.point c.index.result.now low c.index.ensures 0 in
    subst (λ (m : MarkList). (not (nat_eq c.index.result.now 0) ≡ true) ↔ IsThere m c.args.point) c.self.view_is
    (subst (λ n. (not (nat_eq n 0) ≡ true) ↔ IsThere
    (record { points = length here.places.items; found = here.found.items; taken = here.taken }) c.args.point)
    (sym read) (has_of here.found.items here.places.items here.taken c.self.invariant c.args.point low))
