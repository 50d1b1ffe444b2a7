use Rattle.std.proofs.Common.{◌≡◌, ◌∙◌, ◌<◌, ℕ, Some, length, slice_get, slice_index, sym, ap, subst, arith}
use Rattle.std.proofs.lemmas.Grind.{get_or_default_zero}
use Rattle.std.proofs.lemmas.Option.{slice_get-get_or}
use Rattle.flow_queries.specs.code.Boards.{IsArranged, Queried}
use Rattle.flow_queries.specs.code.Splits.{AreSplit, IsSplit}
use Rattle.flow_queries.proofs.queried.QueriedWords.left.Goals as goal

pub returns-clause-split : goal.returns-clause-split
returns-clause-split c = λ query there.
    let inside = c.self.inside in
    let found = inside.split.found.items in
    let queried = c.args.self.now in
    let rest = c.index-rest.result.now in
    let own = c.self.invariant.0.arranged in
    let arranged = (subst IsArranged c.self.view_is c.self.invariant.0).arranged in
    let split = subst (λ (a : Queried). AreSplit a.program a.queries a.left found) c.self.view_is c.self.invariant.2 in
    let low : c.args.j < length queried.queries = omega (arith, c.requires, arranged.count) in
    let low_in : c.args.j < length inside.queries.items = subst (λ (a : Queried). c.args.j < length a.queries) (sym c.self.view_is) low in
    let place : ℕ = slice_index queried.places c.args.j in
    let at : c.index.result.now ≡ place =
    c.index.ensures ∙ get_or_default_zero inside.places.items c.args.j c.index.result.now (omega (arith, low_in, own.size))
    ∙ ap (λ (a : Queried). slice_index a.places c.args.j) c.self.view_is in
    let within = arranged.within c.args.j low in
    let here : c.index.result.now < length queried.left = omega (arith, at, within, split.left_count) in
    let here_in : c.index.result.now < length inside.split.left.items =
    subst (λ (a : Queried). c.index.result.now < length a.left) (sym c.self.view_is) here in
    let left_in : slice_get inside.split.left.items c.index.result.now ≡ Some rest =
    slice_get-get_or inside.split.left.items c.index.result.now rest here_in ∙ ap Some (sym c.index-rest.ensures) in
    let left_is : slice_get queried.left place ≡ Some rest =
    ap (slice_get queried.left) (sym at) ∙ ap (λ (a : Queried). slice_get a.left c.index.result.now) (sym c.self.view_is) ∙ left_in in
    let found_is : c.index-found.result.now ≡ slice_index found place =
    c.index-found.ensures
    ∙ get_or_default_zero found c.index.result.now c.index-found.result.now (omega (arith, at, within, split.found_count)) ∙ ap (slice_index found) at in
    subst (λ (n : ℕ). IsSplit queried.program query rest n) (sym found_is)
    (split.each place query rest (sym (arranged.each c.args.j low) ∙ there) left_is)
