use Rattle.std.proofs.Common.{◌≡◌, ◌<◌, ◌+◌, ◌∷◌, ◌++◌, [], get_or, set, length, arith, rules, sym, ◌∙◌, ap, subst}
use Rattle.std.proofs.Math.ListN.{length-append}
use Rattle.std.proofs.lemmas.List.{get_or_read}
use Rattle.flow_why.specs.code.Found.{IsIndexed, IsThere, MarkList}
use Rattle.flow_why.proofs.found.Indexed.{indexed_more, marked_there, put_nothing}
use Rattle.flow_why.proofs.marks.Marks.put.Goals as goal

pub returns-then-index-ne0 : goal.returns-then-index-ne0
returns-then-index-ne0 c =
    let here = c.self.inside in
    let point = c.args.mark.point in
    let low : point < length here.places.items = subst (λ (m : MarkList). point < m.points) (sym c.self.view_is) c.requires in
    let read : c.index.result.now ≡ get_or here.places.items point 0 = get_or_read here.places.items point c.index.result.now low c.index.ensures 0 in
    put_nothing c.args.self.now c.args.mark (subst (λ (m : MarkList). IsThere m point) c.self.view_is
    (marked_there here.found.items here.places.items here.taken c.self.invariant point low (λ same. c.if-index-ne0.true (read ∙ same))))

pub invariant_of-self-2 : goal.invariant_of-self-2
invariant_of-self-2 c =
    let here = c.self.inside in
    let found = here.found.items in
    let places = here.places.items in
    let mark = c.args.mark in
    let low : mark.point < length places = subst (λ (m : MarkList). mark.point < m.points) (sym c.self.view_is) c.requires in
    let read : c.index.result.now ≡ get_or places mark.point 0 = get_or_read places mark.point c.index.result.now low c.index.ensures 0 in
    let blank : get_or places mark.point 0 ≡ 0 = omega (arith, read, c.if-index-ne0.false) in
    let items : c.push.new.self.items ≡ found ++ mark ∷ [] = c.in_ok-push.ensures.items in
    let long : c.len.result ≡ length c.push.new.self.items = search rules in
    let count : length found + 1 ≡ c.len.result = sym (long ∙ (ap length items ∙ length-append found (mark ∷ []))) in
    subst (λ f. IsIndexed f (set places mark.point c.len.result) here.taken) (sym items)
    (subst (λ n. IsIndexed (found ++ mark ∷ []) (set places mark.point n) here.taken) count
    (indexed_more found places here.taken c.self.invariant mark low blank))
