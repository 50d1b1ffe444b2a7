use Rattle.std.proofs.Common.{◌≡◌, ◌<◌, arith, rules, length, vec_len, set, true, sym, subst, ap, ◌∙◌}
use Rattle.worklist.proofs.words.MarkLemmas.{low_of, word_of, puts}
use Rattle.worklist.proofs.worklist.Worklist.mark.Goals as goal

pub rank-rank-requires : goal.rank-rank-requires
rank-rank-requires c = low_of c.self.inside.words.items c.self.inside.order c.args.point c.args.self.now c.self.view_is c.requires

pub index_mut-requires : goal.index_mut-requires
index_mut-requires c =
    let len : vec_len c.self.inside.words ≡ length c.self.inside.words.items = search rules in
    let low = low_of c.self.inside.words.items c.self.inside.order c.args.point c.args.self.now c.self.view_is c.requires in
    let rank : c.rank-rank.result < length c.self.inside.order =
    subst (λ n. n < length c.self.inside.order) (sym c.rank-rank.ensures.rank) (c.rank-rank.ensures.order.in_range c.args.point low) in
    let inside = word_of c.self.inside.words.items (length c.self.inside.order) c.rank-rank.result c.self.invariant rank in
    omega (arith, len, inside)

pub invariant_of-self : goal.invariant_of-self
invariant_of-self c =
    let low = low_of c.self.inside.words.items c.self.inside.order c.args.point c.args.self.now c.self.view_is c.requires in
    (puts c.self.inside.words.items c.self.inside.order c.args.point c.rank-rank.result c.index_mut.result.now c.self.invariant
    c.rank-rank.ensures.order low c.rank-rank.ensures.rank c.index_mut.ensures.value).holds

pub returns : goal.returns
returns c =
    let low = low_of c.self.inside.words.items c.self.inside.order c.args.point c.args.self.now c.self.view_is c.requires in
    (puts c.self.inside.words.items c.self.inside.order c.args.point c.rank-rank.result c.index_mut.result.now c.self.invariant
    c.rank-rank.ensures.order low c.rank-rank.ensures.rank c.index_mut.ensures.value).worklist
    ∙ ap (λ worklist. set worklist c.args.point true) c.self.view_is
