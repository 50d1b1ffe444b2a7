use Rattle.std.proofs.Common.{◌≡◌, ◌∙◌, ◌<◌, Some, length, slice_get, sym, ap, subst, arith}
use Rattle.std.proofs.lemmas.Option.{slice_get-get_or}
use Rattle.flow_bounds.specs.Asked.{IsTrueOf}
use Rattle.flow_bounds.specs.declared.asked.Told.{Told}
use Rattle.flow_queries.specs.code.Directions.{selection_of}
use Rattle.flow_queries.proofs.splitting.put_all_told.Goals as goal

pub put_told-requires-clause-split : goal.put_told-requires-clause-split
put_told-requires-clause-split c = c.loop-i.invariant

pub put_told-requires-clause-ask : goal.put_told-requires-clause-ask
put_told-requires-clause-ask c =
    let asks = c.args.asked.now.asks.items in
    let ask = c.index-ask.result.now in
    let low : c.loop-i.i < length asks = omega (arith, c.loop-i-test.true, c.shortest-i-end.ensures.asks) in
    c.requires.asks c.loop-i.i ask (slice_get-get_or asks c.loop-i.i ask low ∙ ap Some (sym c.index-ask.ensures))

pub put_told-requires-clause-told : goal.put_told-requires-clause-told
put_told-requires-clause-told c =
    let selection = selection_of c.args.solvers.now c.args.analysis in
    let asks = c.args.asked.now.asks.items in
    let ask = c.index-ask.result.now in
    let low : c.loop-i.i < length asks = omega (arith, c.loop-i-test.true, c.shortest-i-end.ensures.asks) in
    subst (λ (t : Told). IsTrueOf selection ask t) c.told_at-told.ensures
    (c.requires.told.each c.loop-i.i ask (slice_get-get_or asks c.loop-i.i ask low ∙ ap Some (sym c.index-ask.ensures)))
