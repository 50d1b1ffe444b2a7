use Rattle.std.proofs.Common.{◌≡◌, ◌∙◌, ◌<◌, ◌%◌, true, false, Some, length, slice_get, sym, ap, subst, arith}
use Rattle.std.proofs.lemmas.Option.{slice_get-get_or}
use Rattle.flow_bounds.specs.Asked.{IsTrueOf}
use Rattle.flow_bounds.specs.declared.asked.Told.{Told}
use Rattle.flow_queries.specs.code.Directions.{selection_of}
use Rattle.flow_queries.specs.code.Splits.{IsKnownBit}
use Rattle.flow_queries.specs.declared.query.Query.{Query}
use Rattle.flow_queries.proofs.queries.Splitting.{had_is_known, lacked_is_known}
use Rattle.flow_queries.proofs.splitting.put_told.Goals as goal

pub put_settled-requires-clause-known : goal.put_settled-requires-clause-known
put_settled-requires-clause-known c = λ rest there.
    let program = c.args.solvers.now in
    let ask = c.args.settled.ask in
    let own = c.index.result.now in
    let left = c.args.split.now.left.items in
    let low : c.args.settled.number < length left = omega (arith, c.if-number-len.false, c.len.ensures) in
    let both : Some own ≡ Some rest =
    ap Some c.index.ensures ∙ sym (slice_get-get_or left c.args.settled.number own low) ∙ there in
    let same : own ≡ rest = cc both in
    let told = subst (λ (t : Told). IsTrueOf (selection_of program c.args.analysis) ask t) c.in-Has.is c.requires.told in
    subst (λ (q : Query). IsKnownBit program q (ask.column % 64) true) same
    (had_is_known program own c.args.analysis ask (c.asks_for.ensures c.if-not-asks_for.false) c.requires.ask told)

pub put_settled-requires-in-Lacks-clause-known : goal.put_settled-requires-in-Lacks-clause-known
put_settled-requires-in-Lacks-clause-known c = λ rest there.
    let program = c.args.solvers.now in
    let ask = c.args.settled.ask in
    let own = c.index.result.now in
    let left = c.args.split.now.left.items in
    let low : c.args.settled.number < length left = omega (arith, c.if-number-len.false, c.len.ensures) in
    let both : Some own ≡ Some rest =
    ap Some c.index.ensures ∙ sym (slice_get-get_or left c.args.settled.number own low) ∙ there in
    let same : own ≡ rest = cc both in
    let told = subst (λ (t : Told). IsTrueOf (selection_of program c.args.analysis) ask t) c.in-Lacks.is c.requires.told in
    subst (λ (q : Query). IsKnownBit program q (ask.column % 64) false) same
    (lacked_is_known program own c.args.analysis ask (c.asks_for.ensures c.if-not-asks_for.false) told)
