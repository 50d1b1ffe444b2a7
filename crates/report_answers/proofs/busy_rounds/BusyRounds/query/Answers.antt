use Rattle.std.proofs.Common.{rules, ◌≡◌, ◌∙◌, ◌*◌, ◌^◌, ◌≤◌, ℕ, List, length, sym, ap, subst}
use Rattle.flow_queries.specs.declared.query.Query.{Query}
use Rattle.report_answers.specs.code.Querying.{Queries}
use Rattle.report_answers.specs.declared.chosen_bits.ChosenBits.{ChosenBits}
use Rattle.report_answers.proofs.busy.Asked.{queries_wider}
use Rattle.report_answers.proofs.busy_rounds.BusyRounds.query.Goals as goal

pub returns-then-branch-clause-queries : goal.returns-then-branch-clause-queries
returns-then-branch-clause-queries c =
    let inv = c.loop-halving.invariant in
    let new : List Query = c.query_words.new.queries.items in
    queries_wider c.args.self.now.chosen c.args.graph.now c.args.queries.now.items new c.loop-halving.self.share (2 ^ 25) inv.rounds.shared
    (subst (λ (old : List Query). Queries c.args.self.now.chosen c.args.graph.now old new c.loop-halving.self.share) inv.queries
    (subst (λ (chosen : ChosenBits). Queries chosen c.args.graph.now c.loop-halving.queries.items new c.loop-halving.self.share) inv.rounds.same_bits
    c.in_ok-query_words.ensures.queries))

pub returns-clause-queries : goal.returns-clause-queries
returns-clause-queries c =
    let inv = c.loop-halving.invariant in
    let new : List Query = c.query_words-2.new.queries.items in
    let most : ℕ = c.len.result * c.loop-halving.self.least in
    let count : c.len.result ≡ length c.loop-halving.self.tests.items = search rules in
    let few : most ≤ 2 ^ 25 =
    subst (λ n. n * c.loop-halving.self.least ≤ 2 ^ 25) (ap length (sym inv.rounds.same) ∙ sym count) inv.rounds.few in
    queries_wider c.args.self.now.chosen c.args.graph.now c.args.queries.now.items new most (2 ^ 25) few
    (subst (λ (old : List Query). Queries c.args.self.now.chosen c.args.graph.now old new most) inv.queries
    (subst (λ (chosen : ChosenBits). Queries chosen c.args.graph.now c.loop-halving.queries.items new most) inv.rounds.same_bits
    c.in_ok-query_words-2.ensures.queries))
