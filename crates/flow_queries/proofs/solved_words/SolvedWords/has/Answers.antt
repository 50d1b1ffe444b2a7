use Rattle.std.proofs.Common.{◌≡◌, ◌∙◌, ◌+◌, ◌*◌, ◌<◌, ℕ, true, rules, ap, subst, arith}
use Rattle.bit_rows.specs.Words.{has_bit}
use Rattle.flow_graph.specs.Universes.{bits}
use Rattle.gen_kill.specs.Selections.{IsColumnOf, Selection}
use Rattle.tac_program.specs.Programs.{Program}
use Rattle.flow_queries.proofs.queries.Told.{same_bit}
use Rattle.flow_queries.proofs.solved_words.SolvedWords.has.Goals as goal

pub returns-clause-tells : goal.returns-clause-tells
returns-clause-tells c =
    let self : Selection = c.args.self.now in
    let query = c.args.query in
    let bit : ℕ = 64 * query.word + c.args.place in
    let is : c.problem-2.result.now ≡ self = c.problem-2.ensures ∙ c.self.view_is in
    let column = subst (λ (s : Selection). IsColumnOf s bit c.in-Some.column) is c.in-Some.ensures.found in
    let program = c.graph.ensures ∙ ap (λ (s : Selection). s.program) (c.problem.ensures ∙ c.self.view_is) in
    let count : c.bits-bits.result ≡ bits self.program query.analysis =
    c.bits-bits.ensures.count ∙ ap (λ (p : Program). bits p query.analysis) program in
    let below : bit < bits self.program query.analysis = omega (arith, count, c.if-bit-bits.false) in
    let asked : has_bit query.bits c.args.place ≡ true = search rules in
    let law = same_bit self query.analysis query.point bit c.in-Some.column c.requires.columns.goes column below in (
      (λ has. (asked, law.0 (c.has_column.ensures.tells.0 has))),
      (λ found. c.has_column.ensures.tells.1 (law.1 found.1)),
    )
