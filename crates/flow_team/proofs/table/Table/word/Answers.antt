use Rattle.std.proofs.Common.{◌≡◌, ◌∙◌, ◌+◌, ◌*◌, [], false, slice_index_or, sym, ap, subst}
use Rattle.bit_rows.specs.Words.{has_bit}
use Rattle.bit_rows.proofs.words.WordBits.{has_bit-zero}
use Rattle.flow_team.specs.Tables.{TableFacts, facts_of}
use Rattle.flow_team.specs.code.Complements.{members_of}
use Rattle.flow_team.proofs.facts.ExcerptTables.{in_front}
use Rattle.flow_team.proofs.table.Table.word.Goals as goal

pub returns-then-point-self-clause-set : goal.returns-then-point-self-clause-set
returns-then-point-self-clause-set c = λ k small.
    let inside = c.self.inside in
    let none = ap (λ ms. slice_index_or ms (64 * c.args.word + k) false)
    (in_front inside.first [] (members_of inside.words) c.args.point [] c.if-point-self.true) in
    subst (λ (t : TableFacts). has_bit 0 k ≡ (facts_of t).contains c.args.point (64 * c.args.word + k)) c.self.view_is
    (has_bit-zero k ∙ sym none)

pub returns-then-point-self-clause-past : goal.returns-then-point-self-clause-past
returns-then-point-self-clause-past c = λ k small past. has_bit-zero k
