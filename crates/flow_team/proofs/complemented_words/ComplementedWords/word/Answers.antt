use Rattle.std.proofs.Common.{◌≡◌, ℕ, ◌<◌, ◌+◌, ◌*◌, ◌&&◌, nat_lt, false, [], slice_index_or, length, sym, subst, ap, ◌∙◌, arith}
use Rattle.std.specs.Prelude.{bit_xor}
use Rattle.bit_rows.specs.RowTable.{RowTable}
use Rattle.bit_rows.specs.Words.{has_bit}
use Rattle.flow_graph.specs.Directions.{is_intersection}
use Rattle.flow_team.specs.code.Complements.{members_of}
use Rattle.flow_team.proofs.complements.ComplementedTables.{none_past, known_contains, word_complemented}
use Rattle.flow_team.proofs.complemented_words.ComplementedWords.word.Goals as goal

pub returns-clause-set : goal.returns-clause-set
returns-clause-set c =
    let inside = c.self.inside in
    let there : c.args.point < length inside.posted.flags = subst (λ (t : RowTable). c.args.point < length t.flags) (sym c.self.view_is) c.requires in
    subst (λ (t : RowTable). (k : ℕ) → k < 64
    → has_bit (bit_xor c.word.result c.complement_mask.result) k
    ≡ slice_index_or (slice_index_or (members_of t) c.args.point []) (64 * c.args.word + k) false) c.self.view_is
    (λ k small.
    word_complemented (is_intersection inside.join) inside.posted c.args.point there c.args.word c.word.result c.complement_mask.result
    (λ bit has. c.bits.ensures.within c.args.point bit has) c.word.ensures
    (λ j little. c.complement_mask.ensures j little ∙ ap (λ n. is_intersection inside.join && nat_lt (64 * c.args.word + j) n) c.bits.ensures.value)
    k small
    ∙ sym (known_contains (is_intersection inside.join) inside.posted c.args.point there (64 * c.args.word + k)))

pub returns-clause-past : goal.returns-clause-past
returns-clause-past c = λ k small past.
    let inside = c.self.inside in
    let there : c.args.point < length inside.posted.flags = subst (λ (t : RowTable). c.args.point < length t.flags) (sym c.self.view_is) c.requires in
    word_complemented (is_intersection inside.join) inside.posted c.args.point there c.args.word c.word.result c.complement_mask.result
    (λ bit has. c.bits.ensures.within c.args.point bit has) c.word.ensures
    (λ k small. c.complement_mask.ensures k small ∙ ap (λ n. is_intersection inside.join && nat_lt (64 * c.args.word + k) n) c.bits.ensures.value)
    k small
    ∙ none_past (is_intersection inside.join) inside.posted c.args.point there (64 * c.args.word + k) (omega
    (arith, past, ap (λ (t : RowTable). t.hi) c.self.view_is))
