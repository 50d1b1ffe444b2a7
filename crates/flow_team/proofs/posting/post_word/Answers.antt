use Rattle.std.proofs.Common.{◌≡◌, ◌↔◌, ℕ, ◌+◌, ◌*◌, ◌%◌, ◌<◌, ◌≤◌, true, [], ◌∷◌, ◌++◌, sym, subst}
use Rattle.bit_rows.specs.Words.{has_bit}
use Rattle.slice_board.specs.Passes.{PassState, IsLogged, logged_word}
use Rattle.flow_team.proofs.posts.Posts.{marked_last, none_of_zero, word_has}
use Rattle.flow_team.proofs.posting.post_word.Goals as goal

pub returns-then-mask-eq0-clause-posted : goal.returns-then-mask-eq0-clause-posted
returns-then-mask-eq0-clause-posted g c = λ p bit want low high at.
    let wanted = g.W.Wanted.wants c.args.board.now.wanted in
    let slice = c.args.slice.now in
    let has = word_has wanted slice.lo slice.hi c.args.point c.args.word c.word-mask.result
    (λ k small. subst (λ (n : ℕ). (has_bit n k ≡ true)
    ↔ ((slice.lo ≤ 64 * c.args.word + k) × (64 * c.args.word + k < slice.hi) × wanted c.args.point (64 * c.args.word + k)))
    (sym c.word-mask.ensures) (c.requires.words c.args.word k c.requires.from c.requires.until small))
    p bit at.0 at.1 want low high in
    absurd (none_of_zero (bit % 64) (subst (λ (n : ℕ). has_bit n (bit % 64) ≡ true) c.if-mask-eq0.true has))

pub returns-clause-posted : goal.returns-clause-posted
returns-clause-posted g c = λ p bit want low high at.
    let wanted = g.W.Wanted.wants c.args.board.now.wanted in
    let slice = c.args.slice.now in
    let has = word_has wanted slice.lo slice.hi c.args.point c.args.word c.word-mask.result
    (λ k small. subst (λ (n : ℕ). (has_bit n k ≡ true)
    ↔ ((slice.lo ≤ 64 * c.args.word + k) × (64 * c.args.word + k < slice.hi) × wanted c.args.point (64 * c.args.word + k)))
    (sym c.word-mask.ensures) (c.requires.words c.args.word k c.requires.from c.requires.until small))
    p bit at.0 at.1 want low high in
    subst (λ (pass : PassState _). IsLogged pass.posted p bit) (sym c.post.ensures)
    (subst (λ (n : ℕ). IsLogged (c.args.pass.now.posted ++ logged_word c.args.point c.args.word c.word-mask.result ∷ []) n bit) (sym at.0)
    (marked_last c.args.pass.now.posted c.args.point c.args.word c.word-mask.result bit at.1 has))
