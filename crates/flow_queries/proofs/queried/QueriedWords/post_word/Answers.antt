use Rattle.std.proofs.Common.{◌≡◌, ◌*◌, ◌+◌, ◌%◌, ℕ, true, sym, subst, arith}
use Rattle.std.proofs.lemmas.Option.{slice_get_within}
use Rattle.bit_rows.specs.Words.{has_bit}
use Rattle.flow_queries.specs.code.Boards.{Queried, IsWanted}
use Rattle.flow_team.proofs.posts.Posts.{marked_last, none_of_zero}
use Rattle.slice_board.specs.Passes.{PassState, IsLogged}
use Rattle.flow_queries.proofs.queries.Done.{query_has, query_wants}
use Rattle.flow_queries.proofs.queried.QueriedWords.post_word.Goals as goal

pub returns-then-word-eq0-clause-done : goal.returns-then-word-eq0-clause-done
returns-then-word-eq0-clause-done c = λ bit want at.
    let has = query_has c.args.self.now c.args.j c.args._query c.args.word c.requires.there c.requires.tells bit want at in
    absurd (none_of_zero (bit % 64) (subst (λ (n : ℕ). has_bit n (bit % 64) ≡ true) c.if-word-eq0.true has))

pub post-requires-clause-place : goal.post-requires-clause-place
post-requires-clause-place c =
    let within = slice_get_within c.args.self.now.order c.args.j c.args._query c.requires.there in
    (omega (arith, c.requires.on.one), omega (arith, within, c.requires.on.words))

pub post-requires-clause-wanted : goal.post-requires-clause-wanted
post-requires-clause-wanted c = λ k small has.
    subst (λ (queried : Queried). IsWanted queried 0 (64 * c.args.j + k)) (sym c.requires.on.wanted)
    (query_wants c.args.self.now c.args.j c.args._query c.args.word c.requires.there c.requires.tells k small has)

pub returns-clause-done : goal.returns-clause-done
returns-clause-done c = λ bit want at.
    let has = query_has c.args.self.now c.args.j c.args._query c.args.word c.requires.there c.requires.tells bit want at in
    subst (λ (pass : PassState _). IsLogged pass.posted 0 bit) (sym c.post.ensures)
    (marked_last c.args.pass.now.posted 0 c.args.j c.args.word bit at has)
