use Rattle.std.proofs.Common.{[], ◌∷◌, ◌++◌, ◌%◌, ap, ◌∙◌, arith, None}
use Rattle.std.proofs.lemmas.Nat.{one_shl}
use Rattle.slice_board.specs.Passes.{PassState}
use Rattle.slice_board.specs.code.Words.{about_key}
use Rattle.slice_board.specs.code.Fields.{pass_state}
use Rattle.slice_board.proofs.passes.Keeps.{ends_at}
use Rattle.slice_board.proofs.passes.Passing.{sits, knows, kept_finish}
use Rattle.slice_board.proofs.words.Calls.{tally_is, slice_low, is_posted, state_after, kept_after}
use Rattle.slice_board.proofs.word_board.WordBoard.finish.Goals as goal

pub fetch_or-requires : goal.fetch_or-requires
fetch_or-requires g c =
    let laid = c.self.invariant in
    let is = c.self.view_is in
    let low = slice_low laid is c.pass.view_is c.requires.of c.args.slice c.pass.invariant.0 c.requires.held in
    let tally = tally_is laid is _ _ c.words_for.ensures c.slices.ensures.count in
    let wide = laid.wide in
    let low0 = low.0 in (
      sits laid is c.pass.view_is c.requires.of,
      omega arith,
      ends_at g.T.Wanted.wants (about_key c.self.inside.table.shared.key) _ _ c.args.slice _ _ c.pass.inside.seat.me low.0 low.1
          (is_posted laid is c.pass.view_is c.requires.of c.args.slice c.requires.posted)
          (one_shl (c.args.slice % 64) 64 (omega arith)) (omega arith),
    )

pub invariant_of-pass : goal.invariant_of-pass
invariant_of-pass g c =
    let laid = c.self.invariant in
    let is = c.self.view_is in
    let p = c.pass.inside in
    let tally = tally_is laid is _ _ c.words_for.ensures c.slices.ensures.count in
    let told = c.fetch_or.ensures in
    let after = told.2 (about_key c.self.inside.table.shared.key) (knows laid is c.pass.view_is c.requires.of) c.args.slice (omega arith)
    (one_shl (c.args.slice % 64) 64 (omega arith)) in
    kept_after p.seat.me None p.next told.0 after c.pass.invariant.1
    (kept_finish (pass_state p.seat.table_id p.seat.me.0 p.held p.next) c.args.slice
    (ap (λ (q : PassState _). q.held) c.pass.view_is ∙ c.requires.held) c.pass.invariant.0)

pub returns : goal.returns
returns g c =
    let laid = c.self.invariant in
    let is = c.self.view_is in
    let p = c.pass.inside in
    let tally = tally_is laid is _ _ c.words_for.ensures c.slices.ensures.count in
    let told = c.fetch_or.ensures in
    let after = told.2 (about_key c.self.inside.table.shared.key) (knows laid is c.pass.view_is c.requires.of) c.args.slice (omega arith)
    (one_shl (c.args.slice % 64) 64 (omega arith)) in
    state_after p.seat.me None p.next told.0 after
    ∙ ap (λ (q : PassState _). record q { finished = q.finished ++ c.args.slice ∷ []; held = None }) c.pass.view_is
