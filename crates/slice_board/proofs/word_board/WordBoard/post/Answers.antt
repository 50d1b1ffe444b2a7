use Rattle.std.proofs.Common.{[], ◌∷◌, ◌++◌, ap, ◌∙◌}
use Rattle.slice_board.specs.Passes.{PassState, logged_word}
use Rattle.slice_board.specs.code.Words.{about_key}
use Rattle.slice_board.specs.code.Fields.{pass_state}
use Rattle.slice_board.proofs.passes.Keeps.{puts_at}
use Rattle.slice_board.proofs.passes.Passing.{sits, knows, kept_marks, same_table}
use Rattle.slice_board.proofs.words.Calls.{place_of, row_is, wanted_mask, state_after, kept_after}
use Rattle.slice_board.proofs.word_board.WordBoard.post.Goals as goal

pub fetch_or-requires : goal.fetch_or-requires
fetch_or-requires g c =
    let laid = c.self.invariant in
    let is = c.self.view_is in
    let place = place_of laid is c.args.point c.args.word c.requires.place in (
      sits laid is c.pass.view_is c.requires.of,
      rw (ap (λ (t : _). t.words) (same_table laid is)) c.row_place-place.ensures.present,
      puts_at g.T.Wanted.wants (about_key c.self.inside.table.shared.key)
          _ _ c.args.point c.args.word c.args.mask _ c.pass.inside.seat.me place.0 place.1
          (wanted_mask laid is c.args.point c.args.word c.args.mask c.ranges.mask.fits c.requires.wanted)
          (row_is laid is _ c.args.point c.args.word c.row_place-place.ensures.value),
    )

pub invariant_of-pass : goal.invariant_of-pass
invariant_of-pass g c =
    let laid = c.self.invariant in
    let is = c.self.view_is in
    let p = c.pass.inside in
    let place = place_of laid is c.args.point c.args.word c.requires.place in
    let told = c.fetch_or.ensures in
    let after = told.2 (about_key c.self.inside.table.shared.key) (knows laid is c.pass.view_is c.requires.of) c.args.point c.args.word place.0
    (row_is laid is _ c.args.point c.args.word c.row_place-place.ensures.value) in
    kept_after p.seat.me p.held p.next told.0 after c.pass.invariant.1
    (kept_marks (pass_state p.seat.table_id p.seat.me.0 p.held p.next) (p.seat.me.0.posted ++ logged_word c.args.point c.args.word c.args.mask ∷ [])
    p.seat.me.0.seen p.seat.me.0.counted c.pass.invariant.0)

pub returns : goal.returns
returns g c =
    let laid = c.self.invariant in
    let is = c.self.view_is in
    let p = c.pass.inside in
    let place = place_of laid is c.args.point c.args.word c.requires.place in
    let told = c.fetch_or.ensures in
    let after = told.2 (about_key c.self.inside.table.shared.key) (knows laid is c.pass.view_is c.requires.of) c.args.point c.args.word place.0
    (row_is laid is _ c.args.point c.args.word c.row_place-place.ensures.value) in
    state_after p.seat.me p.held p.next told.0 after
    ∙ ap (λ (q : PassState _). record q { posted = q.posted ++ logged_word c.args.point c.args.word c.args.mask ∷ [] }) c.pass.view_is
