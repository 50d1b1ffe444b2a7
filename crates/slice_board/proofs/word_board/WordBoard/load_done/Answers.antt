use Rattle.std.proofs.Common.{[], ◌∷◌, ◌++◌, ap, ◌∙◌, arith}
use Rattle.slice_board.specs.Passes.{PassState}
use Rattle.slice_board.specs.code.Words.{about_key}
use Rattle.slice_board.specs.code.Fields.{pass_state}
use Rattle.slice_board.specs.code.Plays.{load_of}
use Rattle.slice_board.proofs.passes.Keeps.{tells_at}
use Rattle.slice_board.proofs.passes.Passing.{sits, knows, kept_marks}
use Rattle.slice_board.proofs.words.Calls.{tally_is, tally_below, shows_own, finds_own, state_after, kept_after}
use Rattle.slice_board.proofs.word_board.WordBoard.load_done.Goals as goal

pub load-requires : goal.load-requires
load-requires g c =
    let laid = c.self.invariant in
    let is = c.self.view_is in
    let tally = tally_is laid is _ _ c.words_for.ensures c.slices.ensures.count in
    let below = tally_below laid is c.args.word c.requires.below in
    let wide = laid.wide in (
      sits laid is c.pass.view_is c.requires.of,
      omega arith,
      tells_at g.T.Wanted.wants (about_key c.self.inside.table.shared.key) _ _ c.args.word _ c.pass.inside.seat.me below (omega arith),
    )

pub invariant_of-pass : goal.invariant_of-pass
invariant_of-pass g c =
    let laid = c.self.invariant in
    let is = c.self.view_is in
    let p = c.pass.inside in
    let tally = tally_is laid is _ _ c.words_for.ensures c.slices.ensures.count in
    let told = c.load.ensures in
    let after = told.2 (about_key c.self.inside.table.shared.key) (knows laid is c.pass.view_is c.requires.of) c.args.word
    (tally_below laid is c.args.word c.requires.below) (omega arith) in
    kept_after p.seat.me p.held p.next told.0 after.0 c.pass.invariant.1
    (kept_marks (pass_state p.seat.table_id p.seat.me.0 p.held p.next) p.seat.me.0.posted p.seat.me.0.seen
    (p.seat.me.0.counted ++ load_of c.args.word c.load.result ∷ []) c.pass.invariant.0)

pub returns-clause-counted : goal.returns-clause-counted
returns-clause-counted g c =
    let laid = c.self.invariant in
    let is = c.self.view_is in
    let p = c.pass.inside in
    let tally = tally_is laid is _ _ c.words_for.ensures c.slices.ensures.count in
    let told = c.load.ensures in
    let after = told.2 (about_key c.self.inside.table.shared.key) (knows laid is c.pass.view_is c.requires.of) c.args.word
    (tally_below laid is c.args.word c.requires.below) (omega arith) in
    state_after p.seat.me p.held p.next told.0 after.0
    ∙ ap (λ (q : PassState _). record q { counted = q.counted ++ load_of c.args.word c.load.result ∷ [] }) c.pass.view_is

pub returns-clause-own : goal.returns-clause-own
returns-clause-own g c =
    let laid = c.self.invariant in
    let is = c.self.view_is in
    let tally = tally_is laid is _ _ c.words_for.ensures c.slices.ensures.count in
    let after = c.load.ensures.2 (about_key c.self.inside.table.shared.key) (knows laid is c.pass.view_is c.requires.of) c.args.word
    (tally_below laid is c.args.word c.requires.below) (omega arith) in
    shows_own laid is c.pass.view_is c.requires.of c.args.word c.load.result after.1

pub returns-clause-found : goal.returns-clause-found
returns-clause-found g c =
    let laid = c.self.invariant in
    let is = c.self.view_is in
    let tally = tally_is laid is _ _ c.words_for.ensures c.slices.ensures.count in
    let after = c.load.ensures.2 (about_key c.self.inside.table.shared.key) (knows laid is c.pass.view_is c.requires.of) c.args.word
    (tally_below laid is c.args.word c.requires.below) (omega arith) in
    finds_own laid is c.pass.view_is c.requires.of after.2
