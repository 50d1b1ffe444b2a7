use Rattle.std.proofs.Common.{[], ◌∷◌, ◌++◌, ◌+◌, ◌*◌, ap, sym, subst, ◌∙◌}
use Rattle.slice_board.specs.Passes.{PassState, logged_word, IsLogged}
use Rattle.slice_board.specs.code.Words.{about_key}
use Rattle.slice_board.specs.code.Fields.{pass_state}
use Rattle.slice_board.proofs.passes.Keeps.{looks_at}
use Rattle.slice_board.proofs.passes.Passing.{sits, knows, kept_marks, same_table, same_wanted}
use Rattle.slice_board.proofs.words.Calls.{place_of, row_is, at_place, one_of_bit, bit_of_one, state_after, kept_after}
use Rattle.slice_board.proofs.word_board.WordBoard.look.Goals as goal

pub load-requires : goal.load-requires
load-requires g c =
    let laid = c.self.invariant in
    let is = c.self.view_is in
    let place = place_of laid is c.args.point c.args.word c.requires.place in (
      sits laid is c.pass.view_is c.requires.of,
      rw (ap (λ (t : _). t.words) (same_table laid is)) c.row_place-place.ensures.present,
      looks_at g.T.Wanted.wants (about_key c.self.inside.table.shared.key) _ _ c.args.point c.args.word _ c.pass.inside.seat.me place.0 place.1
          (row_is laid is _ c.args.point c.args.word c.row_place-place.ensures.value),
    )

pub invariant_of-pass : goal.invariant_of-pass
invariant_of-pass g c =
    let laid = c.self.invariant in
    let is = c.self.view_is in
    let p = c.pass.inside in
    let place = place_of laid is c.args.point c.args.word c.requires.place in
    let told = c.load.ensures in
    let after = told.2 (about_key c.self.inside.table.shared.key) (knows laid is c.pass.view_is c.requires.of)
    c.args.point c.args.word place.0 place.1 (row_is laid is _ c.args.point c.args.word c.row_place-place.ensures.value) in
    kept_after p.seat.me p.held p.next told.0 after.0 c.pass.invariant.1
    (kept_marks (pass_state p.seat.table_id p.seat.me.0 p.held p.next) p.seat.me.0.posted
    (p.seat.me.0.seen ++ logged_word c.args.point c.args.word c.load.result ∷ []) p.seat.me.0.counted c.pass.invariant.0)

pub returns-clause-seen : goal.returns-clause-seen
returns-clause-seen g c =
    let laid = c.self.invariant in
    let is = c.self.view_is in
    let p = c.pass.inside in
    let place = place_of laid is c.args.point c.args.word c.requires.place in
    let told = c.load.ensures in
    let after = told.2 (about_key c.self.inside.table.shared.key) (knows laid is c.pass.view_is c.requires.of)
    c.args.point c.args.word place.0 place.1 (row_is laid is _ c.args.point c.args.word c.row_place-place.ensures.value) in
    state_after p.seat.me p.held p.next told.0 after.0
    ∙ ap (λ (q : PassState _). record q { seen = q.seen ++ logged_word c.args.point c.args.word c.load.result ∷ [] }) c.pass.view_is

pub returns-clause-own : goal.returns-clause-own
returns-clause-own g c i within marked =
    let laid = c.self.invariant in
    let is = c.self.view_is in
    let place = place_of laid is c.args.point c.args.word c.requires.place in
    let after = c.load.ensures.2 (about_key c.self.inside.table.shared.key) (knows laid is c.pass.view_is c.requires.of)
    c.args.point c.args.word place.0 place.1 (row_is laid is _ c.args.point c.args.word c.row_place-place.ensures.value) in
    bit_of_one c.load.result i (after.1 i (at_place _ c.args.point c.args.word i within (subst (λ (q : PassState _).
    IsLogged q.posted c.args.point (64 * c.args.word + i)) (sym c.pass.view_is) marked)))

pub returns-clause-again : goal.returns-clause-again
returns-clause-again g c i within marked =
    let laid = c.self.invariant in
    let is = c.self.view_is in
    let place = place_of laid is c.args.point c.args.word c.requires.place in
    let after = c.load.ensures.2 (about_key c.self.inside.table.shared.key) (knows laid is c.pass.view_is c.requires.of)
    c.args.point c.args.word place.0 place.1 (row_is laid is _ c.args.point c.args.word c.row_place-place.ensures.value) in
    bit_of_one c.load.result i (after.2 i (at_place _ c.args.point c.args.word i within (subst (λ (q : PassState _).
    IsLogged q.seen c.args.point (64 * c.args.word + i)) (sym c.pass.view_is) marked)))

pub returns-clause-wanted : goal.returns-clause-wanted
returns-clause-wanted g c i within set =
    let laid = c.self.invariant in
    let is = c.self.view_is in
    let place = place_of laid is c.args.point c.args.word c.requires.place in
    let after = c.load.ensures.2 (about_key c.self.inside.table.shared.key) (knows laid is c.pass.view_is c.requires.of)
    c.args.point c.args.word place.0 place.1 (row_is laid is _ c.args.point c.args.word c.row_place-place.ensures.value) in
    subst (λ (t : _). g.T.Wanted.wants t c.args.point (64 * c.args.word + i)) (same_wanted laid is) (after.3 i (one_of_bit c.load.result i set))
