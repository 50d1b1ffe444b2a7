use Rattle.std.proofs.Common.{ap, sym, subst, ◌∙◌, arith, IsSome, is_some}
use Rattle.slice_board.specs.Passes.{PassState, times}
use Rattle.slice_board.specs.code.Words.{about_key}
use Rattle.slice_board.specs.code.Fields.{pass_state, IsKept}
use Rattle.slice_board.proofs.words.Sums.{times-append}
use Rattle.slice_board.proofs.passes.Keeps.{joins, checks}
use Rattle.slice_board.proofs.passes.Passing.{sits, knows, kept_joined, is_none}
use Rattle.slice_board.proofs.word_board.WordBoard.join.Goals as goal
use Rattle.slice_board.proofs.word_board.WordBoard.join.Goals.{else-is_some-via-then-is_some+else-is_some-2, else-is_some-via-else-is_some}

pub join_seat-requires : goal.join_seat-requires
join_seat-requires g c =
    let laid = c.self.invariant in
    let is = c.self.view_is in
    let wide = laid.wide in (
      sits laid is c.first.view_is c.requires.first,
      sits laid is c.second-2.view_is c.requires.second,
      c.second-2.invariant.1,
      omega arith,
      joins g.T.Wanted.wants (about_key c.self.inside.table.shared.key) _ c.first.inside.seat.me.0 _ c.second-2.inside.seat.me.0,
    )

pub load-requires : goal.load-requires
load-requires g c =
    let laid = c.self.invariant in
    let is = c.self.view_is in
    let wide = laid.wide in (
      c.join_seat.ensures.0 ∙ sits laid is c.first.view_is c.requires.first,
      omega arith,
      checks g.T.Wanted.wants (about_key c.self.inside.table.shared.key) _ _ _ c.join_seat.new.seat.me,
    )

pub invariant_of-result : goal.invariant_of-result
invariant_of-result g c =
    let laid = c.self.invariant in
    let is = c.self.view_is in
    let p = c.first.inside in
    let q = c.second-2.inside in
    let after = c.load.ensures.2.0 ∙ c.join_seat.ensures.2 in
    let first : PassState _ = pass_state p.seat.table_id p.seat.me.0 p.held p.next in
    let second : PassState _ = pass_state q.seat.table_id q.seat.me.0 q.held q.next in
    let one : ¬ (IsSome p.held × IsSome q.held) = elim c.else-is_some.branch [
      | else-is_some-via-then-is_some+else-is_some-2 w ↦ λ some.
          is_none q.held (w.if-is_some-2.ensures ∙ ap (λ (r : PassState _). is_some r.held) (w.second.view_is ∙ sym c.second-2.view_is)) some.1
      | else-is_some-via-else-is_some w ↦ λ some. is_none p.held w.if-is_some.ensures some.0
    ] in
    let both = kept_joined first second (knows laid is c.first.view_is c.requires.first ∙ sym (knows laid is c.second-2.view_is c.requires.second))
    one c.first.invariant.0 c.second-2.invariant.0 in (
      subst IsKept (λ i. pass_state ((sym (c.load.ensures.0 ∙ c.join_seat.ensures.0)) i) (sym after i).0 (sym c.either_slice-held.ensures i)
          (sym c.max-next.ensures i)) both,
      (λ i. (after i).1) ∙ c.first.invariant.1,
    )

pub returns-clause-apart : goal.returns-clause-apart
returns-clause-apart g c s =
    let once = c.load.ensures.2.1 s in
    let a = times-append s c.first.inside.seat.me.0.claimed c.second-2.inside.seat.me.0.claimed in
    let e = ap (λ (m : _). times s m.0.claimed) c.join_seat.ensures.2 in
    omega (arith, ap (λ (q : PassState _). times s q.claimed) c.first.view_is, ap (λ (q : PassState _). times s q.claimed) c.second-2.view_is)
