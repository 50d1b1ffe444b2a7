use Rattle.std.proofs.Common.{◌+◌, ◌%◌, ◌++◌, ◌∷◌, [], ap, sym, ◌∙◌, subst, arith, Some}
use Rattle.std.proofs.lemmas.Nat.{one_shl}
use Rattle.slice_board.specs.Passes.{PassState}
use Rattle.slice_board.specs.code.Words.{about_key}
use Rattle.slice_board.specs.code.Fields.{pass_state, IsKept}
use Rattle.slice_board.proofs.passes.Keeps.{draws_by}
use Rattle.slice_board.proofs.passes.Passing.{sits, knows, next_below, drawn_free, drawn_taken, if_same, if_other, kept_claim, kept_find}
use Rattle.slice_board.proofs.word_board.WordBoard.draw_slice.Goals as goal

pub fetch_or-before-requires : goal.fetch_or-before-requires
fetch_or-before-requires g c =
    let p = c.pass.inside in
    let below = next_below c.self.invariant c.self.view_is c.pass.view_is c.requires.of c.requires.more in
    let wide = c.self.invariant.wide in (
      sits c.self.invariant c.self.view_is c.pass.view_is c.requires.of,
      omega arith,
      draws_by g.T.Wanted.wants (about_key c.self.inside.table.shared.key) _ _ p.next _ p.seat.me
          (knows c.self.invariant c.self.view_is c.pass.view_is c.requires.of) below (one_shl (p.next % 64) 64 (omega arith)),
    )

pub overflow_add-pass : goal.overflow_add-pass
overflow_add-pass g c = omega (arith, c.requires.fits, ap (λ (p : PassState _). p.next) c.pass.view_is)

pub invariant_of-pass : goal.invariant_of-pass
invariant_of-pass g c =
    let p = c.pass.inside in
    let told = c.fetch_or-before.ensures in
    let after = drawn_free 0 p.next _ c.fetch_or-before.result told.2 (one_shl (p.next % 64) 64 (omega arith)) c.if-free.true in
    let old : PassState _ = pass_state p.seat.table_id p.seat.me.0 p.held p.next in
    let new = kept_claim old (about_key c.self.inside.table.shared.key) (knows c.self.invariant c.self.view_is c.pass.view_is c.requires.of)
    (next_below c.self.invariant c.self.view_is c.pass.view_is c.requires.of c.requires.more) c.pass.invariant.0
    (ap (λ (p : PassState _). p.held) c.pass.view_is ∙ c.requires.free) in
    (subst IsKept (λ i. pass_state (sym told.0 i) (sym after i).0 (Some p.next) (p.next + 1)) new, (λ i. (after i).1) ∙ c.pass.invariant.1)

pub invariant_of-pass-else-free : goal.invariant_of-pass-else-free
invariant_of-pass-else-free g c =
    let p = c.pass.inside in
    let told = c.fetch_or-before.ensures in
    let after = drawn_taken 0 p.next _ c.fetch_or-before.result told.2 (one_shl (p.next % 64) 64 (omega arith)) c.if-free.false in
    let old : PassState _ = pass_state p.seat.table_id p.seat.me.0 p.held p.next in
    let new = kept_find old (about_key c.self.inside.table.shared.key) (knows c.self.invariant c.self.view_is c.pass.view_is c.requires.of)
    (next_below c.self.invariant c.self.view_is c.pass.view_is c.requires.of c.requires.more) c.pass.invariant.0 in
    (subst IsKept (λ i. pass_state (sym told.0 i) (sym after i).0 p.held (p.next + 1)) new, (λ i. (after i).1) ∙ c.pass.invariant.1)

pub returns-then-free : goal.returns-then-free
returns-then-free g c =
    let p = c.pass.inside in
    let told = c.fetch_or-before.ensures in
    let after = drawn_free 0 p.next _ c.fetch_or-before.result told.2 (one_shl (p.next % 64) 64 (omega arith)) c.if-free.true in
    (λ i. pass_state (told.0 i) (after i).0 (Some p.next) (p.next + 1))
    ∙ ap (λ (q : PassState _). record q { claimed = q.claimed ++ q.next ∷ []; held = Some q.next; next = q.next + 1 }) c.pass.view_is
    ∙ if_same _ 0 _ _ c.if-free.true

pub returns-else-free : goal.returns-else-free
returns-else-free g c =
    let p = c.pass.inside in
    let told = c.fetch_or-before.ensures in
    let after = drawn_taken 0 p.next _ c.fetch_or-before.result told.2 (one_shl (p.next % 64) 64 (omega arith)) c.if-free.false in
    (λ i. pass_state (told.0 i) (after i).0 p.held (p.next + 1))
    ∙ ap (λ (q : PassState _). record q { found = q.found ++ q.next ∷ []; next = q.next + 1 }) c.pass.view_is
    ∙ if_other _ 0 _ _ c.if-free.false
