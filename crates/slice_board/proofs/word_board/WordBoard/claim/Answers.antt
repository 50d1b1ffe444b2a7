use Rattle.std.proofs.Common.{◌≡◌, [], ◌∷◌, ap, ◌∙◌, sym, length, arith}
use Rattle.std.proofs.lemmas.List.{length-append}
use Rattle.slice_board.specs.Passes.{PassState}
use Rattle.slice_board.specs.Boards.{BoardState, slice_count}
use Rattle.slice_board.proofs.passes.Passing.{found_to, found_to-more, found_to-lengths, next_most}
use Rattle.slice_board.proofs.word_board.WordBoard.claim.Goals as goal

pub returns-then-draw_slice-clause-draws : goal.returns-then-draw_slice-clause-draws
returns-then-draw_slice-clause-draws g c =
    let p = c.loop-pass.pass in
    let i = c.loop-pass.invariant in
    let next = ap (λ (q : PassState _). q.next) c.pass.view_is in
    let slices = ap (λ (b : BoardState _). slice_count b.cut) c.self.view_is in
    let count = c.slices.ensures.count in
    let test = c.loop-pass-test.true in
    omega (
      arith,
      ap (λ (q : PassState _). length q.claimed) c.if-draw_slice.ensures,
      ap (λ (q : PassState _). length q.found) c.if-draw_slice.ensures,
      length-append p.claimed (p.next ∷ []),
      found_to-lengths c.args.pass.now p i.from i.found,
    )

pub loop-pass-preserved : goal.loop-pass-preserved
loop-pass-preserved g c =
    let p = c.loop-pass.pass in
    let i = c.loop-pass.invariant in
    let next = ap (λ (q : PassState _). q.next) c.if-draw_slice.ensures in
    record {
      of = record {
        table = ap (λ (q : PassState _). q.table) c.if-draw_slice.ensures ∙ i.of.table;
        about = ap (λ (q : PassState _). q.about) c.if-draw_slice.ensures ∙ i.of.about;
      };
      free = ap (λ (q : PassState _). q.held) c.if-draw_slice.ensures ∙ i.free;
      from = omega (arith, i.from);
      found = c.if-draw_slice.ensures ∙ found_to-more c.args.pass.now p i.from i.found ∙ ap (found_to c.args.pass.now) (sym next);
    }

pub returns-clause-none : goal.returns-clause-none
returns-clause-none g c =
    let p = c.loop-pass.pass in
    let i = c.loop-pass.invariant in
    let most = next_most c.self.invariant c.self.view_is c.pass.view_is i.of c.pass.invariant.0 in
    let next = ap (λ (q : PassState _). q.next) c.pass.view_is in
    let slices = ap (λ (b : BoardState _). slice_count b.cut) c.self.view_is in
    let count = c.slices.ensures.count in
    let test = c.loop-pass-test.false in
    let at_end : p.next ≡ slice_count c.args.self.now.cut = omega arith in
    i.found ∙ ap (found_to c.args.pass.now) at_end

pub returns-clause-draws : goal.returns-clause-draws
returns-clause-draws g c =
    let p = c.loop-pass.pass in
    let i = c.loop-pass.invariant in
    let most = next_most c.self.invariant c.self.view_is c.pass.view_is i.of c.pass.invariant.0 in
    omega (arith, most, found_to-lengths c.args.pass.now p i.from i.found)
