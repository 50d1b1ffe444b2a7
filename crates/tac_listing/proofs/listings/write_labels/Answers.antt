use Rattle.std.proofs.Common.{◌-◌, ◌≤◌, length, drop, sym, ◌∙◌, append-nil, length-drop, arith}
use Rattle.std.proofs.lemmas.List.{take_all}
use Rattle.tac_program.proofs.programs.LabelPlaces.{StandBehind-drop, behind-all}
use Rattle.tac_listing.proofs.layouts.ListingTexts.{labels_text-behind}
use Rattle.tac_listing.proofs.listings.write_labels.Goals as goal

pub returns-then-label-place-clause-written : goal.returns-then-label-place-clause-written
returns-then-label-place-clause-written c =
    let stand_behind = StandBehind-drop c.args.place c.loop-passed.passed c.args.ahead.now _ c.requires.rise c.requires.ahead c.loop-passed-test.true
    c.if-label-place.true in
    let none = labels_text-behind c.args.names.now c.args.place (drop c.loop-passed.passed c.args.ahead.now) stand_behind in
    sym (append-nil c.loop-passed.text.items) ∙ (rw none at c.loop-passed.invariant.written)

pub returns-then-label-place-clause-behind : goal.returns-then-label-place-clause-behind
returns-then-label-place-clause-behind c =
    let rest = drop c.loop-passed.passed c.args.ahead.now in
    let stand_behind = StandBehind-drop c.args.place c.loop-passed.passed c.args.ahead.now _ c.requires.rise c.requires.ahead c.loop-passed-test.true
    c.if-label-place.true in
    let whole : length rest ≤ length c.args.ahead.now - c.loop-passed.passed = rw length-drop (omega arith) in
    take_all (length c.args.ahead.now - c.loop-passed.passed) rest whole ∙ sym (behind-all c.args.place rest stand_behind)
    ∙ c.loop-passed.invariant.behind
