use Rattle.std.proofs.Common.{◌≡◌, ◌≤◌, length, take, sym, arith}
use Rattle.std.proofs.lemmas.List.{length-take-le, take_all}
use Rattle.refusal_texts.proofs.quotes.shown.Goals as goal

pub slice_bounds-result-end : goal.slice_bounds-result-end
slice_bounds-result-end c =
    let more : 64 ≤ length c.args.part.now = omega arith in
    let all : length (take 64 c.args.part.now) ≡ 64 = length-take-le 64 c.args.part.now more in
    omega (arith, all)

pub returns-else-part-gt-MOST_SHOWN : goal.returns-else-part-gt-MOST_SHOWN
returns-else-part-gt-MOST_SHOWN c =
    let few : length c.args.part.now ≤ 64 = omega arith in
    sym (take_all 64 c.args.part.now few)
