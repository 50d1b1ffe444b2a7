use Rattle.std.proofs.Common.{◌++◌, ap, append_assoc}
use Rattle.tac_listing.proofs.layouts.ListingTexts.{callees_text-parts}
use Rattle.tac_listing.proofs.listings.write_callees.Goals as goal

pub returns-after-loop-callee : goal.returns-after-loop-callee
returns-after-loop-callee c =
    let all = callees_text-parts c.args.names.now c.args.callees.now c.loop-callee.callee-index c.in-len1-up.len_at_least c.loop-callee-test.false in
    rw (c.loop-callee.invariant, c.in_ok-extend_from_slice.ensures.items, c.procedure.ensures, append_assoc)
    (ap (λ r. c.args.text.now.items ++ r) all)
