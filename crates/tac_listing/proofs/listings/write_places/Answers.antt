use Rattle.std.proofs.Common.{◌≡◌, length, refl, sym, ap, ◌∙◌, append_assoc, arith}
use Rattle.tac_program.proofs.programs.LabelPlaces.{behind, from-start, behind-from, LabelsRise-from, All-from}
use Rattle.tac_listing.proofs.layouts.ListingTexts.{labels_text-from, places_text-more, places_text-end}
use Rattle.tac_listing.proofs.listings.write_places.Goals as goal

pub loop-place-init : goal.loop-place-init
loop-place-init c = record { written = refl; ahead = sym (from-start c.args.labels.now) }

pub write_labels-requires-clause-rise : goal.write_labels-requires-clause-rise
write_labels-requires-clause-rise c = rw c.loop-place.invariant.ahead (LabelsRise-from c.loop-place.place c.args.labels.now c.requires)

pub write_labels-requires-clause-ahead : goal.write_labels-requires-clause-ahead
write_labels-requires-clause-ahead c = rw c.loop-place.invariant.ahead (All-from c.loop-place.place c.args.labels.now)

pub loop-place-preserved : goal.loop-place-preserved
loop-place-preserved c =
    let more = places_text-more c.args.names.now c.loop-place.place c.args.labels.now c.args.stmts.now c.index-stmts-place.result
    c.loop-place-test.true c.index-stmts-place.is in
    let here = labels_text-from c.args.names.now c.loop-place.place c.args.labels.now in
    record {
      written =
          rw (
            c.in_ok-extend_from_slice-2.ensures.items,
            c.in_ok-write_statement.ensures,
            c.in_ok-extend_from_slice.ensures.items,
            c.in_ok-ahead.ensures.written,
            c.loop-place.invariant.ahead,
            here,
            ← c.loop-place.invariant.written,
            more,
          )
          (simp append_assoc);
      ahead =
          c.in_ok-ahead.ensures.behind
          ∙ ap (behind c.loop-place.place) c.loop-place.invariant.ahead
          ∙ behind-from c.loop-place.place c.args.labels.now;
    }

pub write_labels-requires-2-clause-rise : goal.write_labels-requires-2-clause-rise
write_labels-requires-2-clause-rise c = rw c.loop-place.invariant.ahead (LabelsRise-from c.loop-place.place c.args.labels.now c.requires)

pub write_labels-requires-2-clause-ahead : goal.write_labels-requires-2-clause-ahead
write_labels-requires-2-clause-ahead c =
    let end : length c.args.stmts.now ≡ c.loop-place.place = omega arith in
    rw (c.loop-place.invariant.ahead, end) (All-from c.loop-place.place c.args.labels.now)

pub returns : goal.returns
returns c =
    let end : length c.args.stmts.now ≡ c.loop-place.place = omega arith in
    let last = places_text-end c.args.names.now c.loop-place.place c.args.labels.now c.args.stmts.now c.loop-place-test.false in
    let here = labels_text-from c.args.names.now c.loop-place.place c.args.labels.now in
    rw (c.in_ok-write_labels.ensures.written, end, c.loop-place.invariant.ahead, here) (rw last at c.loop-place.invariant.written)
