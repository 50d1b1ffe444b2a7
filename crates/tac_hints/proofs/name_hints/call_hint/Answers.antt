use Rattle.std.proofs.Common.{◌+◌, ◌∙◌, ◌<◌, List, ap, arith, drop, length, map, refl, slice_index_or, sym}
use Rattle.tac_lines.specs.Forms.{behind_labels, callees_of}
use Rattle.tac_lines.specs.Tokens.{Token}
use Rattle.tac_lines.specs.code.Ranges.{range_view}
use Rattle.tac_lines.specs.code.Views.{tokens_view}
use Rattle.tac_lines.proofs.lines.RangeLemmas.{no_line}
use Rattle.tac_reader.proofs.lines.FirstFaults.{callees_found}
use Rattle.tac_hints.proofs.HintLists.{any_lines, any_more}
use Rattle.tac_faults.specs.Hints.Choices.{or_hint}
use Rattle.tac_hints.specs.Names.{first_at}
use Rattle.tac_faults.specs.declared.slips.Hint.{Hint}
use Rattle.tac_hints.proofs.name_hints.call_hint.Goals as goal

pub loop-at-preserved : goal.loop-at-preserved
loop-at-preserved c =
    let text = c.args.text.now in
    let of : List Token → Hint = λ ts. first_at text (callees_of ts) c.args.place in
    let view = range_view text c.args.section.now.lines.tokens.now in
    let lines = c.args.section.now.lines.ranges.now in
    let i = c.loop-at.at in
    let below : i < length lines = omega (arith, c.loop-at-test.true, c.len-at-end.ensures) in
    let callees = callees_found text c.line_cells.new.found.items c.clear.new.self.items (behind_labels (view (slice_index_or lines i no_line)))
    c.clear.ensures.items (c.in_ok-line_cells.ensures.appended text no_line) in
    ap (or_hint c.or_hint_of-hint.result) (sym (any_lines of refl (map view (drop (i + 1) lines))))
    ∙ any_more (λ line. of (behind_labels line)) view lines i no_line c.loop-at.hint c.first_at.result c.or_hint_of-hint.result _ below
    (c.first_at.ensures ∙ ap (λ ts. first_at text (tokens_view text ts) c.args.place) c.deref.ensures.value
    ∙ ap (λ ts. first_at text ts c.args.place) callees)
    c.or_hint_of-hint.ensures
    (ap (or_hint c.loop-at.hint) (any_lines of refl (map view (drop i lines))) ∙ c.loop-at.invariant)
