use Rattle.std.proofs.Common.{◌+◌, ◌∙◌, ◌<◌, sym, ap, arith, refl, [], List, drop, length, map, slice_index_or}
use Rattle.tac_lines.specs.Tokens.{Token}
use Rattle.tac_reader.specs.Faults.{head_of, repeated}
use Rattle.tac_lines.specs.Forms.{behind_labels, callees_of}
use Rattle.tac_lines.specs.code.Ranges.{range_view}
use Rattle.tac_lines.specs.code.Views.{tokens_view}
use Rattle.tac_lines.specs.declared.fault.Fault.{Fault}
use Rattle.tac_lines.specs.declared.refusal.RefusalKind.TheVariants.{DuplicateCallee}
use Rattle.tac_reader.proofs.lines.FirstFaults.{by_lines, callees_found, fault_past, fault_here}
use Rattle.tac_lines.proofs.lines.RangeLemmas.{no_line}
use Rattle.tac_reader.proofs.checks.repeated_callee.Goals as goal

abbrev faults : List Token → List Fault
faults c = repeated DuplicateCallee [] (callees_of c)

abbrev of_line : List Token → List Fault
of_line line = faults (behind_labels line)

pub returns-in-Some : goal.returns-in-Some
returns-in-Some c =
    let text = c.args.text.now in
    let view = range_view text c.args.section.now.lines.tokens.now in
    let lines = c.args.section.now.lines.ranges.now in
    let i = c.loop-at.at in
    let below : i < length lines = omega (arith, c.loop-at-test.true, c.len-at-end.ensures) in
    let callees = callees_found text c.line_cells.new.found.items c.clear.new.self.items (behind_labels (view (slice_index_or lines i no_line)))
    c.clear.ensures.items (c.in_ok-line_cells.ensures.appended text no_line) in
    sym (fault_here of_line view lines i no_line _ c.in-Some.fault below
    (sym c.in-Some.is ∙ c.first_repeated.ensures ∙ ap (λ ts. head_of (repeated DuplicateCallee [] (tokens_view text ts))) c.deref.ensures.value
    ∙ ap (λ ts. head_of (repeated DuplicateCallee [] ts)) callees)
    (by_lines faults refl (map view (drop i lines)) ∙ c.loop-at.invariant))

pub loop-at-preserved : goal.loop-at-preserved
loop-at-preserved c =
    let text = c.args.text.now in
    let view = range_view text c.args.section.now.lines.tokens.now in
    let lines = c.args.section.now.lines.ranges.now in
    let i = c.loop-at.at in
    let below : i < length lines = omega (arith, c.loop-at-test.true, c.len-at-end.ensures) in
    let callees = callees_found text c.line_cells.new.found.items c.clear.new.self.items (behind_labels (view (slice_index_or lines i no_line)))
    c.clear.ensures.items (c.in_ok-line_cells.ensures.appended text no_line) in
    sym (by_lines faults refl (map view (drop (i + 1) lines)))
    ∙ fault_past of_line view lines i no_line _ below
    (sym c.in_default.is ∙ c.first_repeated.ensures ∙ ap (λ ts. head_of (repeated DuplicateCallee [] (tokens_view text ts))) c.deref.ensures.value
    ∙ ap (λ ts. head_of (repeated DuplicateCallee [] ts)) callees)
    (by_lines faults refl (map view (drop i lines)) ∙ c.loop-at.invariant)
