use Rattle.std.proofs.Common.{◌+◌, ◌∙◌, ◌++◌, ◌<◌, ap, arith, drop, length, map, refl, slice_index_or, sym, take, [], List}
use Rattle.tac_faults.proofs.Lists.{told_more}
use Rattle.tac_faults.specs.Listed.{most_found}
use Rattle.tac_lines.specs.Forms.{behind_labels, callees_of}
use Rattle.tac_lines.specs.Tokens.{Token}
use Rattle.tac_lines.specs.code.Ranges.{range_view}
use Rattle.tac_lines.specs.code.Views.{tokens_view}
use Rattle.tac_lines.specs.declared.fault.Fault.{Fault}
use Rattle.tac_lines.specs.declared.refusal.RefusalKind.TheVariants.{DuplicateCallee}
use Rattle.tac_lines.proofs.lines.RangeLemmas.{no_line}
use Rattle.tac_reader.specs.Faults.{repeated}
use Rattle.tac_reader.proofs.lines.FirstFaults.{by_lines, callees_found}
use Rattle.tac_faults.proofs.names.tell_section_calls.Goals as goal

abbrev faults : List Token → List Fault
faults c = repeated DuplicateCallee [] (callees_of c)

abbrev of_line : List Token → List Fault
of_line line = faults (behind_labels line)

pub loop-at-preserved : goal.loop-at-preserved
loop-at-preserved c =
    let text = c.args.text.now in
    let view = range_view text c.args.section.now.lines.tokens.now in
    let lines = c.args.section.now.lines.ranges.now in
    let i = c.loop-at.at in
    let old = c.loop-at.found.items in
    let now = c.tell_repeated.new.found.items in
    let below : i < length lines = omega (arith, c.loop-at-test.true, c.len-at-end.ensures) in
    let callees = callees_found text c.line_cells.new.found.items c.clear.new.self.items (behind_labels (view (slice_index_or lines i no_line)))
    c.clear.ensures.items (c.in_ok-line_cells.ensures.appended text no_line) in
    ap (λ r. take most_found (now ++ r)) (sym (by_lines faults refl (map view (drop (i + 1) lines))))
    ∙ told_more of_line view most_found lines i no_line old now _ below
    (c.in_ok-tell_repeated.ensures
    ∙ ap (λ ts. take most_found (old ++ repeated DuplicateCallee [] (tokens_view text ts))) c.deref.ensures.value
    ∙ ap (λ ts. take most_found (old ++ repeated DuplicateCallee [] ts)) callees)
    (ap (λ r. take most_found (old ++ r)) (by_lines faults refl (map view (drop i lines))) ∙ c.loop-at.invariant)
