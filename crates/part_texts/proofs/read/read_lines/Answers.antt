use Rattle.std.proofs.Common.{rules, ◌≡◌, refl, [], ℕ, ◌∷◌, ◌++◌, ◌∙◌, ap, sym, map, true, arith, bytes_eq, codes, length, ◌&&◌, ◌==◌, Err}
use Rattle.std.proofs.lemmas.List.{map-append}
use Rattle.part_texts.proofs.LineLists.{behind, behind_none, behind_more, reads_end, reads_line, reads_fault, reads_short}
use Rattle.std.specs.List.{slice_split}
use Rattle.part_texts.specs.Lines.{is_line_feed}
use Rattle.part_texts.specs.Parts.{read_lines}
use Rattle.part_texts.specs.code.ReadParts.{line_of}
use Rattle.part_texts.specs.declared.fault.PartFault.TheVariants.{CutShort, NoPart}
use Rattle.part_texts.proofs.read.read_lines.Goals as goal

pub returns-in-None : goal.returns-in-None
returns-in-None c =
    sym (ap (behind (map line_of c.loop-line.lines.items)) (reads_fault _ _ _ _ _ c.in-Some.ensures
    (ap (λ last. bytes_eq c.in-Some.line.now last && (length c.in-Some.behind.now == 0)) (sym c.loop-line.invariant.ends ∙ sym c.deref.ensures.value)
    ∙ sym c.ends_part.ensures ∙ c.if-ends_part.false) (sym c.in-None.ensures)))
    ∙ c.loop-line.invariant.reads

pub returns : goal.returns
returns c = sym (ap (behind (map line_of c.loop-line.lines.items)) (reads_short c.args.form c.args.part c.loop-line.rest.now c.in_default.ensures))
    ∙ c.loop-line.invariant.reads

pub loop-line-preserved : goal.loop-line-preserved
loop-line-preserved c = record {
  reads = ap (λ lines. behind lines (read_lines c.args.form c.args.part (slice_split is_line_feed c.in-Some.behind.now)))
      (ap (map line_of) c.in_ok-push-in-Some-read_line.ensures.items ∙ map-append line_of c.loop-line.lines.items (c.in-Some-read_line.found ∷ []))
      ∙ behind_more (map line_of c.loop-line.lines.items) (line_of c.in-Some-read_line.found)
      (read_lines c.args.form c.args.part (slice_split is_line_feed c.in-Some.behind.now))
      ∙ sym (ap (behind (map line_of c.loop-line.lines.items)) (reads_line _ _ _ _ _ _ c.in-Some.ensures
      (ap (λ last. bytes_eq c.in-Some.line.now last && (length c.in-Some.behind.now == 0)) (sym c.loop-line.invariant.ends ∙ sym c.deref.ensures.value)
      ∙ sym c.ends_part.ensures ∙ c.if-ends_part.false) (sym c.in-Some-read_line.ensures)))
      ∙ c.loop-line.invariant.reads;
  ends = c.loop-line.invariant.ends;
}
