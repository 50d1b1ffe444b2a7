use Rattle.std.proofs.Common.{◌≡◌, ℕ, List, length, map}
use Rattle.std.specs.List.{slice_split}
use Rattle.part_texts.specs.Lines.{Line, is_line_feed}
use Rattle.part_texts.specs.Parts.{end_words, read_lines}
use Rattle.part_texts.specs.code.ReadParts.{line_of}
use Rattle.part_texts.specs.declared.form.PartForm.{PartForm}
use Rattle.part_texts.proofs.LineLists.{behind}
use Rattle.part_texts.proofs.read.read_lines.Given as goal

pub record Known (form : PartForm) (part : ℕ) (text rest last : List ℕ) (lines : List Line) : Type 0 where
  pub reads : behind lines (read_lines form part (slice_split is_line_feed rest)) ≡ read_lines form part (slice_split is_line_feed text)
  pub ends : last ≡ end_words form part

abbrev pub invariant-loop-line : goal.invariant-loop-line
invariant-loop-line l = Known l.form l.part l.text l.rest l.last.items (map line_of l.lines.items)

abbrev pub decreases-loop-line : goal.decreases-loop-line
decreases-loop-line l = length l.rest
