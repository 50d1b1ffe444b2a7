-- The lines of a text, one line more
use Rattle.std.proofs.Common.{◌≡◌, ◌∙◌, ℕ, ◌+◌, ◌<◌, ◌≤◌, List, [], ◌∷◌, ◌++◌, drop, length, refl, sym, ap, arith, append-nil, append_assoc}
use Rattle.std.proofs.lemmas.List.{drop_all}
use Rattle.text_pieces.specs.declared.device.Sink.{Ghosts as SinkMembers}
use Rattle.text_pieces.specs.declared.pieces.Pieces.{Pieces}
use Rattle.text_pieces.specs.Pieces.{Writes}
use Rattle.text_pieces.proofs.sinks.Taking.{takes_as, takes_nothing, takes_then}
use Rattle.tac_lines.specs.Text.{lines}
use Rattle.source_lines.specs.SourceLines.{lines_from, source_line, source_lines}

-- What was written, and behind it the lines of the rest, are all.
pub record Told {T : Type 0} (members : SinkMembers T) (text : List ℕ) (old new : Pieces T) (number start : ℕ) : Type 0 where
  pub written : List ℕ
  pub writes : Writes members old new written
  pub all : written ++ lines_from number start (lines (drop start text)) ≡ source_lines text
  pub few : number ≤ start + 1

module _ {T : Type 0} (members : SinkMembers T) (text : List ℕ) (old : Pieces T) where
  pub told_none : Told members text old old 1 0
  told_none = record { written = []; writes = takes_nothing _; all = refl; few = omega arith }

  pub told_more : (new newer : Pieces T) (number start stop : ℕ) (line : List ℕ) → Told members text old new number start
      → lines (drop start text) ≡ line ∷ lines (drop stop text) → stop ≡ start + length line → start < stop
      → Writes members new newer (source_line number start line) → Told members text old newer (number + 1) stop
  told_more new newer number start stop line told is ends later writes = record {
    written = told.written ++ source_line number start line;
    writes = takes_then _ _ _ _ _ told.writes writes;
    all = append_assoc told.written (source_line number start line) (lines_from (number + 1) stop (lines (drop stop text)))
        ∙ ap (λ n. told.written ++ (source_line number start line ++ lines_from (number + 1) n (lines (drop stop text)))) ends
        ∙ ap (λ (ls : List (List ℕ)). told.written ++ lines_from number start ls) (sym is)
        ∙ told.all;
    few = omega (arith, told.few, later);
  }

  pub told_all : (new : Pieces T) (number start : ℕ) → Told members text old new number start → length text ≤ start
      → Writes members old new (source_lines text)
  told_all new number start told past =
      takes_as _ _ _ _ told.writes
      (sym (append-nil told.written)
      ∙ ap (λ (rest : List ℕ). told.written ++ lines_from number start (lines rest)) (sym (drop_all start text past))
      ∙ told.all)
