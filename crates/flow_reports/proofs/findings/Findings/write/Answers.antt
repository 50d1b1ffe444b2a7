use Rattle.std.proofs.Common.{◌≡◌, List, ℕ, ◌+◌, ◌++◌, flat_map, ap, ◌∙◌, sym, append_assoc}
use Rattle.std.specs.List.{range_with_len}
use Rattle.flow_graph.proofs.lists.Ranges.{flat_map-range_more}
use Rattle.tac_program.specs.Programs.{Program}
use Rattle.flow_reports.specs.code.Findings.{knowledge_of}
use Rattle.flow_reports.specs.Reports.{count_line, lines_at}
use Rattle.text_pieces.proofs.sinks.Taking.{takes_as, takes_then}
use Rattle.flow_reports.proofs.findings.Findings.write.Goals as goal

-- the lines of one point more
more : (lines : ℕ → List ℕ) (n : ℕ) (first : List ℕ)
    → (first ++ flat_map lines (range_with_len 0 n)) ++ lines n ≡ first ++ flat_map lines (range_with_len 0 (n + 1))
more lines n first = append_assoc first (flat_map lines (range_with_len 0 n)) (lines n) ∙ ap (λ t. first ++ t) (sym (flat_map-range_more lines n))

pub loop-point-preserved : goal.loop-point-preserved
loop-point-preserved g c =
    let program : Program = c.args.self.now.graph.now in
    takes_as _ _ _ _ (takes_then _ _ _ _ _ c.loop-point.invariant c.write_point.ensures)
    (more (lines_at program (knowledge_of c.args.self.now)) c.loop-point.point (count_line program))
