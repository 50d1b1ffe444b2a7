use Rattle.std.proofs.Common.{◌≡◌, ◌<◌, ℕ, get_or}
use Rattle.flow_links.specs.Shapes.{directed_shape}
use Rattle.gk_solve.specs.Tables.Groups.{AreSoundSummaries, group_of, preserved_word}
use Rattle.gk_solve.specs.Tables.Words.{HasBit}
use Rattle.gk_solve.specs.declared.summary.Summary.{Summary}
use Rattle.gk_solve.proofs.beginnings.Beginning.{blank_summary}
use Rattle.gk_solve.proofs.group.begin_summaries.Given as goal

abbrev pub invariant-loop-point : goal.invariant-loop-point
invariant-loop-point g l = (j : ℕ) (d : Summary g.row.W) → j < l.point → get_or l.table j d ≡ blank_summary g.row.W

abbrev pub invariant-loop-procedure : goal.invariant-loop-procedure
invariant-loop-procedure g l = record {
  entries : (p w k : ℕ) → p < l.procedure → w < g.row.W → k < 64 → HasBit (preserved_word l.table w) ((directed_shape l.frame.links.now).entry p) k;
  sound : AreSoundSummaries (group_of l.frame g.row.W) l.table;
}
