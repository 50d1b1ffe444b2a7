use Rattle.std.proofs.Common.{◌<◌}
use Rattle.flow_rows.specs.code.Rows.{IsInWords, IsPut}
use Rattle.flow_rows.proofs.filling.put_words.Given as goal

abbrev pub invariant-loop-point : goal.invariant-loop-point
invariant-loop-point l = IsPut (λ point b. (point < l.point) × IsInWords l.slice point b) l.fn.rows l.rows
