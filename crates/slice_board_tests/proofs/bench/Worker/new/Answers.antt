use Rattle.std.proofs.Common.{ap, ◌∙◌}
use Rattle.std.proofs.lemmas.Bool.{both_ways}
use Rattle.bit_rows.specs.RowSet.{contains}
use Rattle.bit_rows.specs.RowTable.{set_at}
use Rattle.bit_rows.proofs.sets.SetLaws.{contains-empty_set}
use Rattle.bit_rows.proofs.sets.Tables.{set_at-blank_table}
use Rattle.slice_board_tests.proofs.bench.Worker.new.Goals as goal

pub returns-clause-noted : goal.returns-clause-noted
returns-clause-noted c point bit has =
    let m = c.in_ok-mine.mine in
    absurd (both_ways (contains (set_at m point) bit)
    (ap (λ t. contains (set_at t point) bit) c.in_ok-mine.ensures ∙ ap (λ s. contains s bit) (set_at-blank_table _ 0 c.hi.result point)
    ∙ contains-empty_set 0 c.hi.result bit)
    has)
