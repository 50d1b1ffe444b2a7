use Rattle.std.proofs.Common.{◌≡◌, ◌-◌, ◌++◌, length}
use Rattle.tac_reader.specs.code.Procedures.{labels_at}
use Rattle.tac_reader.proofs.procedure.push_labels.Given as goal

-- The labels so far and those that are still to come are all.
abbrev pub invariant-loop : goal.invariant-loop
invariant-loop l = l.labels.items ++ labels_at (length l.labels.items) l.place (l.count - l.counter) ≡ l.fn.labels.items
    ++ labels_at (length l.fn.labels.items) l.place l.count
