use Rattle.std.proofs.Common.{◌≡◌, map, take}
use Rattle.flow_records.specs.Remarks.{remark_part}
use Rattle.flow_records.proofs.remarks.numbered.Given as goal

abbrev pub invariant-loop-placed : goal.invariant-loop-placed
invariant-loop-placed l = l.numbered.items ≡ map remark_part (take l.placed-index l.remarks)
