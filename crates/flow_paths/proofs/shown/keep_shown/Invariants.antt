use Rattle.std.proofs.Common.{◌≡◌, take}
use Rattle.std.specs.List.{filter}
use Rattle.flow_paths.specs.code.Doubted.{has_shown}
use Rattle.flow_paths.proofs.shown.keep_shown.Given as goal

abbrev pub invariant-loop-placed : goal.invariant-loop-placed
invariant-loop-placed l = l.remarks.items ≡ filter (has_shown l.shown) (take l.placed-index l.all)
