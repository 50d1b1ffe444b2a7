use Rattle.std.proofs.Common.{◌≡◌, take}
use Rattle.std.specs.Prelude.{All}
use Rattle.flow_paths.specs.code.Arounds.{IsAround, remarks_in}
use Rattle.flow_paths.proofs.arounds.arounds_of.Given as goal

abbrev pub invariant-loop-placed : goal.invariant-loop-placed
invariant-loop-placed l =
    (remarks_in l.arounds.items ≡ take l.placed-index l.remarks) × All (IsAround l.reasons) l.arounds.items
