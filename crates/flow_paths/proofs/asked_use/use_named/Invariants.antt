use Rattle.std.proofs.Common.{◌≡◌, drop}
use Rattle.std.specs.List.{filter}
use Rattle.flow_paths.specs.Pictures.{is_named}
use Rattle.flow_paths.proofs.asked_use.use_named.Given as goal

abbrev pub invariant-loop-one : goal.invariant-loop-one
invariant-loop-one l = filter (is_named l.fn.graph l.fn.text) l.fn.uses ≡ filter (is_named l.fn.graph l.fn.text) (drop l.one-index l.fn.uses)
