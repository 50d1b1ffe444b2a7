use Rattle.std.proofs.Common.{◌≡◌, ◌++◌, flat_map, take}
use Rattle.lint_json.specs.RefusalJson.{error_line}
use Rattle.lint_json.proofs.errors.push_errors.Given as goal

abbrev pub invariant-loop-one : goal.invariant-loop-one
invariant-loop-one l = l.out.items ≡ l.fn.out.items ++ flat_map (error_line l.name l.text) (take l.one-index l.told)
