-- What the names in a statement are read for.
use Rattle.std.specs.Prelude.{Bool}
use Rattle.tac_lines.specs.Forms.{Slot, is_label, is_callee, is_variable}
use Rattle.tac_lines.specs.declared.statement.Role.{Role}
use Rattle.tac_lines.specs.declared.statement.Role.TheVariants as role

-- Whether a place is one of that role.
abbrev pub role_test : Role → Slot → Bool
role_test role.Label = is_label
role_test role.Callee = is_callee
role_test role.Variable = is_variable
