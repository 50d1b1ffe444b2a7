-- What a table of names holds.
use Rattle.std.specs.Prelude.{ℕ, List, map}
use Rattle.tac_program.specs.declared.name_keys.NameKey.{NameKey}

abbrev pub texts : List NameKey → List (List ℕ)
texts names = map (λ name. name.bytes.items) names
