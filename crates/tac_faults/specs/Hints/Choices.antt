-- Hints one after another.
use Rattle.std.specs.Prelude.{List, [], ◌∷◌}
use Rattle.tac_faults.specs.declared.slips.Hint.{Hint}
use Rattle.tac_faults.specs.declared.slips.Hint.TheVariants as hint

-- The first one, or where that is none the second.
abbrev pub or_hint : Hint → Hint → Hint
or_hint hint.None other = other
or_hint first other = first

-- The first one that any of these has.
abbrev pub any_hint : {A : Type 0} → (A → Hint) → List A → Hint
any_hint of [] = hint.None
any_hint of (x ∷ xs) = or_hint (of x) (any_hint of xs)
