-- What is within some limits is within the large ones
use Rattle.std.proofs.Common.{◌<◌, ◌≤◌, ◌⊎◌, inl, inr, length, arith}
use Rattle.tac_program.specs.Limits.{most_definitions, most_expressions, most_points, most_variables}
use Rattle.tac_program.specs.Programs.{Program}
use Rattle.tac_program.specs.declared.limits.Limits.{Limits}
use Rattle.tac_program.specs.declared.limits.Limits.TheVariants.{Large, Standard}
use Rattle.flow_graph.specs.Limits.{HasFewBits, HasFewPoints, most_bits}
use Rattle.flow_graph.specs.Universes.{Analysis, Reach, Live, Avail, Busy, bits, definitions, expressions}

points_in_large : (limits : Limits) → most_points limits ≤ most_points Large
points_in_large Standard = omega arith
points_in_large Large = omega arith

bits_in_large : (limits : Limits) (analysis : Analysis) → most_bits limits analysis ≤ most_bits Large analysis
bits_in_large Standard Reach = omega arith
bits_in_large Standard Live = omega arith
bits_in_large Standard Avail = omega arith
bits_in_large Standard Busy = omega arith
bits_in_large Large Reach = omega arith
bits_in_large Large Live = omega arith
bits_in_large Large Avail = omega arith
bits_in_large Large Busy = omega arith

pub large_points : (limits : Limits) (program : Program) → HasFewPoints limits program → HasFewPoints Large program
large_points limits program few = let most = points_in_large limits in omega (arith, few, most)

pub large_bits : (limits : Limits) (program : Program) → HasFewBits limits program → HasFewBits Large program
large_bits limits program few analysis = let here = few analysis in let most = bits_in_large limits analysis in omega (arith, here, most)

-- the bits of all analyses are few where definitions, variables and expressions are
pub few_bits : (limits : Limits) (program : Program) → length (definitions program) ≤ most_definitions limits
    → length program.variable_names ≤ most_variables limits
    → length (expressions program) ≤ most_expressions limits → HasFewBits limits program
few_bits limits program defined named evaluated Reach = defined
few_bits limits program defined named evaluated Live = named
few_bits limits program defined named evaluated Avail = evaluated
few_bits limits program defined named evaluated Busy = evaluated

-- and those of some analysis many where one of these are
pub many_bits : (limits : Limits) (program : Program)
    → (most_definitions limits < length (definitions program))
    ⊎ ((most_variables limits < length program.variable_names) ⊎ (most_expressions limits < length (expressions program)))
    → (analysis : Analysis) × (most_bits limits analysis < bits program analysis)
many_bits limits program (inl defined) = (Reach, defined)
many_bits limits program (inr (inl named)) = (Live, named)
many_bits limits program (inr (inr evaluated)) = (Avail, evaluated)
