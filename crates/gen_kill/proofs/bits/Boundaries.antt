-- The boundary of a may form
use Rattle.std.proofs.Common.{◌≡◌, ℕ, zero, suc, ◌-◌, ◌<◌, ◌≤◌, ◌⊎◌, Bool, true, false, not, List, [], ◌∷◌, ◌++◌, map, flat_map, length, Option, Some}
use Rattle.std.proofs.Common.{None, is_some, nat_lt, inl, inr, refl, sym, ◌∙◌, arith}
use Rattle.std.specs.List.{range_with_len}
use Rattle.std.proofs.lemmas.Bool.{cases_lt}
use Rattle.std.proofs.lemmas.List.{length-map}
use Rattle.std.proofs.lemmas.List.FromFn.{length-range_with_len}
use Rattle.tac_program.specs.Programs.{Program}
use Rattle.flow_graph.specs.Points.{points}
use Rattle.flow_graph.specs.Transfers.{is_in_boundary}
use Rattle.flow_graph.specs.Universes.{Definition, definition_at, dummies, target_at}
use Rattle.flow_graph.specs.declared.analysis.Analysis.TheVariants.{Reach}
use Rattle.flow_graph.proofs.bits.Added.{added}
use Rattle.gen_kill.proofs.bits.OwnBits.{is_at, is_at-left, is_at-right}

abbrev is_dummy : Definition → Bool
is_dummy d = not (is_some d.1)

all_dummies : (xs : List ℕ) (bit : ℕ) → bit < length xs → is_at is_dummy (map (λ x. let d : Definition = (x, None) in d) xs) bit ≡ true
all_dummies [] bit below = absurd (omega arith)
all_dummies (x ∷ xs) zero below = refl
all_dummies (x ∷ xs) (suc bit) below = all_dummies xs bit (omega arith)

no_dummies : (program : Program) (ns : List ℕ) (bit : ℕ) → is_at is_dummy (flat_map (definition_at program) ns) bit ≡ false
no_dummies program [] bit = refl
no_dummies program (n ∷ ns) bit = by_target (target_at program n) bit (no_dummies program ns)
  where
    by_target : (t : Option ℕ) (bit : ℕ) → ((bit : ℕ) → is_at is_dummy (flat_map (definition_at program) ns) bit ≡ false)
        → is_at is_dummy (added n t ++ flat_map (definition_at program) ns) bit ≡ false
    by_target None bit rest = rest bit
    by_target (Some x) zero rest = refl
    by_target (Some x) (suc bit) rest = rest bit

-- the dummies come first, one for each variable
pub dummies_come_first : (program : Program) (bit : ℕ) → nat_lt bit (length program.variable_names) ≡ is_in_boundary program Reach bit
dummies_come_first program bit = by_place (cases_lt bit (length program.variable_names))
  where
    count : length (dummies program) ≡ length program.variable_names
    count = length-map (range_with_len 0 (length program.variable_names)) (λ x. let d : Definition = (x, None) in d)
        ∙ length-range_with_len 0 (length program.variable_names)

    by_place : (bit < length program.variable_names) ⊎ (length program.variable_names ≤ bit)
        → nat_lt bit (length program.variable_names) ≡ is_in_boundary program Reach bit
    by_place (inl below) =
        let is : nat_lt bit (length program.variable_names) ≡ true = grind arith in
        is
        ∙ sym (all_dummies (range_with_len 0 (length program.variable_names)) bit
        (omega (arith, below, length-range_with_len 0 (length program.variable_names))))
        ∙ sym (is_at-left is_dummy (dummies program) (flat_map (definition_at program) (points program)) bit (omega (arith, below, count)))
    by_place (inr past) =
        let is : nat_lt bit (length program.variable_names) ≡ false = grind arith in
        is
        ∙ sym (no_dummies program (points program) (bit - length (dummies program)))
        ∙ sym (is_at-right is_dummy (dummies program) (flat_map (definition_at program) (points program)) bit (bit - length (dummies program))
        (omega (arith, past, count)))
