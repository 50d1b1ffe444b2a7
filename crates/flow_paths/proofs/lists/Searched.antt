-- What a search for a variable's value at the beginning is asked, and what it answers
use Rattle.std.proofs.Common.{◌≡◌, ◌∙◌, ℕ, ◌+◌, ◌<◌, ◌≤◌, List, length, map, get_or, slice_index, sym, subst, arith}
use Rattle.std.proofs.lemmas.List.{get_or_default}
use Rattle.flow_graph.specs.Analyses.{shape_of, transfer_of}
use Rattle.flow_graph.specs.Paths.{SomePathHas}
use Rattle.flow_graph.specs.Problems.{may_shape}
use Rattle.flow_graph.specs.declared.analysis.Analysis.TheVariants.{Reach}
use Rattle.flow_reports.specs.declared.unset.UnsetUse.{UnsetUse}
use Rattle.flow_why.specs.Witnesses.{IsWitness}
use Rattle.flow_why.specs.declared.hop.Hop.{Hop}
use Rattle.gen_kill.specs.Selections.{Selection, all_bits, column_transfer}
use Rattle.worklist.specs.Groups.{AreGroups}
use Rattle.flow_paths.specs.code.UnsetPaths.{use_at}
use Rattle.flow_paths.proofs.lists.Placed.{place_within, placed}

pub reaches_by : (form : Selection) (column variable point : ℕ) → form ≡ all_bits form.program Reach → column ≡ variable
    → SomePathHas (shape_of form.program) (transfer_of form.program Reach variable) point
    → SomePathHas (may_shape form.program form.analysis) (column_transfer form column) point
reaches_by form column variable point is same reaches =
    let P : Selection → Type 0 = λ f. SomePathHas (may_shape f.program f.analysis) (column_transfer f column) point in
    subst P (sym is) (subst (λ (v : ℕ). SomePathHas (shape_of form.program) (transfer_of form.program Reach v) point) (sym same) reaches)

pub witness_by : (form : Selection) (column variable point : ℕ) (hops : List Hop) → form ≡ all_bits form.program Reach → column ≡ variable
    → IsWitness (may_shape form.program form.analysis) (column_transfer form column) point hops
    → IsWitness (shape_of form.program) (transfer_of form.program Reach variable) point hops
witness_by form column variable point hops is same witness =
    let P : Selection → Type 0 = λ f. IsWitness (may_shape f.program f.analysis) (column_transfer f column) point hops in
    subst (λ (v : ℕ). IsWitness (shape_of form.program) (transfer_of form.program Reach v) point hops) same (subst P is witness)

-- what is read at a place of a variable is a number of a use of it
pub number_at : (uses : List UnsetUse) (count : ℕ) (starts places : List ℕ) (variable place number first end : ℕ)
    → AreGroups (map (λ one. one.variable) uses) count starts places → variable < count → first ≡ get_or starts variable first
    → end ≡ get_or starts (variable + 1) end → first ≤ place → place < end → number ≡ get_or places place number
    → (number < length uses) × ((use_at uses number).variable ≡ variable) × (number ≡ slice_index places place)
number_at uses count starts places variable place number first end groups below begins ends low high is =
    let from : first ≡ slice_index starts variable =
    begins ∙ get_or_default starts variable first 0 (omega (arith, below, groups.start_count)) in
    let to : end ≡ slice_index starts (variable + 1) =
    ends ∙ get_or_default starts (variable + 1) end 0 (omega (arith, below, groups.start_count)) in
    let above : place < slice_index starts (variable + 1) = omega (arith, high, to) in
    let read : number ≡ slice_index places place =
    is ∙ get_or_default places place number 0 (place_within _ count starts places variable place groups below above) in
    let at = placed uses (λ one. one.variable) count starts places variable place groups below (omega (arith, low, from)) above in
    (subst (λ (n : ℕ). n < length uses) (sym read) at.0, subst (λ (n : ℕ). (use_at uses n).variable ≡ variable) (sym read) at.1, read)
