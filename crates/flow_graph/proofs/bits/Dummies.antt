-- The definition of a variable's number is its dummy
use Rattle.std.proofs.Common.{◌≡◌, ℕ, ◌<◌, flat_map, length, Some, None, ap, ◌∙◌, arith, length-append}
use Rattle.std.proofs.lemmas.List.{get_or_append_left}
use Rattle.std.proofs.lemmas.List.FromFn.{get_or-map-range_with_len, length-map-range_with_len}
use Rattle.std.proofs.lemmas.Option.{slice_get-get_or}
use Rattle.flow_graph.specs.Points.{points}
use Rattle.flow_graph.specs.ProgramLaws.{DummiesComeFirst}
use Rattle.flow_graph.specs.Universes.{Definition, definition_at, definitions, dummies}

dummy : ℕ → Definition
dummy variable = (variable, None)

pub dummies_have_numbers : DummiesComeFirst
dummies_have_numbers program variable there =
    let others = flat_map (definition_at program) (points program) in
    let count : length (dummies program) ≡ length program.variable_names =
    length-map-range_with_len (λ x. let d : Definition = (x, None) in d) 0 (length program.variable_names) in
    let within : variable < length (dummies program) = omega (arith, there, count) in
    let all : variable < length (definitions program) = omega (arith, within, length-append (dummies program) others) in
    slice_get-get_or (definitions program) variable (dummy 0) all
    ∙ ap (λ (d : Definition). Some d)
    (get_or_append_left (dummies program) others (dummy 0) variable within
    ∙ get_or-map-range_with_len (λ x. let d : Definition = (x, None) in d) 0 (length program.variable_names) variable variable (dummy 0) there
    (omega arith))
