use Rattle.std.proofs.Common.{◌≡◌, ℕ, List, ◌<◌, Some, codes, length, slice_get, sym, ap, ◌∙◌, arith}
use Rattle.std.proofs.lemmas.Option.{get_or_from_slice_get}
use Rattle.text_pieces.proofs.sinks.Taking.{takes_as, takes_then}
use Rattle.tac_program.specs.Programs.{Program}
use Rattle.text_pieces.specs.Strings.{quoted}
use Rattle.flow_views.proofs.texts.Rows.{joined_all, joined_behind}
use Rattle.json_texts.proofs.outlines.write_variables.Goals as goal

pub loop-variable-preserved : goal.loop-variable-preserved
loop-variable-preserved g c =
    let names : List (List ℕ) = c.args.graph.now.variable_names in
    let i : ℕ = c.loop-variable.variable in
    let name : List ℕ = c.variable.result.now in
    let many : c.variables-variable-end.result ≡ length names =
    c.variables-variable-end.ensures ∙ ap (λ (p : Program). length p.variable_names) c.program-program.ensures in
    let below : i < length names = omega (arith, c.loop-variable-test.true, many) in
    let at : slice_get names i ≡ Some name =
    sym (ap (λ (p : Program). slice_get p.variable_names i) c.program-program.ensures) ∙ c.variable.ensures in
    takes_as _ _ _ _ (takes_then _ _ _ _ _ (takes_then _ _ _ _ _ c.loop-variable.invariant c.write_if.ensures)
    c.write_quoted.ensures)
    (joined_behind (codes "[") (codes ",") quoted names i name below (sym (get_or_from_slice_get names i name name at)))

pub returns : goal.returns
returns g c =
    let names : List (List ℕ) = c.args.graph.now.variable_names in
    let many : c.variables-variable-end.result ≡ length names =
    c.variables-variable-end.ensures ∙ ap (λ (p : Program). length p.variable_names) c.program-program.ensures in
    let all : c.loop-variable.variable ≡ length names = omega (arith, c.loop-variable.auto.variable-end, c.loop-variable-test.false, many) in
    takes_as _ _ _ _ (takes_then _ _ _ _ _ c.loop-variable.invariant c.write-2.ensures)
    (joined_all (codes ",") quoted names c.loop-variable.variable all)
