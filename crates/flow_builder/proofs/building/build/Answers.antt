use Rattle.std.proofs.Common.{◌≡◌, ◌∙◌, ℕ, All, List, codes, length, not, sym, ap, subst, arith}
use Rattle.std.specs.Prelude.{Contains}
use Rattle.std.proofs.lemmas.Result.{err_from_is_err_and}
use Rattle.tac_program.specs.Programs.{Procedure}
use Rattle.tac_program.specs.Sound.{IsSoundProcedure}
use Rattle.tac_program.specs.declared.limits.Limits.TheVariants.{Large}
use Rattle.flow_builder.specs.Checks.{AreFew}
use Rattle.flow_builder.specs.declared.arrays.Arrays.{Arrays}
use Rattle.flow_builder.proofs.BuiltPrograms.{few_large, found_contained, length-names, none_contained, sound_program}
use Rattle.flow_builder.proofs.Faults.{procedures_fault}
use Rattle.flow_builder.proofs.building.build.Goals as goal

pub returns-then-is_none-clause-fault : goal.returns-then-is_none-clause-fault
returns-then-is_none-clause-fault c =
    let names : List (List ℕ) = c.in_ok-procedure_names.procedure_names in
    subst (λ (ns : List (List ℕ)). ¬ (Contains ns (codes "main"))) c.in_ok-procedure_names.ensures.names
    (none_contained names (codes "main") c.find.result c.find.ensures.number (c.is_none.ensures ∙ ap not c.if-is_none.true))

pub returns-in_err-procedures-clause-fault : goal.returns-in_err-procedures-clause-fault
returns-in_err-procedures-clause-fault c =
    let fault = err_from_is_err_and c.from_residual-in_err-procedures.result c.from_residual-in_err-procedures.ensures.1 in
    let arrays : Arrays = c.args.arrays in
    let variables : c.len.result ≡ length arrays.variable_names.ends.now =
    c.len.ensures ∙ ap length c.in_ok-variables.ensures.names ∙ length-names 0 arrays.variable_names.ends.now arrays.variable_names.bytes.now in
    let count : c.len-2.result ≡ length arrays.procedures.now =
    c.len-2.ensures ∙ ap length c.in_ok-procedure_names.ensures.names
    ∙ length-names 0 arrays.procedure_names.ends.now arrays.procedure_names.bytes.now ∙ c.in_ok-check.ensures.named in
    rw (fault.1, fault.2)
    (procedures_fault c.args.limits c.len.result c.len-2.result arrays _ variables count c.in_err-procedures.ensures.fault)

pub procedures-requires-clause-label_names : goal.procedures-requires-clause-label_names
procedures-requires-clause-label_names c =
    ap length c.in_ok-labels.ensures.names ∙ length-names 0 c.args.arrays.label_names.ends.now c.args.arrays.label_names.bytes.now

pub returns-clause-fit : goal.returns-clause-fit
returns-clause-fit c = record {
  names = c.in_ok-check.ensures.named;
  statements = c.in_ok-procedures.ensures.statements;
  labels = c.in_ok-procedures.ensures.labels;
  label_names = c.in_ok-procedures.ensures.label_names;
}

pub new-requires : goal.new-requires
new-requires c =
    let arrays : Arrays = c.args.arrays in
    let names : List (List ℕ) = c.in_ok-labels.labels in
    let procedure_names : List (List ℕ) = c.in_ok-procedure_names.procedure_names in
    let few : AreFew Large arrays = few_large c.args.limits arrays c.in_ok-check.ensures.few in
    let variables : length c.in_ok-variables.variables ≡ length arrays.variable_names.ends.now =
    ap length c.in_ok-variables.ensures.names ∙ length-names 0 arrays.variable_names.ends.now arrays.variable_names.bytes.now in
    let count : length procedure_names ≡ length arrays.procedures.now =
    ap length c.in_ok-procedure_names.ensures.names ∙ length-names 0 arrays.procedure_names.ends.now arrays.procedure_names.bytes.now
    ∙ c.in_ok-check.ensures.named in
    let procedures : List Procedure = c.in_ok-procedures.procedures.items in
    let sound : All (IsSoundProcedure (length c.in_ok-variables.variables) (length arrays.procedures.now)) procedures =
    subst (λ v. All (IsSoundProcedure v (length arrays.procedures.now)) procedures) c.len.ensures
    (subst (λ p. All (IsSoundProcedure c.len.result p) procedures) (c.len-2.ensures ∙ count) c.in_ok-procedures.ensures.sound) in
    sound_program names arrays.callees.now procedures arrays.procedures.now arrays.statements.now arrays.labels.now procedure_names
    c.in_ok-variables.variables c.in_ok-procedures.ensures.procedures count few.procedures few.statements few.labels (omega (arith, variables, few.variables))
    (found_contained procedure_names (codes "main") c.find.result c.find.ensures.number (λ none. cc (sym none ∙ c.is_none.ensures ∙ ap not c.if-is_none.false)))
    c.in_ok-procedure_names.ensures.lawful c.in_ok-procedure_names.ensures.differ
    c.in_ok-variables.ensures.lawful c.in_ok-variables.ensures.differ sound
