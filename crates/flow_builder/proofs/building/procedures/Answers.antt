use Rattle.std.proofs.Common.{◌≡◌, ◌∙◌, ℕ, ◌+◌, ◌<◌, ◌≤◌, [], ◌∷◌, ◌++◌, All, List, length, get_or, drop, inl, inr, refl, sym, ap, subst, arith, append_assoc}
use Rattle.std.proofs.lemmas.List.Elements.{All-push}
use Rattle.std.proofs.lemmas.Result.{err_from_is_err_and}
use Rattle.tac_program.specs.Programs.{Procedure}
use Rattle.tac_program.specs.Sound.{IsSoundProcedure}
use Rattle.flow_builder.specs.Built.{procedures_from}
use Rattle.flow_builder.specs.Checks.{Fit, IsKnown}
use Rattle.flow_builder.specs.declared.arrays.BuiltProcedure.{BuiltProcedure}
use Rattle.flow_builder.specs.declared.arrays.BuiltStatement.{BuiltStatement}
use Rattle.flow_builder.proofs.BuiltPrograms.{known_more, procedures_step, sum_more}
use Rattle.flow_builder.proofs.Faults.{part_length, procedure_fault, too_many}
use Rattle.flow_builder.proofs.Lists.{All_more, All_whole}
use Rattle.flow_builder.proofs.building.procedures.Goals as goal

pub returns-in_err-made-clause-fault : goal.returns-in_err-made-clause-fault
returns-in_err-made-clause-fault c =
    let fault = err_from_is_err_and c.from_residual-in_err-made.result c.from_residual-in_err-made.ensures.1 in
    let inv = c.loop-number.invariant in
    rw (fault.1, fault.2)
    (procedure_fault c.args.shared.variables c.args.shared.procedures (length c.args.shared.label_names.now) c.args.shared.callees.now c.args.arrays
    c.loop-number.number c.loop-number.statement c.loop-number.label (record { statements = 0; labels = 0 }) _
    (omega (arith, c.loop-number-test.true)) inv.statements_are inv.labels_are (omega (arith, c.if-next_statement-statements.false))
    (omega (arith, c.if-next_label-places.false)) c.requires.callees c.requires.label_names c.in_err-made.ensures.fault)

pub returns-then-next_statement-statements-clause-fault : goal.returns-then-next_statement-statements-clause-fault
returns-then-next_statement-statements-clause-fault c = λ (fit : Fit c.args.arrays).
    let built : List BuiltProcedure = c.args.arrays.procedures.now in
    let n : ℕ = c.loop-number.number in
    let d : BuiltProcedure = record { statements = 0; labels = 0 } in
    let below : n < length built = omega (arith, c.loop-number-test.true) in
    elim c.then-next_statement-statements.either [
      | inl more ↦
          too_many (λ (p : BuiltProcedure). p.statements) built n (length c.args.arrays.statements.now) d below
          (omega (arith, more, c.loop-number.invariant.statements_are)) fit.statements
      | inr (within, more) ↦
          too_many (λ (p : BuiltProcedure). p.labels) built n (length c.args.arrays.labels.now) d below
          (omega (arith, more, c.loop-number.invariant.labels_are)) fit.labels
    ]

pub returns-clause-label_names : goal.returns-clause-label_names
returns-clause-label_names c =
    subst (λ (k : ℕ). All (λ (p : BuiltProcedure). p.labels ≤ k) c.args.arrays.procedures.now) c.requires.label_names
    (All_whole (λ (p : BuiltProcedure). p.labels ≤ length c.args.shared.label_names.now) c.args.arrays.procedures.now c.loop-number.number
    (omega (arith, c.loop-number-test.false)) c.loop-number.invariant.named)

pub loop-number-preserved : goal.loop-number-preserved
loop-number-preserved c =
    let built : List BuiltProcedure = c.args.arrays.procedures.now in
    let statements : List BuiltStatement = c.args.arrays.statements.now in
    let places : List ℕ = c.args.arrays.labels.now in
    let names : List (List ℕ) = c.args.shared.label_names.now in
    let callees : List ℕ = c.args.shared.callees.now in
    let n : ℕ = c.loop-number.number in
    let d : BuiltProcedure = record { statements = 0; labels = 0 } in
    let b : BuiltProcedure = get_or built n d in
    let st : ℕ = c.loop-number.statement in
    let lb : ℕ = c.loop-number.label in
    let below : n < length built = omega (arith, c.loop-number-test.true) in
    let inv = c.loop-number.invariant in
    let old : List Procedure = c.loop-number.procedures.items in
    let made : Procedure = c.in_ok-made.made in
    let is : c.put.new.procedures.items ≡ old ++ made ∷ [] = c.in_ok-put.ensures in
    let rest : List Procedure = procedures_from names callees (n + 1) (drop (n + 1) built) (drop (st + b.statements) statements) (drop (lb + b.labels) places) in
    record {
      statement_in = omega (arith, c.if-next_statement-statements.false);
      label_in = omega (arith, c.if-next_label-places.false);
      statements_are = ap (λ k. k + b.statements) inv.statements_are ∙ sum_more (λ (p : BuiltProcedure). p.statements) built n d below;
      labels_are = ap (λ k. k + b.labels) inv.labels_are ∙ sum_more (λ (p : BuiltProcedure). p.labels) built n d below;
      procedures = ap (λ ps. ps ++ rest) is
          ∙ append_assoc old (made ∷ []) rest
          ∙ ap (λ p. old ++ p ∷ rest) c.in_ok-made.ensures.procedure
          ∙ ap (λ ps. old ++ ps) (sym (procedures_step names callees n built statements places st lb (st + b.statements) (lb + b.labels) d below refl refl))
          ∙ inv.procedures;
      sound = subst (All (IsSoundProcedure c.args.shared.variables c.args.shared.procedures)) (sym is)
          (All-push (IsSoundProcedure c.args.shared.variables c.args.shared.procedures) old made inv.sound c.in_ok-made.ensures.sound);
      named = All_more (λ (p : BuiltProcedure). p.labels ≤ length names) built n d below inv.named
          (omega (arith, c.in_ok-made.ensures.named, part_length places lb b.labels (omega (arith, c.if-next_label-places.false))));
      known = known_more (IsKnown callees) statements st b.statements (omega (arith, c.if-next_statement-statements.false)) inv.known c.in_ok-made.ensures.known;
    }

pub returns-clause-known : goal.returns-clause-known
returns-clause-known c =
    subst (λ (callees : List ℕ). All (IsKnown callees) c.args.arrays.statements.now) c.requires.callees
    (All_whole (IsKnown c.args.shared.callees.now) c.args.arrays.statements.now c.loop-number.statement (omega arith) c.loop-number.invariant.known)
