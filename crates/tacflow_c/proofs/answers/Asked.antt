-- What a call over a handle answers.
use Rattle.std.proofs.Common.{◌≡◌, ℕ, Some, None, sym, subst, refl, ◌∙◌}
use Rattle.std.specs.Prelude.{Option, Result, Ok, Err, OnOk, IfErr}
use Rattle.flow_kept.specs.Kept.{KeptProgram}
use Rattle.tac_program.specs.Programs.{Program}
use Rattle.tacflow_c.specs.Handles.{Asked, IsAsked}
use Rattle.tacflow_c.specs.Statuses.{fault_in, status_of}
use Rattle.flow_records.specs.declared.fault.Fault.{Fault}
use Rattle.flow_records.specs.declared.fault.Fault.TheVariants.{BadHandle}

-- of a closed one
pub closed : (old : Option KeptProgram) (Answer : Program → Type 0) (IsKept : Fault → Type 0) (IsFault : Program → Fault → Type 0)
    → old ≡ None → IsKept BadHandle → IsAsked 8 old old Answer IsKept IsFault
closed old Answer IsKept IsFault is kept = record {
  fault = Some BadHandle;
  status_is = refl;
  handle_is = refl;
  outcome = subst (λ (o : Option KeptProgram). Asked o Answer IsKept IsFault (Some BadHandle)) (sym is) (refl, kept);
}

outcome_of : {A : Type 0} (kept : KeptProgram) (Answer : Program → Type 0) (IsKept : Fault → Type 0) (IsFault : Program → Fault → Type 0)
    (answer : Result A Fault) → OnOk answer (Answer kept.program) → IfErr answer IsKept → IfErr answer (IsFault kept.program)
    → Asked (Some kept) Answer IsKept IsFault (fault_in answer)
outcome_of kept Answer IsKept IsFault (Ok a) ok as_it_was cause = ok
outcome_of kept Answer IsKept IsFault (Err f) ok as_it_was cause = (as_it_was, cause)

-- of an open one
pub asked : {A : Type 0} (status : ℕ) (old new : Option KeptProgram) (kept : KeptProgram) (Answer : Program → Type 0) (IsKept : Fault → Type 0)
    (IsFault : Program → Fault → Type 0) (answer : Result A Fault)
    → old ≡ Some kept → new ≡ Some kept → status ≡ status_of (fault_in answer)
    → OnOk answer (Answer kept.program) → IfErr answer IsKept → IfErr answer (IsFault kept.program)
    → IsAsked status old new Answer IsKept IsFault
asked status old new kept Answer IsKept IsFault answer is now status_is ok as_it_was cause = record {
  fault = fault_in answer;
  status_is = status_is;
  handle_is = now ∙ sym is;
  outcome = subst (λ (o : Option KeptProgram). Asked o Answer IsKept IsFault (fault_in answer)) (sym is)
      (outcome_of kept Answer IsKept IsFault answer ok as_it_was cause);
}
