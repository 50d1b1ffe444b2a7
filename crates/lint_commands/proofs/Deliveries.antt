-- What an answer tells of a text that was to be written, of a kind that the answer tells
use Rattle.std.proofs.Common.{List, ℕ, Option, Result, Ok, Err, IfErr}
use Rattle.flow_graph.specs.declared.fault.GraphFault.{GraphFault}
use Rattle.flow_runs.specs.Faults.{Delivers, OfProgram}
use Rattle.flow_runs.specs.declared.fault.Fault.{Fault}
use Rattle.flow_runs.specs.declared.fault.Fault.TheVariants as fault
use Rattle.lint_commands.specs.Runs.{DeliversBy}
use Rattle.lint_commands.specs.declared.told.Told.{Told}

module _ (IsText : List ℕ → Type 0) (IsTold : Told → List ℕ → Type 0) (held holds : Option (List ℕ)) (what : Told)
    (is : (out : List ℕ) → IsText out → IsTold what out) where
  -- a text was written, and what it tells is told
  pub told_written : (x : Unit {0}) → Delivers IsText held holds (Ok x) → DeliversBy IsTold held holds (Ok what)
  told_written x told = (told.0, is told.0 told.1, told.2)

  -- it was not
  pub told_unwritten : (e : Fault) → Delivers {T = Unit {0}} IsText held holds (Err e) → DeliversBy {T = Told} IsTold held holds (Err e)
  told_unwritten fault.Write told = (what, told.0, is told.0 told.1, told.2)
  told_unwritten (fault.Refused f) told = told
  told_unwritten (fault.Graph f) told = told
  told_unwritten fault.NoProcedure told = told
  told_unwritten fault.LargeProcedure told = told
  told_unwritten fault.NoRemark told = told
  told_unwritten fault.OutOfMemory told = told
  told_unwritten fault.Read told = told

-- texts of one kind are texts of another
pub told_as : (IsText IsOther : Told → List ℕ → Type 0) (held holds : Option (List ℕ)) (r : Result Told Fault)
    → ((what : Told) (out : List ℕ) → IsText what out → IsOther what out)
    → DeliversBy IsText held holds r → DeliversBy IsOther held holds r
told_as IsText IsOther held holds (Ok what) is told = (told.0, is what told.0 told.1, told.2)
told_as IsText IsOther held holds (Err fault.Write) is told = (told.0, told.1, is told.0 told.1 told.2, told.3)
told_as IsText IsOther held holds (Err (fault.Refused f)) is told = told
told_as IsText IsOther held holds (Err (fault.Graph f)) is told = told
told_as IsText IsOther held holds (Err fault.NoProcedure) is told = told
told_as IsText IsOther held holds (Err fault.LargeProcedure) is told = told
told_as IsText IsOther held holds (Err fault.NoRemark) is told = told
told_as IsText IsOther held holds (Err fault.OutOfMemory) is told = told
told_as IsText IsOther held holds (Err fault.Read) is told = told

-- what is told of a graph's cause, and of a procedure that is not there, is told of other facts of them
pub cause_as : (P Q : GraphFault → Type 0) (L M : Type 0) (r : Result Told Fault) → ((f : GraphFault) → P f → Q f) → (L → M)
    → IfErr r (OfProgram P L ⊥) → IfErr r (OfProgram Q M ⊥)
cause_as P Q L M (Ok what) is lacks told = tt
cause_as P Q L M (Err fault.Write) is lacks told = told
cause_as P Q L M (Err (fault.Refused f)) is lacks told = told
cause_as P Q L M (Err (fault.Graph f)) is lacks told = is f told
cause_as P Q L M (Err fault.NoProcedure) is lacks told = lacks told
cause_as P Q L M (Err fault.LargeProcedure) is lacks told = told
cause_as P Q L M (Err fault.NoRemark) is lacks told = told
cause_as P Q L M (Err fault.OutOfMemory) is lacks told = told
cause_as P Q L M (Err fault.Read) is lacks told = told
