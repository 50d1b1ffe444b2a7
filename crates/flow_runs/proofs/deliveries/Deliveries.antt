-- What an answer tells of a text that was to be written
use Rattle.std.proofs.Common.{List, ℕ, Option, Result, Ok, Err, IfErr}
use Rattle.flow_graph.specs.declared.fault.GraphFault.{GraphFault}
use Rattle.flow_runs.specs.Faults.{Delivers, OfProcedure, OfProgram}
use Rattle.flow_runs.specs.declared.fault.Fault.{Fault}
use Rattle.flow_runs.specs.declared.fault.Fault.TheVariants as fault

-- a text of one kind is one of another
pub delivers_as : {T : Type 0} (IsText IsOther : List ℕ → Type 0) (held holds : Option (List ℕ)) (r : Result T Fault)
    → ((out : List ℕ) → IsText out → IsOther out)
    → Delivers IsText held holds r → Delivers IsOther held holds r
delivers_as IsText IsOther held holds (Ok x) is told = (told.0, is told.0 told.1, told.2)
delivers_as IsText IsOther held holds (Err fault.Write) is told = (told.0, is told.0 told.1, told.2)
delivers_as IsText IsOther held holds (Err (fault.Refused f)) is told = told
delivers_as IsText IsOther held holds (Err (fault.Graph f)) is told = told
delivers_as IsText IsOther held holds (Err fault.NoProcedure) is told = told
delivers_as IsText IsOther held holds (Err fault.LargeProcedure) is told = told
delivers_as IsText IsOther held holds (Err fault.NoRemark) is told = told
delivers_as IsText IsOther held holds (Err fault.OutOfMemory) is told = told
delivers_as IsText IsOther held holds (Err fault.Read) is told = told

-- a fault that is none of the graph or a procedure is one of any program, with what it tells of a remark
pub no_graph_fault : {T : Type 0} (P : GraphFault → Type 0) (Q R S : Type 0) (r : Result T Fault) → (S → R) → IfErr r (OfProgram (λ _. ⊥) ⊥ S)
    → IfErr r (OfProgram P Q R)
no_graph_fault P Q R S (Ok x) of told = tt
no_graph_fault P Q R S (Err fault.Write) of told = told
no_graph_fault P Q R S (Err (fault.Refused f)) of told = told
no_graph_fault P Q R S (Err (fault.Graph f)) of told = absurd told
no_graph_fault P Q R S (Err fault.NoProcedure) of told = absurd told
no_graph_fault P Q R S (Err fault.LargeProcedure) of told = absurd told
no_graph_fault P Q R S (Err fault.NoRemark) of told = of told
no_graph_fault P Q R S (Err fault.OutOfMemory) of told = told
no_graph_fault P Q R S (Err fault.Read) of told = told

-- the same where one procedure may be shown, with what it tells of a procedure that is too large
pub no_procedure_fault : {T : Type 0} (P : GraphFault → Type 0) (Q R S U V : Type 0) (r : Result T Fault) → (S → R) → (V → U)
    → IfErr r (OfProcedure (λ _. ⊥) ⊥ S V) → IfErr r (OfProcedure P Q R U)
no_procedure_fault P Q R S U V (Ok x) of large told = tt
no_procedure_fault P Q R S U V (Err fault.Write) of large told = told
no_procedure_fault P Q R S U V (Err (fault.Refused f)) of large told = told
no_procedure_fault P Q R S U V (Err (fault.Graph f)) of large told = absurd told
no_procedure_fault P Q R S U V (Err fault.NoProcedure) of large told = absurd told
no_procedure_fault P Q R S U V (Err fault.LargeProcedure) of large told = large told
no_procedure_fault P Q R S U V (Err fault.NoRemark) of large told = of told
no_procedure_fault P Q R S U V (Err fault.OutOfMemory) of large told = told
no_procedure_fault P Q R S U V (Err fault.Read) of large told = told
