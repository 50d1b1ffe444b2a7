-- The line on standard error for each fault.
use Rattle.std.specs.Prelude.{ℕ, List, ◌++◌, codes, decimal}
use Rattle.flow_graph.specs.declared.fault.GraphFault.{GraphFault}
use Rattle.flow_graph.specs.declared.fault.GraphFault.TheVariants as graph_fault
use Rattle.tac_lines.specs.LineFaults.{number_of_kind}
use Rattle.tac_lines.specs.declared.refusal.Refusal.{Refusal}
use Rattle.tac_lines.specs.declared.refusal.RefusalKind.{RefusalKind}
use Rattle.tac_lines.specs.declared.refusal.RefusalKind.TheVariants as kind
use Rattle.flow_runs.specs.declared.fault.Fault.{Fault}
use Rattle.flow_runs.specs.declared.fault.Fault.TheVariants as fault

-- The name of a kind of refusal.
abbrev pub name_of_kind : RefusalKind → List ℕ
name_of_kind kind.BadByte = codes "BadByte"
name_of_kind kind.NumberTooLarge = codes "NumberTooLarge"
name_of_kind kind.NameTooLong = codes "NameTooLong"
name_of_kind kind.Syntax = codes "Syntax"
name_of_kind kind.Unclosed = codes "Unclosed"
name_of_kind kind.NoMain = codes "NoMain"
name_of_kind kind.DuplicateProcedure = codes "DuplicateProcedure"
name_of_kind kind.DuplicateLabel = codes "DuplicateLabel"
name_of_kind kind.UnknownLabel = codes "UnknownLabel"
name_of_kind kind.UnknownProcedure = codes "UnknownProcedure"
name_of_kind kind.TextTooLong = codes "TextTooLong"
name_of_kind kind.TooManyProcedures = codes "TooManyProcedures"
name_of_kind kind.DuplicateCallee = codes "DuplicateCallee"

-- `LINE:COLUMN: refusal NUMBER: NAME`
abbrev pub refusal_text : Refusal → List ℕ
refusal_text r =
    decimal r.line ++ codes ":" ++ decimal r.column ++ codes ": refusal " ++ decimal (number_of_kind r.kind) ++ codes ": " ++ name_of_kind r.kind

-- `refusal NUMBER: NAME`
abbrev pub graph_text : GraphFault → List ℕ
graph_text graph_fault.TooManyPoints = codes "refusal 21: TooManyPoints"
graph_text graph_fault.TooManyBits = codes "refusal 22: TooManyBits"
graph_text graph_fault.OutOfMemory = codes "out of memory"

abbrev pub fault_text : Fault → List ℕ
fault_text (fault.Refused r) = refusal_text r
fault_text (fault.Graph f) = graph_text f
fault_text fault.NoProcedure = codes "no such procedure"
fault_text fault.LargeProcedure = codes "the procedure is too large"
fault_text fault.NoRemark = codes "no such remark"
fault_text fault.OutOfMemory = codes "out of memory"
fault_text fault.Read = codes "read fault"
fault_text fault.Write = codes "write fault"

-- The whole line, with its line feed, of the program of this name.
abbrev pub line_of_fault : List ℕ → Fault → List ℕ
line_of_fault name f = name ++ (codes ": " ++ fault_text f ++ codes "\n")
