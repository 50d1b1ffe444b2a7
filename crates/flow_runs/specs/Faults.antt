-- What each fault of a run tells.
use Rattle.std.specs.Prelude.{ℕ, List, Option, Result, Ok, Err}
use Rattle.std.specs.Io.KnownBytes.{Appends, Keeps}
use Rattle.flow_graph.specs.declared.fault.GraphFault.{GraphFault}
use Rattle.tac_lines.specs.declared.refusal.Refusal.{Refusal}
use Rattle.text_pieces.specs.Devices.{AppendsBeginning}
use Rattle.flow_runs.specs.declared.fault.Fault.{Fault}
use Rattle.flow_runs.specs.declared.fault.Fault.TheVariants as fault

-- A fact of the refusal, where the fault is one.
abbrev pub WhereRefused : (Refusal → Type 0) → Fault → Type 0
WhereRefused P (fault.Refused r) = P r
WhereRefused P _ = Unit {0}

-- A fact of the cause, where the fault is that there is no graph.
abbrev pub WhereNoGraph : (GraphFault → Type 0) → Fault → Type 0
WhereNoGraph P (fault.Graph f) = P f
WhereNoGraph P _ = Unit {0}

-- A fact where the fault is that a procedure is not there.
abbrev pub WhereNoProcedure : Type 0 → Fault → Type 0
WhereNoProcedure P fault.NoProcedure = P
WhereNoProcedure P _ = Unit {0}

-- A fact where the fault is that a procedure is too large.
abbrev pub WhereLargeProcedure : Type 0 → Fault → Type 0
WhereLargeProcedure P fault.LargeProcedure = P
WhereLargeProcedure P _ = Unit {0}

-- A fact where the fault is that a remark is not there.
abbrev pub WhereNoRemark : Type 0 → Fault → Type 0
WhereNoRemark P fault.NoRemark = P
WhereNoRemark P _ = Unit {0}

-- A fact where the fault is the sink's.
abbrev pub WhereWrite : Type 0 → Fault → Type 0
WhereWrite P fault.Write = P
WhereWrite P _ = Unit {0}

-- A fact of each fault but that of the sink.
abbrev pub UnlessWrite : Type 0 → Fault → Type 0
UnlessWrite P fault.Write = Unit {0}
UnlessWrite P _ = P

-- How many faults of the source, and of the sink, an answer tells.
abbrev pub read_faults_in : {T : Type 0} → Result T Fault → ℕ
read_faults_in (Err fault.Read) = 1
read_faults_in _ = 0

abbrev pub write_faults_in : {T : Type 0} → Result T Fault → ℕ
write_faults_in (Err fault.Write) = 1
write_faults_in _ = 0

-- The fault tells of no text and no source: memory was refused, a fact of the cause holds for which there is no graph, a fact where a
-- procedure is not there, another where a remark is not, a third where a procedure is too large, or the sink had a fault.
abbrev pub OfProcedure : (GraphFault → Type 0) → Type 0 → Type 0 → Type 0 → Fault → Type 0
OfProcedure P Q R S (fault.Graph f) = P f
OfProcedure P Q R S fault.NoProcedure = Q
OfProcedure P Q R S fault.NoRemark = R
OfProcedure P Q R S fault.LargeProcedure = S
OfProcedure P Q R S fault.OutOfMemory = Unit {0}
OfProcedure P Q R S fault.Write = Unit {0}
OfProcedure P Q R S _ = ⊥

-- the same where no procedure is too large
abbrev pub OfProgram : (GraphFault → Type 0) → Type 0 → Type 0 → Fault → Type 0
OfProgram P Q R = OfProcedure P Q R ⊥

-- Of an answer to the wish to write a text of a kind: at Ok such a text was written, at a fault of the sink a beginning of one, and
-- at every other fault nothing.
abbrev pub Delivers : {T : Type 0} → (List ℕ → Type 0) → Option (List ℕ) → Option (List ℕ) → Result T Fault → Type 0
Delivers IsText held holds (Ok x) = (out : List ℕ) × IsText out × Appends held holds out
Delivers IsText held holds (Err fault.Write) = (out : List ℕ) × IsText out × AppendsBeginning held holds out
Delivers IsText held holds (Err _) = Keeps held holds
