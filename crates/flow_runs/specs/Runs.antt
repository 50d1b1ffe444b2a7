-- What a run makes of the text that it pulled, within its limits, whatever it shows of a program.
use Rattle.std.specs.Prelude.{◌≡◌, ◌+◌, ℕ, List, Bool, true, Option, None, Some}
use Rattle.std.specs.Io.KnownBytes.{Appends}
use Rattle.flow_graph.specs.Limits.{HasFewBits, HasFewPoints, HasManyBits, HasManyPoints}
use Rattle.tac_program.specs.Limits.{longest_text}
use Rattle.tac_program.specs.declared.limits.Limits.{Limits}
use Rattle.flow_graph.specs.declared.fault.GraphFault.{GraphFault}
use Rattle.flow_graph.specs.declared.fault.GraphFault.TheVariants as graph_fault
use Rattle.tac_reader.specs.Faults.{refusal_within}
use Rattle.tac_program.specs.Programs.{Program}
use Rattle.tac_reader.specs.Parses.{program_of}
use Rattle.tac_lines.specs.declared.refusal.Refusal.{Refusal}
use Rattle.text_pieces.specs.Devices.{AppendsBeginning}
use Rattle.text_pieces.specs.Pulls.{PullsUpTo}

-- At most one byte more than the longest text has is pulled.
abbrev pub PullsAll : Limits → Option (List ℕ) → Option (List ℕ) → Bool → List ℕ → Type 0
PullsAll limits = PullsUpTo (longest_text limits + 1)

-- the graph is within its limits, where one is needed
abbrev pub HasItsGraph : Limits → Bool → Program → Type 0
HasItsGraph limits is_needed program = is_needed ≡ true → HasFewPoints limits program × HasFewBits limits program

-- the program has no graph, for this cause; want of memory is none
abbrev pub IsOverLimit : Limits → Program → GraphFault → Type 0
IsOverLimit limits program graph_fault.TooManyPoints = HasManyPoints limits program
IsOverLimit limits program graph_fault.TooManyBits = HasManyBits limits program
IsOverLimit limits program graph_fault.OutOfMemory = ⊥

-- The text is a program that is shown, and this is what is written for it. Whether its graph is needed, and what is written of a
-- program, is each program's own.
pub record Outputs (limits : Limits) (is_needed : Bool) (IsShown : Program → List ℕ → Type 0) (text out : List ℕ) : Type 0 where
  pub faultless : refusal_within limits text ≡ None
  pub fits : HasItsGraph limits is_needed (program_of text)
  pub answer : IsShown (program_of text) out

-- The text is a program of which nothing is shown that needs its graph, for this cause.
pub record HasNoGraph (limits : Limits) (is_needed : Bool) (text : List ℕ) (cause : GraphFault) : Type 0 where
  pub faultless : refusal_within limits text ≡ None
  pub needed : is_needed ≡ true
  pub over : IsOverLimit limits (program_of text) cause

-- The text is a program that has not what is asked for: a procedure, one that is small enough, or a remark.
pub record Lacking (limits : Limits) (Lacks : Program → Type 0) (text : List ℕ) : Type 0 where
  pub faultless : refusal_within limits text ≡ None
  pub lacks : Lacks (program_of text)

-- The whole text was pulled, and the answer to it was written and nothing else. What is shown of a program may go by its text too.
pub record WritesAnswerOf (limits : Limits) (is_needed : Bool) (IsShown : List ℕ → Program → List ℕ → Type 0) (before after : Option (List ℕ))
    (ended : Bool) (held holds : Option (List ℕ)) : Type 0 where
  pub text : List ℕ
  pub out : List ℕ
  pub pulls : PullsAll limits before after ended text
  pub outputs : Outputs limits is_needed (IsShown text) text out
  pub writes : Appends held holds out

-- The whole text was pulled, and a beginning of the answer to it was written.
pub record WritesBeginningOf (limits : Limits) (is_needed : Bool) (IsShown : List ℕ → Program → List ℕ → Type 0) (before after : Option (List ℕ))
    (ended : Bool) (held holds : Option (List ℕ)) : Type 0 where
  pub text : List ℕ
  pub out : List ℕ
  pub pulls : PullsAll limits before after ended text
  pub outputs : Outputs limits is_needed (IsShown text) text out
  pub writes : AppendsBeginning held holds out

-- the same where what is shown goes by the program alone
abbrev pub WritesAnswer : Limits → Bool → (Program → List ℕ → Type 0) → Option (List ℕ) → Option (List ℕ) → Bool → Option (List ℕ)
    → Option (List ℕ) → Type 0
WritesAnswer limits is_needed IsShown = WritesAnswerOf limits is_needed (λ text. IsShown)

abbrev pub WritesBeginning : Limits → Bool → (Program → List ℕ → Type 0) → Option (List ℕ) → Option (List ℕ) → Bool → Option (List ℕ)
    → Option (List ℕ) → Type 0
WritesBeginning limits is_needed IsShown = WritesBeginningOf limits is_needed (λ text. IsShown)

-- The whole text was pulled, and it is refused so.
pub record PullsRefused (limits : Limits) (before after : Option (List ℕ)) (ended : Bool) (refusal : Refusal) : Type 0 where
  pub text : List ℕ
  pub pulls : PullsAll limits before after ended text
  pub refuses : refusal_within limits text ≡ Some refusal

-- The whole text was pulled, and it is a program, but has no graph for this cause.
pub record PullsOverLimit (limits : Limits) (is_needed : Bool) (before after : Option (List ℕ)) (ended : Bool) (cause : GraphFault) : Type 0 where
  pub text : List ℕ
  pub pulls : PullsAll limits before after ended text
  pub refuses : HasNoGraph limits is_needed text cause

-- The whole text was pulled, and it is a program, but has not what is asked for.
pub record PullsLacking (limits : Limits) (Lacks : Program → Type 0) (before after : Option (List ℕ)) (ended : Bool) : Type 0 where
  pub text : List ℕ
  pub pulls : PullsAll limits before after ended text
  pub lacks : Lacking limits Lacks text
