-- Why a text was not read.
use Rattle.tac_lines.specs.declared.refusal.ReadFault.{ReadFault}
use Rattle.tac_lines.specs.declared.refusal.ReadFault.TheVariants.{Refused, OutOfMemory}
use Rattle.tac_lines.specs.declared.refusal.Refusal.{Refusal}

-- A fact of the refusal, where it is one; of want of memory nothing is told.
abbrev pub IfRefused : (Refusal → Type 0) → ReadFault → Type 0
IfRefused P (Refused r) = P r
IfRefused P OutOfMemory = Unit {0}
