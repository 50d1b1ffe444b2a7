-- What the bits of the analyses are called in a text, and their numbers.
use Rattle.std.specs.Prelude.{ℕ, List, codes, decimal, max}
use Rattle.flow_graph.specs.Universes.{bits}
use Rattle.flow_graph.specs.declared.analysis.Analysis.{Analysis}
use Rattle.flow_graph.specs.declared.analysis.Analysis.TheVariants.{Reach, Live, Avail}
use Rattle.flow_texts.specs.Tables.{bit_text}
use Rattle.text_pieces.specs.code.Blocks.{HoldsTexts, SeparatedTexts}
use Rattle.tac_program.specs.Programs.{Program}
use Rattle.text_pieces.specs.Strings.{escaped, quoted}
use Rattle.flow_views.specs.declared.names.NameForm.{NameForm}
use Rattle.flow_views.specs.declared.names.NameForm.TheVariants.{Escaped, Quoted}
use Rattle.flow_views.specs.declared.names.Names.{Names}

-- what stands between two names
abbrev pub between : NameForm → List ℕ
between Escaped = codes ", "
between Quoted = codes ","

-- a name
abbrev pub name_in : NameForm → List ℕ → List ℕ
name_in Escaped name = escaped name
name_in Quoted name = quoted name

-- The block has the names of all bits of an analysis.
abbrev pub AreNamesOf : NameForm → Program → Analysis → SeparatedTexts → Type 0
AreNamesOf form program analysis block = HoldsTexts (between form) (λ bit. name_in form (bit_text program analysis bit)) (bits program analysis) block

-- how many numbers stand beside the names: those of all bits, or none
abbrev pub numbered : NameForm → Program → ℕ
numbered Escaped program = 0
numbered Quoted program = max (max (bits program Reach) (bits program Live)) (bits program Avail)

-- They are those of this program.
pub record AreNames (program : Program) (names : Names) : Type 0 where
  pub definitions : AreNamesOf names.form program Reach names.definitions
  pub variables : AreNamesOf names.form program Live names.variables
  pub expressions : AreNamesOf names.form program Avail names.expressions
  pub numbers : HoldsTexts (codes ",") decimal (numbered names.form program) names.numbers
