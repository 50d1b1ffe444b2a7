-- What the code keeps of a text that was read.
use Rattle.std.specs.Prelude.{◌≡◌, ◌<◌, ℕ, Bool, List, [], ◌∷◌, Option, Some, None, Result, Ok, Err, length, map}
use Rattle.std.specs.List.{after_first, before_first, position_or_len, slice_split}
use Rattle.part_texts.specs.Lines.{Line}
use Rattle.part_texts.specs.Parts.{Heading, Part}
use Rattle.part_texts.specs.declared.heading.ReadHeading.{ReadHeading}
use Rattle.part_texts.specs.declared.line.PartLine.{PartLine}
use Rattle.part_texts.specs.declared.read.ReadPart.{ReadPart}

-- no byte of a text passes
pub record IsWhole (test : ℕ → Bool) (text : List ℕ) : Type 0 where
  pub none : position_or_len test text ≡ length text
  pub split : slice_split test text ≡ text ∷ []

-- a text cut around the first byte that passes
pub record IsCut (test : ℕ → Bool) (text before after : List ℕ) : Type 0 where
  pub is_before : before ≡ before_first test text
  pub is_after : after ≡ after_first test text
  pub split : slice_split test text ≡ before ∷ slice_split test after
  pub shorter : length after < length text

-- what is good of a result, told otherwise
abbrev pub told_as : {A B E : Type 0} → (A → B) → Result A E → Result B E
told_as tell (Ok good) = Ok (tell good)
told_as tell (Err fault) = Err fault

abbrev pub line_of : PartLine → Line
line_of line = record { mark = line.mark; part = line.part; text = line.text.now }

abbrev pub some_line : Option PartLine → Option Line
some_line (Some line) = Some (line_of line)
some_line None = None

abbrev pub heading_in : ReadHeading → Heading
heading_in heading = record { form = heading.form; part = heading.part; count = heading.count; digest = heading.digest.now }

abbrev pub some_heading : Option ReadHeading → Option Heading
some_heading (Some heading) = Some (heading_in heading)
some_heading None = None

abbrev pub part_in : ReadPart → Part
part_in part = record { heading = heading_in part.heading; counts = part.counts.now; lines = map line_of part.lines.items }
