-- The text of a table: one line for each point.
use Rattle.std.specs.Prelude.{◌≡◌, ℕ, List, [], ◌∷◌, ◌++◌, map, flat_map, filter, Some, None, option_map, unwrap_or, if◌then◌else◌, codes, decimal}
use Rattle.std.specs.List.{range_with_len}
use Rattle.flow_team.specs.Tables.{Facts, AreFacts}
use Rattle.flow_graph.specs.Points.{points, place_of, procedure_at, statement_at}
use Rattle.flow_graph.specs.Universes.{Definition, definitions, expressions, bits}
use Rattle.flow_graph.specs.declared.analysis.Analysis.{Analysis}
use Rattle.flow_graph.specs.declared.analysis.Analysis.TheVariants.{Reach, Live, Avail, Busy}
use Rattle.flow_graph.specs.declared.expression.Expr.{Expr}
use Rattle.flow_graph.specs.declared.expression.Expr.TheVariants.{Unary, Binary}
use Rattle.tac_program.specs.Names.{name_at}
use Rattle.tac_listing.specs.Listings.{names_of, unary_text, binary_text}
use Rattle.tac_program.specs.Programs.{Program}

abbrev pub variable_text : Program → ℕ → List ℕ
variable_text program variable = name_at program.variable_names variable

abbrev pub expression_text : Program → Expr → List ℕ
expression_text program (Unary op y) = unary_text (names_of program) op y
expression_text program (Binary y op z) = binary_text (names_of program) y op z

-- the line of the statement at a point, from 1
abbrev pub line_at : Program → ℕ → ℕ
line_at program point = unwrap_or (option_map (λ s. s.span.line) (statement_at program point)) 0

-- `NAME@LINE`, or `NAME@entry` for the value at the program's beginning
abbrev pub definition_text : Program → Definition → List ℕ
definition_text program (variable, None) = variable_text program variable ++ codes "@entry"
definition_text program (variable, Some point) = variable_text program variable ++ codes "@" ++ decimal (line_at program point)

-- the text of each bit of an analysis, in the order of their numbers
abbrev pub bit_texts : Program → Analysis → List (List ℕ)
bit_texts program Reach = map (definition_text program) (definitions program)
bit_texts program Live = program.variable_names
bit_texts program Avail = map (expression_text program) (expressions program)
bit_texts program Busy = map (expression_text program) (expressions program)

abbrev pub bit_text : Program → Analysis → ℕ → List ℕ
bit_text program analysis bit = name_at (bit_texts program analysis) bit

-- the bits in the set of a point, by number
abbrev pub bits_at : Program → Analysis → Facts → ℕ → List ℕ
bits_at program analysis facts point = filter (facts.contains point) (range_with_len 0 (bits program analysis))

-- texts with `, ` between them, or `-` where there are none
abbrev pub listed : List (List ℕ) → List ℕ
listed [] = codes "-"
listed (first ∷ others) = first ++ flat_map (λ text. codes ", " ++ text) others

-- `NAME PLACE`: the procedure of a point, and its place there
abbrev pub place_text : Program → ℕ → List ℕ
place_text program point = name_at program.procedure_names (procedure_at program point) ++ codes " " ++ decimal (place_of program point).place

-- `NAME PLACE: SET`, and `NAME PLACE (no path): SET` where there is no valid path
abbrev pub point_line : Program → Analysis → Facts → ℕ → List ℕ
point_line program analysis facts point =
    place_text program point ++ (if facts.has_path point then codes ": " else codes " (no path): ")
    ++ listed (map (bit_text program analysis) (bits_at program analysis facts point)) ++ codes "\n"

-- the lines of all points in order
abbrev pub table_text_of : Program → Analysis → Facts → List ℕ
table_text_of program analysis facts = flat_map (point_line program analysis facts) (points program)

-- The text is that of the analysis's meets over all valid paths.
pub record IsTableText (program : Program) (analysis : Analysis) (text : List ℕ) : Type 0 where
  pub facts : Facts
  pub are_facts : AreFacts program analysis facts
  pub is_text : text ≡ table_text_of program analysis facts
