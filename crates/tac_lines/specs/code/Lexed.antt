-- What the code's lines of tokens stand for.
use Rattle.std.specs.Prelude.{ℕ, List, [], ◌∷◌, map}
use Rattle.tac_lines.specs.Tokens.{Token}
use Rattle.tac_lines.specs.code.Ranges.{range_views}
use Rattle.tac_lines.specs.code.Views.{tokens_view}
use Rattle.tac_lines.specs.declared.fault.Fault.{Fault}
use Rattle.tac_lines.specs.declared.fault.Stop.{Stop}
use Rattle.tac_lines.specs.declared.fault.Stop.TheVariants as stop
use Rattle.tac_lines.specs.declared.lexed.Lexed.{Lexed}
use Rattle.tac_lines.specs.declared.token.Token.{Token as Placed}

-- The lines, each by its tokens.
abbrev pub lexed_view : Lexed → List (List Placed)
lexed_view lexed = range_views lexed.tokens.items lexed.lines.items

abbrev pub text_lines : List ℕ → Lexed → List (List Token)
text_lines text lexed = map (tokens_view text) (lexed_view lexed)

-- A line, where it has tokens.
abbrev pub some_of : List Placed → List (List Placed)
some_of [] = []
some_of (t ∷ ts) = (t ∷ ts) ∷ []

-- A fact of the fault, where it is one.
abbrev pub IfFault : (Fault → Type 0) → Stop → Type 0
IfFault P (stop.Fault f) = P f
IfFault P stop.OutOfMemory = Unit {0}
