-- Words for the worked texts of the reader.
use Rattle.std.specs.Prelude.{ℕ, zero, suc, ◌+◌, ◌/◌, ◌%◌, List, [], ◌∷◌, ◌++◌, Option, Some, codes}
use Rattle.tac_program.specs.Programs.{Program}
use Rattle.tac_lines.specs.Tokens.{Word, Token}
use Rattle.tac_program.specs.declared.program.Op.TheVariants.{Minus, Greater}
use Rattle.tac_program.specs.declared.program.Operand.TheVariants.{Variable, Number}
use Rattle.tac_program.specs.declared.program.StmtKind.TheVariants as kind
use Rattle.tac_lines.specs.declared.refusal.Refusal.{Refusal}
use Rattle.tac_lines.specs.declared.refusal.RefusalKind.{RefusalKind}

abbrev pub refused : RefusalKind → ℕ → ℕ → Option Refusal
refused kind line column = Some (record { kind = kind; line = line; column = column })

abbrev pub word_from : ℕ → ℕ → Word → Token
word_from start stop w = record { word = w; start = start; stop = stop }

-- n procedures of two letters and a `p`, before a text
abbrev pub procedures_before : ℕ → List ℕ → List ℕ
procedures_before zero after = after
procedures_before (suc n) after = procedures_before n (codes "proc p" ++ (97 + n / 26) ∷ (97 + n % 26) ∷ codes "\nend\n" ++ after)

-- x, y and z are the variables 0, 1 and 2; main and p the procedures 0 and 1
abbrev pub numbered_example : Program
numbered_example = record {
  procedures =
      record {
        name = 0;
        labels = record { name = 0; place = 0 } ∷ record { name = 1; place = 1 } ∷ record { name = 2; place = 1 } ∷ [];
        label_names = codes "L" ∷ codes "M" ∷ codes "end1" ∷ [];
        statements = record { kind = kind.Copy 0 (Variable 1); span = record { line = 2; start = 13; end = 18 } } ∷ [];
      }
      ∷ record {
        name = 1;
        labels = record { name = 0; place = 2 } ∷ [];
        label_names = codes "M" ∷ [];
        statements =
            record { kind = kind.Read 2; span = record { line = 6; start = 38; end = 44 } }
            ∷ record { kind = kind.Unary 0 Minus (Number 7); span = record { line = 7; start = 45; end = 51 } }
            ∷ record { kind = kind.IfCompare Greater 0 (Variable 1) (Variable 2); span = record { line = 8; start = 55; end = 70 } }
            ∷ record { kind = kind.Call (1 ∷ 0 ∷ []); span = record { line = 9; start = 71; end = 84 } }
            ∷ [];
      }
      ∷ [];
  procedure_names = codes "main" ∷ codes "p" ∷ [];
  variable_names = codes "x" ∷ codes "y" ∷ codes "z" ∷ [];
}
