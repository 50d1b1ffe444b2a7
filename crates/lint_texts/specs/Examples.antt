-- What worked lines are told of.
use Rattle.std.specs.Prelude.{ℕ, false, List, codes}
use Rattle.lint_styles.specs.declared.style.Style.{Style}
use Rattle.lint_texts.specs.LintTexts.{FileText}

abbrev pub a_tac : List ℕ → FileText
a_tac text = record { name = codes "a.tac"; text = text }

abbrev pub plain : Style
plain = record { source = false; color = false }

-- the texts of worked programs
abbrev pub uncalled_text : List ℕ
uncalled_text = codes "proc main\nx = 1\ncall p\nend\nproc p\nskip\nend\nproc q\ncall p\nL: goto L\nend\n"

abbrev pub early_text : List ℕ
early_text = codes "proc main\nx = 1\nreturn\nprint x\nx = 2\nend\n"

-- a statement that stands behind a blank and a label
abbrev pub labelled_text : List ℕ
labelled_text = codes "proc main\n L: x = 1\nend\n"

-- a procedure with no statement, behind an empty line and blanks
abbrev pub empty_text : List ℕ
empty_text = codes "proc main\nend\n\n  proc p\nend\n"
