-- The words of the forms, of when there are colours, and of the kinds of lints.
use Rattle.std.specs.Prelude.{ℕ, Bool, true, List, [], ◌∷◌, Option, None, Some, bytes_eq, codes, if◌then◌else◌}
use Rattle.std.specs.List.{list_all, list_any}
use Rattle.flow_runs.specs.Words.{has_word, kind_named, words_in}
use Rattle.lint_commands.specs.declared.options.Coloring.{Coloring}
use Rattle.lint_commands.specs.declared.options.Coloring.TheVariants.{Auto, Always, Never}
use Rattle.lint_commands.specs.declared.options.Form.{Form}
use Rattle.lint_commands.specs.declared.options.Form.TheVariants as form
use Rattle.lint_texts.specs.LintTexts.{usual_kinds}
use Rattle.lint_texts.specs.declared.kinds.Kinds.{Kinds}

-- In which form it is written, with the words for it.
abbrev pub forms : List (List ℕ × Form)
forms = (codes "text", form.Text) ∷ (codes "json", form.Json) ∷ []

abbrev pub form_named : List ℕ → Option Form
form_named = kind_named forms

-- When there are colours, with the words for it.
abbrev pub colorings : List (List ℕ × Coloring)
colorings = (codes "auto", Auto) ∷ (codes "always", Always) ∷ (codes "never", Never) ∷ []

abbrev pub coloring_named : List ℕ → Option Coloring
coloring_named = kind_named colorings

abbrev pub all_kinds : Kinds
all_kinds = record { never_called = true; never_reached = true; unset = true; computed = true; busy = true; dead = true }

-- Whether a word is what a kind is called.
abbrev pub kind_names : List (List ℕ)
kind_names =
    codes "dead" ∷ codes "unset" ∷ codes "never-called" ∷ codes "never-reached" ∷ codes "computed" ∷ codes "busy" ∷ []

abbrev pub is_kind : List ℕ → Bool
is_kind word = list_any (λ name. bytes_eq name word) kind_names

-- The kinds whose words a list has.
abbrev pub kinds_in : List ℕ → Kinds
kinds_in list = record {
  never_called = has_word (codes "never-called") list;
  never_reached = has_word (codes "never-reached") list;
  unset = has_word (codes "unset") list;
  computed = has_word (codes "computed") list;
  busy = has_word (codes "busy") list;
  dead = has_word (codes "dead") list;
}

-- The kinds that a list names: `all`, or those whose words it has, where it has no other word.
abbrev pub kinds_named : List ℕ → Option Kinds
kinds_named list =
    if bytes_eq list (codes "all") then Some all_kinds else (if list_all is_kind (words_in list) then Some (kinds_in list) else None)

-- The kinds that are asked for, by a list or by none.
abbrev pub kinds_queried : Option (List ℕ) → Option Kinds
kinds_queried None = Some usual_kinds
kinds_queried (Some list) = kinds_named list
