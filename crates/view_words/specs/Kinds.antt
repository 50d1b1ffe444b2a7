-- The words of the formats and of the facts.
use Rattle.std.specs.Prelude.{ℕ, Bool, true, false, List, [], ◌∷◌, Option, None, Some, bytes_eq, codes, if◌then◌else◌}
use Rattle.std.specs.List.{list_all, list_any}
use Rattle.flow_runs.specs.Words.{has_word, kind_named, words_in}
use Rattle.flow_graph.specs.declared.analysis.TheConstants.Analysis as all
use Rattle.flow_views.specs.Views.{analysis_name}
use Rattle.flow_views.specs.declared.view.Chosen.{Chosen}
use Rattle.view_words.specs.declared.options.Format.{Format}
use Rattle.view_words.specs.declared.options.Format.TheVariants as format

-- Each format with its word.
abbrev pub formats : List (List ℕ × Format)
formats = (codes "dot", format.Dot) ∷ (codes "json", format.Json) ∷ (codes "report", format.Report) ∷ (codes "html", format.Html) ∷ []

-- The format that a word names.
abbrev pub format_named : List ℕ → Option Format
format_named = kind_named formats

-- The format with paths, where they are asked for: only lines of JSON have them, and the page around them.
abbrev pub with_paths : Bool → Format → Option Format
with_paths false format = Some format
with_paths true format.Dot = None
with_paths true format.Calls = None
with_paths true format.Blocks = None
with_paths true format.Json = Some format.JsonPaths
with_paths true format.JsonPaths = Some format.JsonPaths
with_paths true format.JsonChanges = None
with_paths true format.Steps = None
with_paths true format.Report = None
with_paths true format.Html = Some format.HtmlPaths
with_paths true format.HtmlPaths = Some format.HtmlPaths
with_paths true format.HtmlSteps = None

-- The format with differences in place of sets, where they are asked for: only lines of JSON without paths have them, and pictures, whose look says
-- so.
abbrev pub with_changes : Bool → Format → Option Format
with_changes false format = Some format
with_changes true format.Dot = Some format.Dot
with_changes true format.Calls = None
with_changes true format.Blocks = None
with_changes true format.Json = Some format.JsonChanges
with_changes true format.JsonPaths = None
with_changes true format.JsonChanges = Some format.JsonChanges
with_changes true format.Steps = None
with_changes true format.Report = None
with_changes true format.Html = None
with_changes true format.HtmlPaths = None
with_changes true format.HtmlSteps = None

-- The format, where it fits to what is asked for: pictures alone have it.
abbrev pub with_picture : Bool → Format → Option Format
with_picture false format = Some format
with_picture true format.Dot = Some format.Dot
with_picture true format.Calls = Some format.Calls
with_picture true format.Blocks = Some format.Blocks
with_picture true format.Json = None
with_picture true format.JsonPaths = None
with_picture true format.JsonChanges = None
with_picture true format.Steps = None
with_picture true format.Report = None
with_picture true format.Html = None
with_picture true format.HtmlPaths = None
with_picture true format.HtmlSteps = None

-- The format with the call graph in place of points, where it is asked for: only pictures have it, of all procedures and without facts.
abbrev pub with_calls : (is plain : Bool) → Format → Option Format
with_calls false plain format = Some format
with_calls true plain format.Dot = if plain then Some format.Calls else None
with_calls true plain format.Calls = if plain then Some format.Calls else None
with_calls true plain format.Blocks = None
with_calls true plain format.Json = None
with_calls true plain format.JsonPaths = None
with_calls true plain format.JsonChanges = None
with_calls true plain format.Steps = None
with_calls true plain format.Report = None
with_calls true plain format.Html = None
with_calls true plain format.HtmlPaths = None
with_calls true plain format.HtmlSteps = None

-- The format with blocks in place of points, where they are asked for: only pictures have them, without differences, sets behind statements and a
-- path that is marked.
abbrev pub with_blocks : (is fits : Bool) → Format → Option Format
with_blocks false fits format = Some format
with_blocks true fits format.Dot = if fits then Some format.Blocks else None
with_blocks true fits format.Calls = None
with_blocks true fits format.Blocks = if fits then Some format.Blocks else None
with_blocks true fits format.Json = None
with_blocks true fits format.JsonPaths = None
with_blocks true fits format.JsonChanges = None
with_blocks true fits format.Steps = None
with_blocks true fits format.Report = None
with_blocks true fits format.Html = None
with_blocks true fits format.HtmlPaths = None
with_blocks true fits format.HtmlSteps = None

-- The format with rounds in place of sets, where they are asked for: lines of JSON have them, and the page around such lines, of one procedure and
-- without paths and differences.
abbrev pub with_steps : (is one : Bool) → Format → Option Format
with_steps false one format = Some format
with_steps true one format.Dot = None
with_steps true one format.Calls = None
with_steps true one format.Blocks = None
with_steps true one format.Json = if one then Some format.Steps else None
with_steps true one format.JsonPaths = None
with_steps true one format.JsonChanges = None
with_steps true one format.Steps = if one then Some format.Steps else None
with_steps true one format.Report = None
with_steps true one format.Html = if one then Some format.HtmlSteps else None
with_steps true one format.HtmlPaths = None
with_steps true one format.HtmlSteps = if one then Some format.HtmlSteps else None

-- The format, where it fits to what is asked for: a report has parts, and so have lines of JSON of all procedures without facts.
abbrev pub with_part : (is bare : Bool) → Format → Option Format
with_part false bare format = Some format
with_part true bare format.Dot = None
with_part true bare format.Calls = None
with_part true bare format.Blocks = None
with_part true bare format.Json = if bare then Some format.Json else None
with_part true bare format.JsonPaths = None
with_part true bare format.JsonChanges = None
with_part true bare format.Steps = None
with_part true bare format.Report = Some format.Report
with_part true bare format.Html = None
with_part true bare format.HtmlPaths = None
with_part true bare format.HtmlSteps = None

-- The format, where it fits to what is asked for: lines of JSON, where they are the whole, and a page have the lines of the source, but not with rounds.
abbrev pub with_source : (is part : Bool) → Format → Option Format
with_source false part format = Some format
with_source true part format.Dot = None
with_source true part format.Calls = None
with_source true part format.Blocks = None
with_source true part format.Json = if part then None else Some format.Json
with_source true part format.JsonPaths = Some format.JsonPaths
with_source true part format.JsonChanges = Some format.JsonChanges
with_source true part format.Steps = None
with_source true part format.Report = None
with_source true part format.Html = Some format.Html
with_source true part format.HtmlPaths = Some format.HtmlPaths
with_source true part format.HtmlSteps = None

-- The format, where it fits to what is asked for: a page alone has a title.
abbrev pub with_title : Bool → Format → Option Format
with_title false format = Some format
with_title true format.Dot = None
with_title true format.Calls = None
with_title true format.Blocks = None
with_title true format.Json = None
with_title true format.JsonPaths = None
with_title true format.JsonChanges = None
with_title true format.Steps = None
with_title true format.Report = None
with_title true format.Html = Some format.Html
with_title true format.HtmlPaths = Some format.HtmlPaths
with_title true format.HtmlSteps = Some format.HtmlSteps

abbrev pub no_facts : Chosen
no_facts = record { reach = false; live = false; avail = false; busy = false }

abbrev pub all_facts : Chosen
all_facts = record { reach = true; live = true; avail = true; busy = true }

-- Whether a word is what an analysis is called.
abbrev pub is_fact : List ℕ → Bool
is_fact word = list_any (λ analysis. bytes_eq (analysis_name analysis) word) all.ALL

-- The analyses whose words a list has.
abbrev pub chosen_in : List ℕ → Chosen
chosen_in list = record {
  reach = has_word (codes "reach") list;
  live = has_word (codes "live") list;
  avail = has_word (codes "avail") list;
  busy = has_word (codes "busy") list;
}

-- The facts that a list names: `none`, `all`, or those of the analyses whose words it has, where it has no other word.
abbrev pub facts_named : List ℕ → Option Chosen
facts_named list =
    if bytes_eq list (codes "none") then Some no_facts
    else (if bytes_eq list (codes "all") then Some all_facts
    else (if list_all is_fact (words_in list) then Some (chosen_in list) else None))

-- The facts that are shown where no list says which. A report shows none.
abbrev pub facts_by_format : Format → Chosen
facts_by_format format.Dot = no_facts
facts_by_format format.Calls = no_facts
facts_by_format format.Blocks = no_facts
facts_by_format format.Json = all_facts
facts_by_format format.JsonPaths = all_facts
facts_by_format format.JsonChanges = all_facts
facts_by_format format.Steps = all_facts
facts_by_format format.Report = no_facts
facts_by_format format.Html = all_facts
facts_by_format format.HtmlPaths = all_facts
facts_by_format format.HtmlSteps = all_facts

-- The facts that are asked for, by a list or by none.
abbrev pub facts_queried : Format → Option (List ℕ) → Option Chosen
facts_queried format None = Some (facts_by_format format)
facts_queried format (Some list) = facts_named list
