-- What is shown of a program, and for which kinds its graph is needed. What a run makes of it is told in `flow_runs`.
use Rattle.std.specs.Prelude.{◌≡◌, ℕ, List, Bool, true, false}
use Rattle.flow_graph.specs.declared.analysis.Analysis.TheVariants.{Reach, Live, Avail, Busy}
use Rattle.tac_listing.specs.Listings.{listing_of}
use Rattle.tac_program.specs.Programs.{Program}
use Rattle.flow_reports.specs.Reports.{IsReport, ListsSafely}
use Rattle.flow_texts.specs.Tables.{IsTableText}
use Rattle.flow_commands.specs.declared.options.Show.{Show}
use Rattle.flow_commands.specs.declared.options.Show.TheVariants as show

-- What is written of a program: its listing, the table of an analysis, or the report, whose dead assignments are safe to delete.
abbrev pub IsShown : Show → Program → List ℕ → Type 0
IsShown show.List program out = out ≡ listing_of program
IsShown show.Report program out = IsReport program out × ListsSafely program out
IsShown show.Reach program out = IsTableText program Reach out
IsShown show.Live program out = IsTableText program Live out
IsShown show.Avail program out = IsTableText program Avail out
IsShown show.Busy program out = IsTableText program Busy out

-- all but a listing needs the program's graph
abbrev pub needs_graph : Show → Bool
needs_graph show.List = false
needs_graph show.Report = true
needs_graph show.Reach = true
needs_graph show.Live = true
needs_graph show.Avail = true
needs_graph show.Busy = true
