-- Listings, reports and their parts, of texts' programs, in room of a caller's.
use Rattle.std.specs.Prelude.{◌≡◌, ◌≤◌, ℕ, None, List}
use Rattle.flow_parts.specs.Parts.{IsPart, digest_of}
use Rattle.flow_reports.specs.Reports.{ListsSafely}
use Rattle.tac_reader.specs.Faults.{refusal_within}
use Rattle.tac_listing.specs.Listings.{listing_of}
use Rattle.tac_program.specs.declared.limits.Limits.{Limits}
use Rattle.tac_reader.specs.Parses.{program_of}
use Rattle.flow_records.specs.Rooms.{NeedsRoom}
use Rattle.flow_records.specs.Faults.{HasGraph, IsFaultOf, IsUnread}
use Rattle.flow_records.specs.declared.fault.Fault.{Fault}
use Rattle.flow_records.specs.declared.fault.Fault.TheVariants as fault

-- the listing, and the report, of a text's program within limits
abbrev pub IsListingOf : Limits → List ℕ → List ℕ → Type 0
IsListingOf limits text out = (refusal_within limits text ≡ None) × (out ≡ listing_of (program_of text))

abbrev pub IsReportOf : Limits → List ℕ → List ℕ → Type 0
IsReportOf limits text out = HasGraph limits text × ListsSafely (program_of text) out

-- why there is none within limits in such room; its length is told where it is room that lacks
abbrev pub IsListingFault : Limits → List ℕ → ℕ → ℕ → Fault → Type 0
IsListingFault limits text room size fault.BadRoom = NeedsRoom (IsListingOf limits text) room size
IsListingFault limits text room size fault = IsUnread limits text fault

abbrev pub IsReportFault : Limits → List ℕ → ℕ → ℕ → Fault → Type 0
IsReportFault limits text room size fault.BadRoom = NeedsRoom (IsReportOf limits text) room size
IsReportFault limits text room size fault = IsFaultOf limits text fault

-- There is such a part: a report is cut into 1 to 4,096.
abbrev pub IsShare : (count part : ℕ) → Type 0
IsShare count part = (1 ≤ part) × (part ≤ count) × (count ≤ 4096)

-- A part names a text so.
pub record NamesText (text name : List ℕ) : Type 0 where
  pub is_digest : name ≡ digest_of text

-- that part of the report on a text's program within limits; it names the text
pub record IsPartOf (limits : Limits) (text : List ℕ) (count part : ℕ) (out : List ℕ) : Type 0 where
  pub graph : HasGraph limits text
  pub share : IsShare count part
  pub name : List ℕ
  pub names : NamesText text name
  pub is_part : IsPart (program_of text) name count part out

-- why there is none within limits in such room; its length is told where it is room that lacks
abbrev pub IsPartFault : Limits → List ℕ → (count part : ℕ) → ℕ → ℕ → Fault → Type 0
IsPartFault limits text count part room size fault.BadRange = ¬ (IsShare count part)
IsPartFault limits text count part room size fault.BadRoom = NeedsRoom (IsPartOf limits text count part) room size
IsPartFault limits text count part room size fault = IsFaultOf limits text fault
