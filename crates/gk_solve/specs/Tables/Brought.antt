-- What is brought to procedures, for a group of words.
use Rattle.std.specs.Prelude.{◌≡◌, ◌↔◌, ◌<◌, ℕ, Bool, true, List, [], slice_index, slice_index_or, sum_by}
use Rattle.bit_rows.specs.Words.{has_bit}
use Rattle.flow_graph.specs.declared.edge.Edge.{Edge}
use Rattle.flow_graph.specs.declared.edge.Edge.TheVariants.{Call}
use Rattle.flow_graph.specs.Paths.{IsEdge}
use Rattle.gk_solve.specs.Tables.Flags.{source_procedure}
use Rattle.gk_solve.specs.Tables.Groups.{Group, preserved_word, generated_word, room_of_words}
use Rattle.gk_solve.specs.Tables.Visits.{IsSettled, Spreads}
use Rattle.gk_solve.specs.Tables.Words.{HasBit, WordsGrow, AreSoundWords, IsBringClosedAt, IsBrought}
use Rattle.flow_links.specs.declared.link.SiteLink.{SiteLink}
use Rattle.gk_solve.specs.declared.summary.Summary.{Summary}

-- a word of the group, of what is brought to each procedure
abbrev pub brought_word : List (List ℕ) → ℕ → ℕ → ℕ
brought_word table w procedure = slice_index (slice_index_or table procedure []) w

-- what is left to add to a table
abbrev pub room_of_rows : List (List ℕ) → ℕ
room_of_rows table = sum_by room_of_words table

-- no bit of so many words is taken back
abbrev pub BroughtGrows : ℕ → List (List ℕ) → List (List ℕ) → Type 0
BroughtGrows width old new = (w : ℕ) → w < width → WordsGrow (brought_word old w) (brought_word new w)

-- each bit is brought
abbrev pub AreSoundBrought : Group → List (List ℕ) → Type 0
AreSoundBrought group table = (w : ℕ) → w < group.width → AreSoundWords (IsBrought group.shape (group.transfer w)) (brought_word table w)

-- a bit is there exactly where it is brought
abbrev pub AreExactBrought : Group → List (List ℕ) → Type 0
AreExactBrought group table = (w p k : ℕ) → w < group.width → k < 64
    → HasBit (brought_word table w) p k ↔ IsBrought group.shape (group.transfer w) k p

-- what is brought is closed under an edge, in each word
abbrev pub IsBroughtClosedAt : {W : ℕ} → Group → List Bool → List (Summary W) → List (List ℕ) → Edge → Type 0
IsBroughtClosedAt group paths summaries table edge = (w : ℕ) → w < group.width
    → IsBringClosedAt group.shape paths (preserved_word summaries w) (generated_word summaries w) (brought_word table w) edge

-- a part of a visit of a procedure adds to what is brought
abbrev pub BroughtSpreads : {W : ℕ} → Group → List Bool → List (Summary W) → List (List ℕ) → List Bool → List (List ℕ) → List Bool → Type 0
BroughtSpreads group paths summaries =
    Spreads room_of_rows (BroughtGrows group.width) (IsSettled (IsBroughtClosedAt group paths summaries) (source_procedure group.shape))
    (AreSoundBrought group) group.shape

-- the bits of a group's words are brought to a procedure
abbrev pub AreBroughtOf : Group → List ℕ → ℕ → Type 0
AreBroughtOf group words procedure = (w k : ℕ) → w < group.width → k < 64 → has_bit (slice_index words w) k ≡ true
    → IsBrought group.shape (group.transfer w) k procedure

-- each call of which a site tells is settled
pub record IsBringSettled {W : ℕ} (group : Group) (paths : List Bool) (summaries : List (Summary W)) (table : List (List ℕ)) (dirty : List Bool)
    (link : SiteLink) : Type 0 where
  pub settled : (site x y : ℕ) → IsEdge group.shape (Call site x y) → link.point ≡ x → link.callee ≡ group.shape.procedure_of y
      → IsSettled (IsBroughtClosedAt group paths summaries) (source_procedure group.shape) table dirty (Call site x y)
