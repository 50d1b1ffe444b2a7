-- Lists of what edges lead to, side by side in one block, by the numbers at which they stand.
use Rattle.std.specs.Prelude.{◌≡◌, ℕ, ◌+◌, ◌<◌, ◌≤◌, Bool, true, false, List, length, slice_index, slice_index_or, Contains}
use Rattle.flow_graph.specs.declared.edge.Edge.{Edge}
use Rattle.flow_graph.specs.declared.edge.Edge.TheVariants.{Step, Call, Ret}
use Rattle.flow_graph.specs.Paths.{Shape, IsEdge}
use Rattle.worklist.specs.Groups.{IsPlaceOf}
use Rattle.flow_links.specs.Shapes.{after_site}
use Rattle.flow_links.specs.declared.link.CallLink.{CallLink}
use Rattle.flow_links.specs.declared.link.SiteLink.{SiteLink}
use Rattle.flow_links.specs.declared.list_kind.ListKind.{ListKind}
use Rattle.flow_links.specs.declared.list_kind.ListKind.TheVariants.{Steps, Calls, Callers, Sites}

-- each edge of a list is one of the shape's
abbrev pub AreEdges : Shape → List Edge → Type 0
AreEdges shape edges = (edge : Edge) → Contains edges edge → IsEdge shape edge

-- whether an edge is a call
abbrev pub is_call : Edge → Bool
is_call (Step x y) = false
is_call (Call site x y) = true
is_call (Ret site x y) = false

-- the number at which an edge stands in a list; the one behind the last where it stands in none
abbrev pub key_of : ListKind → Shape → ℕ → Edge → ℕ
key_of Steps shape points (Step x y) = x
key_of Steps shape points (Call site x y) = points
key_of Steps shape points (Ret site x y) = points
key_of Calls shape points (Step x y) = points
key_of Calls shape points (Call site x y) = x
key_of Calls shape points (Ret site x y) = points
key_of Callers shape points (Step x y) = points
key_of Callers shape points (Call site x y) = shape.exit (shape.procedure_of y)
key_of Callers shape points (Ret site x y) = points
key_of Sites shape points (Step x y) = shape.procedures
key_of Sites shape points (Call site x y) = shape.procedure_of x
key_of Sites shape points (Ret site x y) = shape.procedures

-- how many numbers a list goes by
abbrev pub keys_of : ListKind → Shape → ℕ → ℕ
keys_of Steps shape points = points
keys_of Calls shape points = points
keys_of Callers shape points = points
keys_of Sites shape points = shape.procedures

-- what stands for an edge in the list of steps, of calls, of callers and of sites
abbrev pub step_target : Edge → ℕ
step_target (Step x y) = y
step_target (Call site x y) = 0
step_target (Ret site x y) = 0

abbrev pub call_source : Edge → ℕ
call_source (Step x y) = 0
call_source (Call site x y) = x
call_source (Ret site x y) = 0

abbrev pub call_link : Shape → Bool → Edge → CallLink
call_link shape backward (Step x y) = record { exit = 0; after = 0 }
call_link shape backward (Call site x y) = record { exit = shape.exit (shape.procedure_of y); after = after_site backward site }
call_link shape backward (Ret site x y) = record { exit = 0; after = 0 }

abbrev pub site_link : Shape → Edge → SiteLink
site_link shape (Step x y) = record { point = 0; callee = 0 }
site_link shape (Call site x y) = record { point = x; callee = shape.procedure_of y }
site_link shape (Ret site x y) = record { point = 0; callee = 0 }

-- the edge at a place
abbrev pub edge_at : List Edge → ℕ → Edge
edge_at edges place = slice_index_or edges place (Step 0 0)

-- At the places of each number stands what its edges lead to, and nothing else.
pub record AreListed {Value : Type 0} (edges : List Edge) (key : Edge → ℕ) (value : Edge → Value) (count : ℕ) (starts : List ℕ)
    (items : List Value) : Type 0 where
  pub start_count : count < length starts
  pub rising : (k : ℕ) → k < count → slice_index starts k ≤ slice_index starts (k + 1)
  pub within : (k : ℕ) → k < count → slice_index starts (k + 1) ≤ length items
  pub listed : (edge : Edge) → Contains edges edge → key edge < count
      → (j : ℕ) × IsPlaceOf starts (key edge) j × ((d : Value) → slice_index_or items j d ≡ value edge)
  pub only : (k j : ℕ) → k < count → IsPlaceOf starts k j
      → (edge : Edge) × Contains edges edge × (key edge ≡ k) × ((d : Value) → slice_index_or items j d ≡ value edge)
