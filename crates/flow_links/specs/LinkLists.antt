-- What stands in the lists of a point or a procedure.
use Rattle.std.specs.Prelude.{◌≡◌, ◌↔◌, ℕ, ◌<◌, Bool, List, All, Contains}
use Rattle.flow_graph.specs.declared.edge.Edge.TheVariants.{Step, Call}
use Rattle.flow_graph.specs.Paths.{Shape, IsEdge}
use Rattle.flow_links.specs.Shapes.{after_site}
use Rattle.flow_links.specs.declared.link.CallLink.{CallLink}
use Rattle.flow_links.specs.declared.link.SiteLink.{SiteLink}

-- the points to which steps lead from a point
pub record AreStepsFrom (shape : Shape) (points x : ℕ) (list : List ℕ) : Type 0 where
  pub in_range : All (λ y. y < points) list
  pub listed : (y : ℕ) → Contains list y ↔ IsEdge shape (Step x y)

-- what a call from a point leads to: its callee's exit, and the point after it
abbrev pub IsCallLink : Shape → Bool → ℕ → CallLink → Type 0
IsCallLink shape backward x link =
    (site : ℕ) × (y : ℕ) × IsEdge shape (Call site x y)
    × (link.exit ≡ shape.exit (shape.procedure_of y)) × (link.after ≡ after_site backward site)

-- the calls from a point
pub record AreCallsFrom (shape : Shape) (backward : Bool) (points x : ℕ) (list : List CallLink) : Type 0 where
  pub in_range : All (λ link. (link.exit < points) × (link.after < points)) list
  pub listed : (link : CallLink) → Contains list link ↔ IsCallLink shape backward x link

-- a point from which a procedure is called that is left at the exit
abbrev pub IsCallerOf : Shape → ℕ → ℕ → Type 0
IsCallerOf shape exit x = (site : ℕ) × (y : ℕ) × IsEdge shape (Call site x y) × (shape.exit (shape.procedure_of y) ≡ exit)

-- the points of the calls whose callee is left at a point
pub record AreCallersOf (shape : Shape) (points exit : ℕ) (list : List ℕ) : Type 0 where
  pub in_range : All (λ x. x < points) list
  pub listed : (x : ℕ) → Contains list x ↔ IsCallerOf shape exit x

-- a call in a procedure: its point, and the procedure that it calls
abbrev pub IsSiteLink : Shape → ℕ → SiteLink → Type 0
IsSiteLink shape procedure link =
    (site : ℕ) × (y : ℕ) × IsEdge shape (Call site link.point y)
    × (shape.procedure_of link.point ≡ procedure) × (link.callee ≡ shape.procedure_of y)

-- the calls in a procedure
pub record AreSitesIn (shape : Shape) (points procedure : ℕ) (list : List SiteLink) : Type 0 where
  pub in_range : All (λ link. (link.point < points) × (link.callee < shape.procedures)) list
  pub listed : (link : SiteLink) → Contains list link ↔ IsSiteLink shape procedure link
