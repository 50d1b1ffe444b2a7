-- The site of a call is its point, or where edges are reversed the point before
use Rattle.std.proofs.Common.{◌≡◌, ℕ, suc, Bool, true, false, arith, refl, if◌then◌else◌}
use Rattle.tac_program.specs.Programs.{Program}
use Rattle.tac_program.specs.Sound.{IsSound}
use Rattle.flow_graph.specs.Analyses.{shape_of}
use Rattle.flow_graph.specs.declared.edge.Edge.{Edge}
use Rattle.flow_graph.specs.declared.edge.Edge.TheVariants.{Call, Ret}
use Rattle.flow_graph.specs.Paths.{IsEdge}
use Rattle.flow_graph.specs.Reversals.{reversed_shape}
use Rattle.flow_graph.proofs.edges.EdgeLemmas.{IsFrom, a_step, a_call, a_return, edges_are}
use Rattle.flow_graph.proofs.paths.Reversal.{edge_back}
use Rattle.flow_links.specs.Shapes.{call_site}

site_of_call : (program : Program) (point : ℕ) (edge : Edge) (site x y : ℕ) → edge ≡ Call site x y → IsFrom program point edge → site ≡ x
site_of_call program point _ site x y same (a_step target inside) = absurd (cc same)
site_of_call program point _ site x y same (a_call callee there calling) = cc same
site_of_call program point _ site x y same (a_return s below calling none ends) = absurd (cc same)

site_of_return : (program : Program) (point : ℕ) (edge : Edge) (site x y : ℕ) → edge ≡ Ret site x y → IsFrom program point edge → y ≡ suc site
site_of_return program point _ site x y same (a_step target inside) = absurd (cc same)
site_of_return program point _ site x y same (a_call callee there calling) = absurd (cc same)
site_of_return program point _ site x y same (a_return s below calling none ends) = cc same

pub sites_in : (program : Program) → IsSound program → (backward : Bool) (site x y : ℕ)
    → IsEdge (if backward then reversed_shape (shape_of program) else shape_of program) (Call site x y) → site ≡ call_site backward x
sites_in program sound false site x y edge =
    let (point, below, here, is) = edges_are program sound (Call site x y) edge in
    site_of_call program point (Call site x y) site x y refl is
sites_in program sound true site x y edge =
    let (point, below, here, is) = edges_are program sound (Ret site y x) (edge_back (shape_of program) (Call site x y) edge) in
    let back = site_of_return program point (Ret site y x) site y x refl is in
    omega (arith, back)
