-- Ways lead to reached points, and branches are of procedures that are entered
use Rattle.std.proofs.Common.{◌≡◌, ◌<◌, ℕ, List, Some, slice_index_or, length, suc, zero, sym, ap, subst, ◌∙◌, arith}
use Rattle.std.proofs.lemmas.Option.{slice_get-get_or}
use Rattle.flow_graph.specs.Paths.{IsEdge, Shape}
use Rattle.flow_graph.specs.declared.edge.Edge.TheVariants.{Call}
use Rattle.flow_links.specs.LinkLists.{IsCallLink, IsSiteLink}
use Rattle.flow_links.specs.Shapes.{IsNumbered, LinkedProgram, directed_shape}
use Rattle.flow_links.specs.declared.link.CallLink.{CallLink}
use Rattle.flow_links.specs.declared.link.SiteLink.{SiteLink}
use Rattle.summary_equations.specs.Equations.{CallsAt, Entered, Reached, ReturnsTo}
use Rattle.summary_equations.specs.Equations.{entered_by_call, entry_is_reached, reached_by_call, reached_by_step, root_is_entered}
use Rattle.flow_regions.specs.code.Ways.{AreWays, IsHang, IsHop, IsTree, point_in, procedure_in}
use Rattle.flow_regions.specs.code.Ways.{begins, by_call, by_site, by_step, is_root}
use Rattle.flow_regions.specs.declared.way.Branch.{Branch}
use Rattle.flow_regions.specs.declared.way.Hang.{Hang}
use Rattle.flow_regions.specs.declared.way.Hop.{Hop}
use Rattle.flow_regions.specs.declared.way.Way.{Way}

module _ (linked : LinkedProgram) (points : ℕ) (numbered : IsNumbered (directed_shape linked) linked.backward points) where
  abbrev shape : Shape
  shape = directed_shape linked

  -- what a link says
  pub record IsCalled (x : ℕ) (link : CallLink) : Type 0 where
    pub site : ℕ
    pub callee : ℕ
    pub call : CallsAt shape site x callee
    pub return : ReturnsTo shape site callee link.after
    pub exit_is : link.exit ≡ shape.exit callee

  pub called : (x : ℕ) (link : CallLink) → IsCallLink shape linked.backward x link → IsCalled x link
  called x link (site, y, edge, exit_is, after_is) =
      let to = numbered.formed.call_to_entry site x y edge in
      record {
        site = site;
        callee = shape.procedure_of y;
        call = (to.0, subst (λ e. IsEdge shape (Call site x e)) to.1 edge);
        return = (numbered.one_return site x y link.after edge).1 after_is;
        exit_is = exit_is;
      }

  -- a way, by its number
  pub hop_at : (ways : List Way) → AreWays linked ways → (i : ℕ) (way : Way) → i < length ways → way ≡ slice_index_or ways i way
      → IsHop linked ways i way.point way.hop
  hop_at ways are i way low read = are i way (slice_get-get_or ways i way low ∙ ap (λ (w : Way). Some w) (sym read))

  hop_of : (ways : List Way) → AreWays linked ways → (i : ℕ) → i < length ways → (hop : Hop) × IsHop linked ways i (point_in ways i) hop
  hop_of ways are i low = (_, are i _ (slice_get-get_or ways i _ low))

  -- by numbers below a limit
  reached_below : (ways : List Way) → AreWays linked ways → (limit i : ℕ) → i < limit → i < length ways → Reached shape (point_in ways i)
  reached_below ways are zero i less low = absurd (omega (arith, less))
  reached_below ways are (suc limit) i less low =
      by_hop (point_in ways i) (λ j before. reached_below ways are limit j (omega (arith, before, less)) (omega (arith, before, low)))
      (hop_of ways are i low).1
    where
      by_hop : (x : ℕ) {hop : Hop} → ((j : ℕ) → j < i → Reached shape (point_in ways j)) → IsHop linked ways i x hop → Reached shape x
      by_hop x reached (begins p there entry) = subst (Reached shape) entry (entry_is_reached p there)
      by_hop x reached (by_step j before edge) = reached_by_step (point_in ways j) x edge (reached j before)
      by_hop x reached (by_call j e before exit call) =
          let is = called (point_in ways j) (record { exit = point_in ways e; after = x }) call in
          reached_by_call is.site (point_in ways j) is.callee x is.call is.return (reached j before)
          (subst (Reached shape) is.exit_is (reached e exit))

  pub way_is_reached : (ways : List Way) → AreWays linked ways → (i : ℕ) → i < length ways → Reached shape (point_in ways i)
  way_is_reached ways are i low = reached_below ways are (suc i) i (omega arith) low

  -- what a call in a procedure says
  pub record IsSite (procedure : ℕ) (link : SiteLink) : Type 0 where
    pub site : ℕ
    pub call : CallsAt shape site link.point link.callee
    pub in_it : shape.procedure_of link.point ≡ procedure

  pub site_of : (procedure : ℕ) (link : SiteLink) → IsSiteLink shape procedure link → IsSite procedure link
  site_of procedure link (site, y, edge, in_it, callee_is) =
      let to = numbered.formed.call_to_entry site link.point y edge in
      let call : CallsAt shape site link.point (shape.procedure_of y) = (to.0, subst (λ e. IsEdge shape (Call site link.point e)) to.1 edge) in
      record {
        site = site;
        call = subst (λ p. CallsAt shape site link.point p) (sym callee_is) call;
        in_it = in_it;
      }

  pub hang_at : (ways : List Way) (tree : List Branch) → IsTree linked ways tree → (i : ℕ) → i < length tree
      → (hang : Hang) × IsHang linked ways tree i (procedure_in tree i) hang
  hang_at ways tree are i low = (_, are i _ (slice_get-get_or tree i _ low))

  entered_below : (ways : List Way) → AreWays linked ways → (tree : List Branch) → IsTree linked ways tree → (limit i : ℕ) → i < limit
      → i < length tree → Entered shape (procedure_in tree i)
  entered_below ways are tree is_tree zero i less low = absurd (omega (arith, less))
  entered_below ways are tree is_tree (suc limit) i less low =
      by_hang (procedure_in tree i)
      (λ j before. entered_below ways are tree is_tree limit j (omega (arith, before, less)) (omega (arith, before, low)))
      (way_is_reached ways are) (hang_at ways tree is_tree i low).1
    where
      by_hang : (p : ℕ) {hang : Hang} → ((j : ℕ) → j < i → Entered shape (procedure_in tree j))
          → ((w : ℕ) → w < length ways → Reached shape (point_in ways w)) → IsHang linked ways tree i p hang → Entered shape p
      by_hang p entered reached (is_root same) = subst (Entered shape) (sym same) root_is_entered
      by_hang p entered reached (by_site j w before way site) =
          let is = site_of (procedure_in tree j) (record { point = point_in ways w; callee = p }) site in
          entered_by_call is.site (point_in ways w) p is.call (subst (Entered shape) (sym is.in_it) (entered j before)) (reached w way)

  pub branch_is_entered : (ways : List Way) → AreWays linked ways → (tree : List Branch) → IsTree linked ways tree → (i : ℕ) → i < length tree
      → Entered shape (procedure_in tree i)
  branch_is_entered ways are tree is_tree i low = entered_below ways are tree is_tree (suc i) i (omega arith) low
