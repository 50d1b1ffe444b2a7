-- Lists of ways and branches that get one more
use Rattle.std.proofs.Common.{◌≡◌, ◌⊎◌, ◌<◌, ◌≤◌, ℕ, List, [], ◌∷◌, ◌++◌, Some, slice_get, length, suc, zero, inl, inr, refl, sym, ap, subst, ◌∙◌, arith}
use Rattle.std.proofs.Math.ListN.{get_or-append}
use Rattle.std.proofs.lemmas.Option.{slice_get_within}
use Rattle.flow_graph.specs.Paths.{IsEdge}
use Rattle.flow_graph.specs.declared.edge.Edge.TheVariants.{Step as step}
use Rattle.flow_links.specs.LinkLists.{IsCallLink, IsSiteLink}
use Rattle.flow_links.specs.Shapes.{LinkedProgram, directed_shape}
use Rattle.flow_regions.specs.code.Ways.{AreWays, IsHang, IsHop, IsTree, point_in, procedure_in}
use Rattle.flow_regions.specs.code.Ways.{begins, by_call, by_site, by_step, is_root}
use Rattle.flow_regions.specs.declared.way.Branch.{Branch}
use Rattle.flow_regions.specs.declared.way.Hang.{Hang}
use Rattle.flow_regions.specs.declared.way.Hop.{Hop}
use Rattle.flow_regions.specs.declared.way.Way.{Way}

-- an element of a longer list is one of the shorter, or the last
of_longer : {X : Type 0} (old : List X) (last : X) (i : ℕ) (one : X) → slice_get (old ++ last ∷ []) i ≡ Some one
    → (slice_get old i ≡ Some one) ⊎ ((i ≡ length old) × (last ≡ one))
of_longer [] last zero one there = inr (refl, cc there)
of_longer [] last (suc i) one there = absurd (cc there)
of_longer (first ∷ old) last zero one there = inl there
of_longer (first ∷ old) last (suc i) one there = elim (of_longer old last i one there) [
  | inl was ↦ inl was
  | inr is ↦ inr (ap suc is.0, is.1)
]

point_more : (ways : List Way) (last : Way) (j : ℕ) → j < length ways → point_in (ways ++ last ∷ []) j ≡ point_in ways j
point_more ways last j low = ap (λ (w : Way). w.point) (get_or-append ways (last ∷ []) _ j low)

procedure_more : (tree : List Branch) (last : Branch) (j : ℕ) → j < length tree → procedure_in (tree ++ last ∷ []) j ≡ procedure_in tree j
procedure_more tree last j low = ap (λ (b : Branch). b.procedure) (get_or-append tree (last ∷ []) _ j low)

module _ (linked : LinkedProgram) where
  hop_more : (ways : List Way) (last : Way) (i x : ℕ) (hop : Hop) → i ≤ length ways → IsHop linked ways i x hop
      → IsHop linked (ways ++ last ∷ []) i x hop
  hop_more ways last i x _ low (begins p there entry) = begins p there entry
  hop_more ways last i x _ low (by_step j before edge) =
      by_step j before (subst (λ y. IsEdge (directed_shape linked) (step y x)) (sym (point_more ways last j (omega (arith, before, low)))) edge)
  hop_more ways last i x _ low (by_call j e before exit call) =
      let from = point_more ways last j (omega (arith, before, low)) in
      let to = point_more ways last e (omega (arith, exit, low)) in
      by_call j e before exit
      (subst (λ y. IsCallLink (directed_shape linked) linked.backward y (record { exit = point_in (ways ++ last ∷ []) e; after = x })) (sym from)
      (subst (λ y. IsCallLink (directed_shape linked) linked.backward (point_in ways j) (record { exit = y; after = x })) (sym to) call))

  pub ways_more : (ways : List Way) (last : Way) → AreWays linked ways → IsHop linked ways (length ways) last.point last.hop
      → AreWays linked (ways ++ last ∷ [])
  ways_more ways last are hop i way there = elim (of_longer ways last i way there) [
    | inl was ↦
        let low = slice_get_within ways i way was in hop_more ways last i way.point way.hop (omega (arith, low)) (are i way was)
    | inr is ↦
        subst (λ n. IsHop linked (ways ++ last ∷ []) n way.point way.hop) (sym is.0)
        (subst (λ (w : Way). IsHop linked (ways ++ last ∷ []) (length ways) w.point w.hop) is.1
        (hop_more ways last (length ways) last.point last.hop (omega arith) hop))
  ]

  hang_more : (ways : List Way) (tree : List Branch) (last : Branch) (i p : ℕ) (hang : Hang) → i ≤ length tree → IsHang linked ways tree i p hang
      → IsHang linked ways (tree ++ last ∷ []) i p hang
  hang_more ways tree last i p _ low (is_root same) = is_root same
  hang_more ways tree last i p _ low (by_site j w before way site) =
      by_site j w before way
      (subst (λ q. IsSiteLink (directed_shape linked) q (record { point = point_in ways w; callee = p }))
      (sym (procedure_more tree last j (omega (arith, before, low)))) site)

  pub tree_more : (ways : List Way) (tree : List Branch) (last : Branch) → IsTree linked ways tree
      → IsHang linked ways tree (length tree) last.procedure last.hang → IsTree linked ways (tree ++ last ∷ [])
  tree_more ways tree last are hang i branch there = elim (of_longer tree last i branch there) [
    | inl was ↦
        let low = slice_get_within tree i branch was in
        hang_more ways tree last i branch.procedure branch.hang (omega (arith, low)) (are i branch was)
    | inr is ↦
        subst (λ n. IsHang linked ways (tree ++ last ∷ []) n branch.procedure branch.hang) (sym is.0)
        (subst (λ (b : Branch). IsHang linked ways (tree ++ last ∷ []) (length tree) b.procedure b.hang) is.1
        (hang_more ways tree last (length tree) last.procedure last.hang (omega arith) hang))
  ]

-- empty lists
pub no_ways : (linked : LinkedProgram) → AreWays linked []
no_ways linked i way there = absurd (cc there)

pub no_tree : (linked : LinkedProgram) (ways : List Way) → IsTree linked ways []
no_tree linked ways i branch there = absurd (cc there)
