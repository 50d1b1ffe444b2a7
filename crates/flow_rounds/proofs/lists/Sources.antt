-- The points from which steps lead to a point, edge by edge
use Rattle.std.proofs.Common.{◌≡◌, ℕ, ◌+◌, ◌<◌, Bool, true, false, List, [], ◌∷◌, ◌++◌, map, filter, length, ◌≤◌, arith, eq-or-lt_of_le, inl}
use Rattle.std.proofs.Common.{inr, take, subst, Some, None, if◌then◌else◌, refl, sym, ap}
use Rattle.std.proofs.Common.{◌∙◌, get_or, option_to_list, append_assoc}
use Rattle.flow_graph.specs.Paths.{source_of}
use Rattle.flow_graph.specs.declared.edge.Edge.{Edge}
use Rattle.flow_rounds.specs.Rounds.{is_step_to}
use Rattle.flow_rounds.specs.code.Frames.{AreSources, sources_to}
use Rattle.std.proofs.Math.ListN.{get_or-append, length-append}
use Rattle.std.proofs.Math.Seq.{get_or-append_seam}
use Rattle.std.proofs.lemmas.List.{take_more}

-- those of an edge and of others
first_source : (edge : Edge) (edges : List Edge) (has_path : ℕ → Bool) (point : ℕ)
    → option_to_list (if is_step_to has_path point edge then Some (source_of edge) else None) ++ sources_to edges has_path point
    ≡ sources_to (edge ∷ edges) has_path point
first_source edge edges has_path point = by_test (is_step_to has_path point edge)
  where
    by_test : (b : Bool) → option_to_list (if b then Some (source_of edge) else None) ++ sources_to edges has_path point
        ≡ map source_of (if b then edge ∷ filter (is_step_to has_path point) edges else filter (is_step_to has_path point) edges)
    by_test true = refl
    by_test false = refl

pub more_sources : (edge : Edge) (edges : List Edge) (has_path : ℕ → Bool) (point : ℕ) (old new all : List ℕ)
    → new ≡ old ++ option_to_list (if is_step_to has_path point edge then Some (source_of edge) else None)
    → old ++ sources_to (edge ∷ edges) has_path point ≡ all → new ++ sources_to edges has_path point ≡ all
more_sources edge edges has_path point old new all put before =
    ap (λ xs. xs ++ sources_to edges has_path point) put
    ∙ append_assoc old (option_to_list (if is_step_to has_path point edge then Some (source_of edge) else None)) (sources_to edges has_path point)
    ∙ ap (λ xs. old ++ xs) (first_source edge edges has_path point) ∙ before

-- the lists of some points, and of one more
more_lists : (edges : List Edge) (has_path : ℕ → Bool) (points : List ℕ) (lists : List (List ℕ)) (point : ℕ) (list : List ℕ)
    → AreSources edges has_path points lists → list ≡ sources_to edges has_path point
    → AreSources edges has_path (points ++ point ∷ []) (lists ++ list ∷ [])
more_lists edges has_path points lists point list are is =
    let count = are.count in
    let more : length (points ++ point ∷ []) ≡ length points + 1 = length-append points (point ∷ []) in
    let more_list : length (lists ++ list ∷ []) ≡ length lists + 1 = length-append lists (list ∷ []) in
    record {
      count = omega (arith, count, more, more_list);
      each = λ place below. by_place place (let few : place ≤ length points = omega (arith, below, more) in few);
    }
  where
    by_place : (place : ℕ) → place ≤ length points
        → get_or (lists ++ list ∷ []) place [] ≡ sources_to edges has_path (get_or (points ++ point ∷ []) place 0)
    by_place place few =
        let count = are.count in
        elim (eq-or-lt_of_le few) [
          | inl same ↦ (let at : place ≡ length lists = omega (arith, same, count) in
              ap (λ k. get_or (lists ++ list ∷ []) k []) at ∙ get_or-append_seam lists list [] [] ∙ is
              ∙ sym (ap (sources_to edges has_path) (ap (λ k. get_or (points ++ point ∷ []) k 0) same ∙ get_or-append_seam points point [] 0)))
          | inr below ↦ (let short : place < length lists = omega (arith, below, count) in
              get_or-append lists (list ∷ []) [] place short ∙ are.each place below
              ∙ sym (ap (sources_to edges has_path) (get_or-append points (point ∷ []) 0 place below)))
        ]

pub next_list : (edges : List Edge) (has_path : ℕ → Bool) (order : List ℕ) (place : ℕ) (lists : List (List ℕ)) (list : List ℕ) → place < length order
    → AreSources edges has_path (take place order) lists → list ≡ sources_to edges has_path (get_or order place 0)
    → AreSources edges has_path (take (place + 1) order) (lists ++ list ∷ [])
next_list edges has_path order place lists list below are is =
    subst (λ points. AreSources edges has_path points (lists ++ list ∷ [])) (sym (take_more order place 0 below))
    (more_lists edges has_path (take place order) lists (get_or order place 0) list are is)
