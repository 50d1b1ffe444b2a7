-- A bit at a point, from the points from which steps lead there
use Rattle.std.proofs.Common.{◌≡◌, ℕ, ◌-◌, ◌<◌, ◌≤◌, Bool, true, false, not, List, [], ◌∷◌, ◌&&◌, ◌||◌, map, filter, refl, sym, ap, ◌∙◌}
use Rattle.std.proofs.Common.{nat_eq, eqb-true, eq-eqb, get_or, if◌then◌else◌, length, set, get_or-set_same, get_or-set_other, arith, length-set}
use Rattle.std.specs.List.{list_all, list_any}
use Rattle.std.proofs.lemmas.Bool.{and_parts}
use Rattle.flow_graph.specs.Analyses.{is_must}
use Rattle.flow_graph.specs.Paths.{source_of, value_across}
use Rattle.flow_graph.specs.Problems.{directed_transfer, may_shape}
use Rattle.flow_graph.specs.declared.edge.Edge.{Edge}
use Rattle.flow_graph.specs.declared.edge.Edge.TheVariants.{Step, Call, Ret}
use Rattle.flow_rounds.specs.Rounds.{bit_behind, is_step_to, joined, with_point}
use Rattle.flow_rounds.specs.Steps.{problem_at}
use Rattle.flow_rounds.specs.code.Frames.{Framed, IsWithin, TellsColumn, brings_bit, has_path_within, iteration_of, sources_to}
use Rattle.flow_rounds.proofs.lists.Frames.{path_within}

module _ (has_path : ℕ → Bool) (point : ℕ) (behind : Edge → Bool) (brings : ℕ → Bool)
    (same : (edge : Edge) → is_step_to has_path point edge ≡ true → behind edge ≡ brings (source_of edge)) where
  any_source : (edges : List Edge) → list_any (λ edge. is_step_to has_path point edge && behind edge) edges ≡ list_any brings
      (sources_to edges has_path point)
  any_source [] = refl
  any_source (edge ∷ edges) = by_test (any_source edges) (is_step_to has_path point edge) refl
    where
      by_test : list_any (λ e. is_step_to has_path point e && behind e) edges ≡ list_any brings (sources_to edges has_path point)
          → (b : Bool) → is_step_to has_path point edge ≡ b
          → ((b && behind edge) || list_any (λ e. is_step_to has_path point e && behind e) edges)
          ≡ list_any brings (map source_of (if b then edge ∷ filter (is_step_to has_path point) edges else filter (is_step_to has_path point) edges))
      by_test rest true is = λ i. same edge is i || rest i
      by_test rest false is = rest

  all_sources : (edges : List Edge)
      → list_all (λ edge. not (is_step_to has_path point edge) || behind edge) edges ≡ list_all brings (sources_to edges has_path point)
  all_sources [] = refl
  all_sources (edge ∷ edges) = by_test (all_sources edges) (is_step_to has_path point edge) refl
    where
      by_test : list_all (λ e. not (is_step_to has_path point e) || behind e) edges ≡ list_all brings (sources_to edges has_path point)
          → (b : Bool) → is_step_to has_path point edge ≡ b
          → ((not b || behind edge) && list_all (λ e. not (is_step_to has_path point e) || behind e) edges)
          ≡ list_all brings (map source_of (if b then edge ∷ filter (is_step_to has_path point) edges else filter (is_step_to has_path point) edges))
      by_test rest true is = λ i. same edge is i && rest i
      by_test rest false is = rest

module _ (framed : Framed) (column : List Bool) (bit point : ℕ) (test : ℕ → Bool) (tells : TellsColumn framed.points test column) where
  same_bit : (edge : Edge) → is_step_to (has_path_within framed.points framed.table) point edge ≡ true
      → bit_behind (directed_transfer framed.program framed.analysis bit) test edge ≡ brings_bit framed column bit point (source_of edge)
  same_bit (Step source target) is =
      let (here, has) = and_parts (nat_eq target point) (has_path_within framed.points framed.table source) is in
      let within = path_within framed.points framed.table source has in
      ap (λ t. value_across (directed_transfer framed.program framed.analysis bit) (Step source t) (test source)) (eqb-true target point here)
      ∙ ap (value_across (directed_transfer framed.program framed.analysis bit) (Step source point)) (sym (tells.each source within.0 within.1))
  same_bit (Call site source target) is = absurd (cc is)
  same_bit (Ret site source target) is = absurd (cc is)

  abbrev edges : List Edge
  edges = (may_shape framed.program framed.analysis).edges

  pub joined_must : is_must framed.analysis ≡ true
      → list_all (brings_bit framed column bit point) (sources_to edges (has_path_within framed.points framed.table) point)
      ≡ joined (problem_at (iteration_of framed) bit) test point
  joined_must must =
      sym (ap (λ (b : Bool). if b
      then list_all (λ edge. not (is_step_to (has_path_within framed.points framed.table) point edge)
      || bit_behind (directed_transfer framed.program framed.analysis bit) test edge) edges
      else list_any (λ edge. is_step_to (has_path_within framed.points framed.table) point edge
      && bit_behind (directed_transfer framed.program framed.analysis bit) test edge) edges) must
      ∙ all_sources (has_path_within framed.points framed.table) point (bit_behind (directed_transfer framed.program framed.analysis bit) test)
      (brings_bit framed column bit point) same_bit edges)

  pub joined_may : is_must framed.analysis ≡ false
      → list_any (brings_bit framed column bit point) (sources_to edges (has_path_within framed.points framed.table) point)
      ≡ joined (problem_at (iteration_of framed) bit) test point
  joined_may may =
      sym (ap (λ (b : Bool). if b
      then list_all (λ edge. not (is_step_to (has_path_within framed.points framed.table) point edge)
      || bit_behind (directed_transfer framed.program framed.analysis bit) test edge) edges
      else list_any (λ edge. is_step_to (has_path_within framed.points framed.table) point edge
      && bit_behind (directed_transfer framed.program framed.analysis bit) test edge) edges) may
      ∙ any_source (has_path_within framed.points framed.table) point (bit_behind (directed_transfer framed.program framed.analysis bit) test)
      (brings_bit framed column bit point) same_bit edges)

  -- one point computed anew
  pub put_bit : (value : Bool) → IsWithin framed.points point → value ≡ joined (problem_at (iteration_of framed) bit) test point
      → TellsColumn framed.points (with_point (problem_at (iteration_of framed) bit) test point) (set column (point - framed.points.first) value)
  put_bit value within is = record {
    count = length-set column (point - framed.points.first) value ∙ tells.count;
    each = λ other low high. by_test other low high (nat_eq other point) refl;
  }
    where
      by_test : (other : ℕ) → framed.points.first ≤ other → other < framed.points.end → (b : Bool) → nat_eq other point ≡ b
          → get_or (set column (point - framed.points.first) value) (other - framed.points.first) false
          ≡ (if b then joined (problem_at (iteration_of framed) bit) test point else test other)
      by_test other low high true same =
          let here : other ≡ point = eqb-true other point same in
          let count = tells.count in
          let short : point - framed.points.first < length column = omega (arith, count, within) in
          ap (λ p. get_or (set column (point - framed.points.first) value) (p - framed.points.first) false) here
          ∙ get_or-set_same column (point - framed.points.first) value false short ∙ is
      by_test other low high false differs =
          let apart : ¬ (other ≡ point) = (λ same. absurd (cc (differs, eq-eqb other point same))) in
          let places : ¬ (other - framed.points.first ≡ point - framed.points.first) =
          (λ same. apart (let first = within.0 in let e : other ≡ point = omega (arith, same, low, first) in e)) in
          get_or-set_other column (point - framed.points.first) (other - framed.points.first) value false places ∙ tells.each other low high
