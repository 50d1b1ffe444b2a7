-- The blocks of a procedure have its points, and edges out of blocks lead to blocks
use Rattle.std.proofs.Common.{◌≡◌, ◌∙◌, ℕ, zero, suc, ◌+◌, ◌-◌, ◌<◌, ◌≤◌, Bool, true, false, not, ◌⊎◌, inl, inr, List, ◌∷◌, ◌++◌, length, flat_map}
use Rattle.std.proofs.Common.{Option, option_map, unwrap_or, cond, refl, sym, ap, arith}
use Rattle.std.proofs.Math.Nat.{eq-or-lt_of_le}
use Rattle.std.specs.List.{filter, range_with_len}
use Rattle.tac_program.specs.Programs.{Program}
use Rattle.tac_program.specs.declared.program.StmtKind.{StmtKind}
use Rattle.flow_graph.specs.Paths.{target_of}
use Rattle.flow_graph.specs.Points.{end_place, end_point, entry_point, point_count, procedure_at}
use Rattle.flow_graph.specs.ProgramLaws.{IsPlaceOf}
use Rattle.flow_graph.proofs.places.PointLemmas.{points_have_places}
use Rattle.flow_texts.proofs.sets.RangeLines.{range_split}
use Rattle.flow_views.proofs.facts.Behind.{procedure_of}
use Rattle.flow_views.proofs.facts.Tables.{ends_below}
use Rattle.block_dots.specs.Blocks.{block_end, block_last, block_points, goes_on, is_leader, is_plain}
use Rattle.block_dots.specs.Laws.{BlocksHavePoints, EdgesLeadToLeaders}
use Rattle.block_dots.proofs.control.Leaders.{edge_leads, entry_leads, none_at_end}
use Rattle.block_dots.proofs.points.Bounds.{block_below, block_bounds, goes_on_there}
use Rattle.block_dots.proofs.points.Ranges.{filter_skip, found_passes, range_first, range_none}

-- a block ends at the next leader, or behind its procedure's end
ends_at : (program : Program) (leader : ℕ) → (block_end program leader ≡ suc (end_point program (procedure_at program leader)))
    ⊎ (is_leader program (block_end program leader) ≡ true)
ends_at program leader =
    let last : ℕ = end_point program (procedure_at program leader) in
    found_passes (is_leader program) (suc leader) (last - leader) (suc last)

-- the blocks of the points from one on and before another
abbrev blocks_of : Program → ℕ → ℕ → List ℕ
blocks_of program point stop = flat_map (block_points program) (filter (is_leader program) (range_with_len point (stop - point)))

-- one block, and those behind it
one_block : (program : Program) (point next stop : ℕ) → next ≡ block_end program point → is_leader program point ≡ true → point < next → next ≤ stop
    → ((k : ℕ) → point < k → k < next → is_leader program k ≡ false)
    → blocks_of program next stop ≡ range_with_len next (stop - next) → blocks_of program point stop ≡ range_with_len point (stop - point)
one_block program point next stop is leads inside room none rest =
    let others : List ℕ = filter (is_leader program) (range_with_len (point + 1) (stop - (point + 1))) in
    let skipped : point + 1 + (next - (point + 1)) ≡ next = omega (arith, inside) in
    let far : point + (next - point) ≡ next = omega (arith, inside) in
    let all : next - point + (stop - next) ≡ stop - point = omega (arith, inside, room) in
    ap (λ ps. flat_map (block_points program) (filter (is_leader program) ps)) (range_first point stop (omega (arith, inside, room)))
    ∙ ap (λ (b : Bool). flat_map (block_points program) (cond b (point ∷ others) others)) leads
    ∙ ap (λ ps. block_points program point ++ flat_map (block_points program) ps)
    (filter_skip (is_leader program) (point + 1) (next - (point + 1)) stop (omega (arith, inside, room))
    (λ k from to. none k (omega (arith, from)) (omega (arith, to, inside)))
    ∙ ap (λ (n : ℕ). filter (is_leader program) (range_with_len n (stop - n))) skipped)
    ∙ ap (λ ps. block_points program point ++ ps) rest
    ∙ ap (λ (n : ℕ). range_with_len point (n - point) ++ range_with_len next (stop - next)) (sym is)
    ∙ ap (λ (n : ℕ). range_with_len point (next - point) ++ range_with_len n (stop - next)) (sym far)
    ∙ sym (range_split point (next - point) (stop - next))
    ∙ ap (range_with_len point) all

no_blocks : (program : Program) (point stop : ℕ) → stop ≤ point → blocks_of program point stop ≡ range_with_len point (stop - point)
no_blocks program point stop above =
    let none = range_none point stop above in
    ap (λ ps. flat_map (block_points program) (filter (is_leader program) ps)) none ∙ sym none

module _ (program : Program) (procedure : ℕ) (there : procedure < length program.procedures) where
  blocks_from : (fuel point : ℕ) → entry_point program procedure ≤ point → point ≤ entry_point program procedure + suc (end_place program procedure)
      → entry_point program procedure + suc (end_place program procedure) - point ≤ fuel
      → (point ≡ entry_point program procedure + suc (end_place program procedure)) ⊎ (is_leader program point ≡ true)
      → blocks_of program point (entry_point program procedure + suc (end_place program procedure))
      ≡ range_with_len point (entry_point program procedure + suc (end_place program procedure) - point)
  blocks_from fuel point low high enough (inl same) = no_blocks program point _ (omega (arith, same))
  blocks_from zero point low high enough (inr leads) = no_blocks program point _ (omega (arith, enough))
  blocks_from (suc fuel) point low high enough (inr leads) = by_order (eq-or-lt_of_le high) (blocks_from fuel)
    where
      by_order : (point ≡ entry_point program procedure + suc (end_place program procedure))
          ⊎ (point < entry_point program procedure + suc (end_place program procedure))
          → ((next : ℕ) → entry_point program procedure ≤ next → next ≤ entry_point program procedure + suc (end_place program procedure)
          → entry_point program procedure + suc (end_place program procedure) - next ≤ fuel
          → (next ≡ entry_point program procedure + suc (end_place program procedure)) ⊎ (is_leader program next ≡ true)
          → blocks_of program next (entry_point program procedure + suc (end_place program procedure))
          ≡ range_with_len next (entry_point program procedure + suc (end_place program procedure) - next))
          → blocks_of program point (entry_point program procedure + suc (end_place program procedure))
          ≡ range_with_len point (entry_point program procedure + suc (end_place program procedure) - point)
      by_order (inl same) rest = no_blocks program point _ (omega (arith, same))
      by_order (inr inside) rest =
          let same : procedure_at program point ≡ procedure = procedure_of program procedure point there low inside in
          let last : end_point program (procedure_at program point) ≡ end_point program procedure = ap (end_point program) same in
          let below : point < point_count program = omega (arith, inside, ends_below program procedure there) in
          let next : ℕ = block_end program point in
          let bounds = block_bounds program point below in
          let room : next ≤ entry_point program procedure + suc (end_place program procedure) = omega (arith, bounds.1, last) in
          let ends : (next ≡ entry_point program procedure + suc (end_place program procedure)) ⊎ (is_leader program next ≡ true) =
          elim (ends_at program point) [ inl at ↦ inl (omega (arith, at, last)) | inr is ↦ inr is ] in
          one_block program point next _ refl leads bounds.0 room (λ k from to. ap not (goes_on_there program point k below from to))
          (rest next (omega (arith, low, bounds.0)) room (omega (arith, enough, bounds.0, inside)) ends)

pub blocks_have_points : BlocksHavePoints
blocks_have_points program procedure there =
    let size : entry_point program procedure + suc (end_place program procedure) - entry_point program procedure ≡ suc (end_place program procedure) =
    omega arith in
    ap (λ (n : ℕ). flat_map (block_points program) (filter (is_leader program) (range_with_len (entry_point program procedure) n))) (sym size)
    ∙ blocks_from program procedure there (suc (end_place program procedure)) (entry_point program procedure) (omega arith) (omega arith)
    (omega arith)
    (inr (entry_leads program procedure there))
    ∙ ap (range_with_len (entry_point program procedure)) size

pub edges_lead_to_leaders : EdgesLeadToLeaders
edges_lead_to_leaders program leader sound below leads edge among =
    let last : ℕ = block_last program leader in
    let bounds = block_bounds program leader below in
    let last_below : last < point_count program = omega (arith, bounds.0, block_below program leader below) in
    elim (edge_leads program sound last last_below edge among) [
      | inl is ↦ is
      | inr step ↦
          let target : target_of edge ≡ block_end program leader = omega (arith, ap target_of step.1, bounds.0) in
          elim (ends_at program leader) [
            | inl at ↦
                let place : IsPlaceOf program leader = points_have_places program leader below in
                let ends : last ≡ end_point program (procedure_at program leader) = omega (arith, at) in
                let none = ap (λ (o : Option StmtKind). unwrap_or (option_map is_plain o) false)
                (none_at_end program (procedure_at program leader) place.procedure) in
                absurd (cc (sym step.0 ∙ ap (goes_on program) ends ∙ none))
            | inr is ↦ ap (is_leader program) target ∙ is
          ]
    ]
