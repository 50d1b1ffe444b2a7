-- A point is doubtful on executions where it leads through reached points to a reached one that cannot finish
use Rattle.std.proofs.Common.{◌≡◌, ◌↔◌, ◌⊎◌, inl, inr, ℕ, ◌<◌, ◌≤◌, Bool, true, false, not, ◌&&◌, List, [], ◌∷◌, map, length, get_or, refl, sym, ap, ◌∙◌}
use Rattle.std.proofs.Common.{arith, subst}
use Rattle.std.proofs.lemmas.Bool.{and_parts, and_from, cases_lt}
use Rattle.std.proofs.lemmas.List.{get_or_past}
use Rattle.std.proofs.lemmas.List.FromFn.{get_or-map-range_with_len, length-map-range_with_len}
use Rattle.execution_laws.specs.Executions.{IsDoubtfulOnExecutions, IsReachedAlong}
use Rattle.flow_graph.specs.Analyses.{shape_of}
use Rattle.flow_graph.specs.Paths.{IsPath, HasBackwardPath, HasPath, target_of}
use Rattle.flow_graph.specs.Points.{points, point_count}
use Rattle.flow_graph.specs.declared.edge.Edge.{Edge}
use Rattle.flow_graph.proofs.graphs.GraphLaws.{edges_join_points}
use Rattle.flow_lints.specs.code.Leading.{IsAmongAlong, LeadsAmong, TellLeadingAmong}
use Rattle.flow_lints.specs.code.Lints.{TellDoubtOnExecutions}
use Rattle.tac_program.specs.Programs.{Program}
use Rattle.tac_program.specs.Sound.{IsSound}

not_both : (b : Bool) → not b ≡ true → ¬ (b ≡ true)
not_both true off on = cc off
not_both false off on = cc on

module _ (program : Program) (flags : List Bool) (test : ℕ → Bool) (are : flags ≡ map test (points program)) where
  -- the flag of a point
  pub flag_is : (x : ℕ) → x < point_count program → get_or flags x false ≡ test x
  flag_is x below = ap (λ fs. get_or fs x false) are ∙ get_or-map-range_with_len test 0 (point_count program) x x false below (omega arith)

  pub as_many : length flags ≡ point_count program
  as_many = ap length are ∙ length-map-range_with_len test 0 (point_count program)

  -- what is flagged is a point
  pub flagged_is_point : (x : ℕ) → get_or flags x false ≡ true → x < point_count program
  flagged_is_point x on = by_case (cases_lt x (point_count program))
    where
      by_case : (x < point_count program) ⊎ (point_count program ≤ x) → x < point_count program
      by_case (inl inside) = inside
      by_case (inr past) = absurd (cc (on, get_or_past flags x false (omega (arith, past, as_many))))

module _ (program : Program) (sound : IsSound program) (reach live : ℕ → Bool) (among marked : List Bool)
    (reach_is : (point : ℕ) → point < point_count program → (reach point ≡ true) ↔ HasPath (shape_of program) point)
    (live_is : (point : ℕ) → point < point_count program → (live point ≡ true) ↔ HasBackwardPath (shape_of program) point)
    (among_are : among ≡ map reach (points program))
    (marked_are : marked ≡ map (λ point. reach point && not (live point)) (points program)) where
  pub marked_are_among : (point : ℕ) → get_or marked point false ≡ true → get_or among point false ≡ true
  marked_are_among point on =
      let below = flagged_is_point program marked (λ p. reach p && not (live p)) marked_are point on in
      let both : (reach point && not (live point)) ≡ true = sym (flag_is program marked (λ p. reach p && not (live p)) marked_are point below) ∙ on in
      flag_is program among reach among_are point below ∙ (and_parts (reach point) _ both).0

  among_is_reached : (x : ℕ) → get_or among x false ≡ true → HasPath (shape_of program) x
  among_is_reached x on =
      let below = flagged_is_point program among reach among_are x on in
      (reach_is x below).0 (sym (flag_is program among reach among_are x below) ∙ on)

  among_along : (path : List Edge) (x : ℕ) → IsAmongAlong among x path → IsReachedAlong (shape_of program) x path
  among_along [] x along = among_is_reached x along
  among_along (edge ∷ path) x along = (among_is_reached x along.0, among_along path (target_of edge) along.1)

  reached_is_among : (x : ℕ) → x < point_count program → HasPath (shape_of program) x → get_or among x false ≡ true
  reached_is_among x below has = flag_is program among reach among_are x below ∙ (reach_is x below).1 has

  reached_along : (path : List Edge) (x ahead : ℕ) → x < point_count program → IsPath (shape_of program) x path ahead
      → IsReachedAlong (shape_of program) x path → IsAmongAlong among x path × HasPath (shape_of program) ahead × (ahead < point_count program)
  reached_along [] x ahead below same along = (
    reached_is_among x below along,
    subst (HasPath (shape_of program)) same along,
    subst (λ n. n < point_count program) same below,
  )
  reached_along (edge ∷ path) x ahead below is_path along =
      let next = (edges_join_points program sound edge is_path.0).target in
      let (rest, has, there) = reached_along path (target_of edge) ahead next is_path.2 along.1 in
      ((reached_is_among x below along.0, rest), has, there)

  unmarked : (x : ℕ) → ¬ (HasBackwardPath (shape_of program) x) → x < point_count program → (b : Bool) → live x ≡ b → not b ≡ true
  unmarked x none below true is = absurd (none ((live_is x below).0 is))
  unmarked x none below false is = refl

  pub tell_doubt : (answers : List Bool) → TellLeadingAmong program among marked answers → TellDoubtOnExecutions program answers
  tell_doubt answers tells = record {
    count = tells.count;
    each = λ point below. (
      λ on. doubts point ((tells.each point below).0 on),
      λ doubt. (tells.each point below).1 (leads point below doubt),
    );
  }
    where
      doubts : (point : ℕ) → LeadsAmong program among marked point → IsDoubtfulOnExecutions (shape_of program) point
      doubts point (path, ahead, is_path, along, is_marked) =
          let below = flagged_is_point program marked (λ p. reach p && not (live p)) marked_are ahead is_marked in
          let both : (reach ahead && not (live ahead)) ≡ true =
          sym (flag_is program marked (λ p. reach p && not (live p)) marked_are ahead below) ∙ is_marked in
          let off = (and_parts (reach ahead) (not (live ahead)) both).1 in
          (path, ahead, is_path, among_along path point along, λ finish. not_both (live ahead) off ((live_is ahead below).1 finish))

      leads : (point : ℕ) → point < point_count program → IsDoubtfulOnExecutions (shape_of program) point → LeadsAmong program among marked point
      leads point below (path, ahead, is_path, along, none) =
          let (rest, has, there) = reached_along path point ahead below is_path along in (
            path,
            ahead,
            is_path,
            rest,
            flag_is program marked (λ p. reach p && not (live p)) marked_are ahead there
                ∙ and_from _ _ ((reach_is ahead there).1 has) (unmarked ahead none there (live ahead) refl),
          )
