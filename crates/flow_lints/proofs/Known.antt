-- What is found is knowledge of the program, and the lints that are made of it are those of all that is known
use Rattle.std.proofs.Common.{◌≡◌, ℕ, zero, suc, ◌+◌, ◌-◌, ◌<◌, ◌≤◌, Bool, false, not, ◌&&◌, List, [], ◌∷◌, ◌++◌, map, flat_map, length}
use Rattle.std.proofs.Common.{Option, Some, None, option_and_then, nat_eq, cond, if◌then◌else◌, refl, sym, ap, ap₂, ◌∙◌, arith}
use Rattle.std.specs.List.{filter, range_with_len}
use Rattle.std.proofs.lemmas.List.Concat.{flat_map-cons}
use Rattle.flow_graph.specs.Points.{entry_point, kind_at, place_of, point_count, procedure_at}
use Rattle.flow_graph.proofs.places.PointLemmas.{places_have_points, points_have_places}
use Rattle.flow_lints.specs.Lints.{IsFirstOf, LintKnowledge, by_executions, dead_variables_at, is_endless, is_kept}
use Rattle.flow_lints.specs.Lints.{is_left_out, kept_at, left_out_of, lints_at, lints_of, lints_placed_at, uncalled_at, unreached_at}
use Rattle.flow_lints.specs.code.Lints.{is_unread}
use Rattle.flow_lints.specs.declared.lint.Lint.TheVariants.{NeverCalled, Told}
use Rattle.report_answers.specs.Statements.{assigned}
use Rattle.flow_reports.specs.declared.remark.Remark.TheVariants.{NeverReached, Dead}
use Rattle.flow_reports.proofs.knowledge.KnownReports.{Agree, same_dead, same_remarks}
use Rattle.tac_program.specs.Programs.{Program}
use Rattle.tac_program.specs.Sound.{IsSound}
use Rattle.tac_program.specs.declared.program.StmtKind.{StmtKind}

-- what is made of each number of a range is the same where it is at each
same_made : {A : Type 0} (f g : ℕ → List A) (a n : ℕ) → ((k : ℕ) → a ≤ k → k < a + n → f k ≡ g k)
    → flat_map f (range_with_len a n) ≡ flat_map g (range_with_len a n)
same_made f g a zero same = refl
same_made f g a (suc n) same =
    let rest : flat_map f (range_with_len (a + 1) n) ≡ flat_map g (range_with_len (a + 1) n) =
    same_made f g (a + 1) n (λ k from to. same k (omega (arith, from)) (omega (arith, to))) in
    flat_map-cons f a (range_with_len (a + 1) n)
    ∙ ap (λ t. t ++ flat_map f (range_with_len (a + 1) n)) (same a (omega arith) (omega arith))
    ∙ ap (λ t. g a ++ t) rest
    ∙ sym (flat_map-cons g a (range_with_len (a + 1) n))

same_filter : (p q : ℕ → Bool) (a n : ℕ) → ((k : ℕ) → a ≤ k → k < a + n → p k ≡ q k) → filter p (range_with_len a n) ≡ filter q (range_with_len a n)
same_filter p q a zero same = refl
same_filter p q a (suc n) same =
    let rest : filter p (range_with_len (a + 1) n) ≡ filter q (range_with_len (a + 1) n) =
    same_filter p q (a + 1) n (λ k from to. same k (omega (arith, from)) (omega (arith, to))) in
    ap (λ b. cond b (a ∷ filter p (range_with_len (a + 1) n)) (filter p (range_with_len (a + 1) n))) (same a (omega arith) (omega arith))
    ∙ ap (λ ks. cond (q a) (a ∷ ks) ks) rest

-- the entry of a point's procedure is a point
pub entry_below : (program : Program) (point : ℕ) → point < point_count program → entry_point program (procedure_at program point) < point_count program
entry_below program point below =
    (places_have_points program (procedure_at program point) 0 (points_have_places program point below).procedure (omega arith)).0

-- two that know the same of what lints are made of
pub record SameLints (program : Program) (one other : LintKnowledge) : Type 0 where
  pub report : Agree program one.report other.report
  pub on_executions : one.on_executions ≡ other.on_executions
  pub finish : (point : ℕ) → point < point_count program → one.report.live.has_path point ≡ other.report.live.has_path point

module _ (program : Program) (sound : IsSound program) (one other : LintKnowledge) (same : SameLints program one other) where
  by_doubt : Agree program (by_executions one) (by_executions other)
  by_doubt = record {
    flags = same.report.flags;
    unset = same.report.unset;
    computed = same.report.computed;
    busy = same.report.busy;
    live = same.report.live;
    doubtful = λ point below i. same.on_executions i point;
  }

  same_uncalled : (point : ℕ) → point < point_count program → uncalled_at program one point ≡ uncalled_at program other point
  same_uncalled point below =
      ap (λ b. if nat_eq (place_of program point).place 0 && not b then procedure_at program point ∷ [] else []) (same.report.flags point below)

  same_unreached : (point : ℕ) → point < point_count program → unreached_at program one point ≡ unreached_at program other point
  same_unreached point below i =
      if (elim (kind_at program point) [
        | Some statement ↦
            (same.report.flags (entry_point program (procedure_at program point)) (entry_below program point below) i
            && not (same.report.flags point below i))
            && same.report.flags (point - 1) (omega (arith, below)) i
        | None ↦ false
      ]) then NeverReached ∷ [] else []

  same_kept : (point : ℕ) → point < point_count program → kept_at program one point ≡ kept_at program other point
  same_kept point below = ap (filter is_kept) (same_remarks program sound one.report other.report same.report point below)

  same_dead_variables : (point : ℕ) → point < point_count program → dead_variables_at program one point ≡ dead_variables_at program other point
  same_dead_variables point below i =
      if same.report.flags point below i then same_dead program sound (by_executions one) (by_executions other) by_doubt point below i else []

  pub same_lints_at : (point : ℕ) → point < point_count program → lints_at program one point ≡ lints_at program other point
  same_lints_at point below i =
      map (λ procedure. NeverCalled procedure) (same_uncalled point below i)
      ++ map (λ remark. Told remark)
      (same_unreached point below i ++ same_kept point below i ++ map (λ variable. Dead variable) (same_dead_variables point below i))

  pub same_lints : lints_of program one ≡ lints_of program other
  same_lints = same_made (λ point. lints_placed_at point (lints_at program one point)) (λ point. lints_placed_at point (lints_at program other point)) 0
      (point_count program)
      (λ point from below. ap (lints_placed_at point) (same_lints_at point (omega (arith, below))))

  same_unread : (point : ℕ) → point < point_count program → (o : Option StmtKind) → kind_at program point ≡ o
      → is_unread one point (option_and_then assigned o) ≡ is_unread other point (option_and_then assigned o)
  same_unread point below None at = refl
  same_unread point below (Some kind) at = by_variable (assigned kind) refl
    where
      by_variable : (o : Option ℕ) → assigned kind ≡ o → is_unread one point o ≡ is_unread other point o
      by_variable None sets = refl
      by_variable (Some variable) sets =
          ap₂ (λ doubt live. doubt && not live) (λ i. same.on_executions i (suc point)) (same.report.live point variable kind below at sets)

  same_left_out_at : (point : ℕ) → point < point_count program → is_left_out program one point ≡ is_left_out program other point
  same_left_out_at point below i = same.report.flags point below i && same_unread point below (kind_at program point) refl i

  pub same_left_out : left_out_of program one ≡ left_out_of program other
  same_left_out = ap length (same_filter (is_left_out program one) (is_left_out program other) 0 (point_count program)
      (λ point from below. same_left_out_at point (omega (arith, below))))

  same_endless : (point : ℕ) → point < point_count program → is_endless one point ≡ is_endless other point
  same_endless point below i = same.report.flags point below i && not (same.finish point below i)

  pub same_first : (first : Option ℕ) → IsFirstOf (is_endless one) (point_count program) first → IsFirstOf (is_endless other) (point_count program) first
  same_first None none = λ point below. sym (same_endless point below) ∙ none point below
  same_first (Some first) is = (
    is.0,
    sym (same_endless first is.0) ∙ is.1,
    λ point before. sym (same_endless point (omega (arith, before, is.0))) ∙ is.2 point before,
  )
