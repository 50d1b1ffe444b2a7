-- What a visit of a procedure does to what is brought and to marks
use Rattle.std.proofs.Common.{◌≡◌, ◌≢◌, ◌<◌, ◌+◌, ◌⊎◌, inl, inr, ◌&&◌, ◌||◌, length, get_or, set, true, Bool, ℕ, List, [], arith, sym, ◌∙◌, subst, ap}
use Rattle.std.proofs.Math.ListN.{length-set}
use Rattle.std.proofs.lemmas.Bool.{cases_eq, or_left, or_right, or_cases}
use Rattle.std.proofs.lemmas.List.{get_or-set_same, get_or-set_other}
use Rattle.std.proofs.lemmas.List.Sums.{sum_by-set}
use Rattle.bit_rows.specs.Words.{has_bit}
use Rattle.flow_graph.specs.declared.edge.Edge.{Edge}
use Rattle.flow_graph.specs.declared.edge.Edge.TheVariants.{Step, Call, Ret}
use Rattle.flow_graph.specs.Paths.{IsEdge}
use Rattle.worklist.specs.Worklist.{IsMarked}
use Rattle.gk_solve.specs.Tables.Brought.{AreBroughtOf, AreSoundBrought, BroughtGrows, BroughtSpreads, IsBringSettled, IsBroughtClosedAt}
use Rattle.gk_solve.specs.Tables.Brought.{brought_word, room_of_rows}
use Rattle.gk_solve.specs.Tables.Flags.{IsFlagged, source_procedure}
use Rattle.gk_solve.specs.Tables.Groups.{AreJoined, Group, preserved_word, generated_word, room_of_words}
use Rattle.gk_solve.specs.Tables.Visits.{IsSettled}
use Rattle.gk_solve.specs.Tables.Words.{HasBit, IsBrought}
use Rattle.flow_links.specs.declared.link.SiteLink.{SiteLink}
use Rattle.gk_solve.specs.declared.summary.Summary.{Summary}
use Rattle.gk_solve.proofs.visits.FlagVisits.{flag_here, flags_stay}
use Rattle.gk_solve.proofs.edges.WordEdges.{new_bit}

pub still_brought : (width : ℕ) (table : List (List ℕ)) → BroughtGrows width table table
still_brought width table w inside x k has = has

pub brought_on : (width : ℕ) (a b c : List (List ℕ)) → BroughtGrows width a b → BroughtGrows width b c → BroughtGrows width a c
brought_on width a b c first second w inside x k has = second w inside x k (first w inside x k has)

module _ {W : ℕ} (group : Group) (paths : List Bool) (summaries : List (Summary W)) (table : List (List ℕ)) (dirty : List Bool) (at : ℕ)
    (before more after : List ℕ) (within : at < length table) (in_dirty : at < length dirty)
    (read : before ≡ get_or table at []) (joined : AreJoined group.width before more after) where
  written : (w : ℕ) → brought_word (set table at after) w at ≡ get_or after w 0
  written w = ap (λ (row : List ℕ). get_or row w 0) (get_or-set_same table at after [] within)

  unwritten : (w x : ℕ) → x ≢ at → brought_word (set table at after) w x ≡ brought_word table w x
  unwritten w x other = ap (λ (row : List ℕ). get_or row w 0) (get_or-set_other table at x after [] other)

  there : (w k : ℕ) → w < group.width → has_bit (get_or after w 0) k ≡ (has_bit (brought_word table w at) k || has_bit (get_or more w 0) k)
  there w k inside = joined w k inside ∙ ap (λ (row : List ℕ). has_bit (get_or row w 0) k || has_bit (get_or more w 0) k) read

  pub put_added : (w k : ℕ) → w < group.width → has_bit (get_or more w 0) k ≡ true → HasBit (brought_word (set table at after) w) at k
  put_added w k inside has =
      ap (λ n. has_bit n k) (written w) ∙ (there w k inside ∙ or_right (has_bit (brought_word table w at) k) (has_bit (get_or more w 0) k) has)

  grows : BroughtGrows group.width table (set table at after)
  grows w inside x k has = elim (cases_eq x at) [
    | inl same ↦ ap (λ n. has_bit (brought_word (set table at after) w n) k) same
        ∙ (ap (λ n. has_bit n k) (written w) ∙ (there w k inside ∙ or_left (has_bit (brought_word table w at) k) (has_bit (get_or more w 0) k)
        (ap (λ n. has_bit (brought_word table w n) k) (sym same) ∙ has)))
    | inr other ↦ ap (λ n. has_bit n k) (unwritten w x other) ∙ has
  ]

  sound_more : AreBroughtOf group more at → AreSoundBrought group table → AreSoundBrought group (set table at after)
  sound_more brings sound w inside x k low has = elim (cases_eq x at) [
    | inl same ↦ subst (IsBrought group.shape (group.transfer w) k) (sym same)
        (elim (or_cases (has_bit (brought_word table w at) k) (has_bit (get_or more w 0) k) (sym (there w k inside)
        ∙ (sym (ap (λ n. has_bit n k) (written w)) ∙ (ap (λ n. has_bit (brought_word (set table at after) w n) k) (sym same) ∙ has)))) [
          | inl old ↦ sound w inside at k low old
          | inr new ↦ brings w k inside low new
        ])
    | inr other ↦ sound w inside x k low (sym (ap (λ n. has_bit n k) (unwritten w x other)) ∙ has)
  ]

  settled_more : (edge : Edge) → IsSettled (IsBroughtClosedAt group paths summaries) (source_procedure group.shape) table dirty edge
      → IsSettled (IsBroughtClosedAt group paths summaries) (source_procedure group.shape) (set table at after) (set dirty at true) edge
  settled_more edge (inr marked) = inr (flags_stay dirty at (source_procedure group.shape edge) marked)
  settled_more (Step x y) (inl closed) = inl (λ w inside. tt)
  settled_more (Ret site x y) (inl closed) = inl (λ w inside. tt)
  settled_more (Call site x y) (inl closed) = elim (cases_eq (group.shape.procedure_of x) at) [
    | inl same ↦ inr (subst (IsMarked (set dirty at true)) (sym same) (flag_here dirty at in_dirty))
    | inr other ↦ inl (λ w inside k low at_x either. grows w inside (group.shape.procedure_of y) k (closed w inside k low at_x (elim either [
      | inl new ↦ inl new
      | inr before ↦ inr (sym (ap (λ n. has_bit n k) (unwritten w (group.shape.procedure_of x) other)) ∙ before.0, before.1)
    ])))
  ]

  pub put_spreads : room_of_words after < room_of_words before → AreBroughtOf group more at
      → BroughtSpreads group paths summaries table dirty (set table at after) (set dirty at true)
  put_spreads less brings = record {
    count = length-set dirty at true;
    grows = grows;
    settled = λ edge is. settled_more edge;
    progress = inr (falls (room_of_rows (set table at after)) (room_of_rows table) (room_of_words (get_or table at [])) (room_of_words after)
        (sum_by-set room_of_words table at after [] within)
        (subst (λ (row : List ℕ). room_of_words after < room_of_words row) read less));
    sound = sound_more brings;
  }
    where
      falls : (new old before now : ℕ) → new + before ≡ old + now → now < before → new < old
      falls new old before now e m = omega arith

module _ {W : ℕ} (group : Group) (paths : List Bool) (summaries : List (Summary W)) where
  -- a call whose bits were put is settled: what its caller has is what was read, or it is marked
  pub site_settled : (old new : List (List ℕ)) (dirty_after : List Bool) (link : SiteLink) (procedure : ℕ) (more : List ℕ)
      → group.shape.procedure_of link.point ≡ procedure
      → ((w k : ℕ) → w < group.width → has_bit (get_or more w 0) k ≡ (has_bit (generated_word summaries w link.point) k
      || (has_bit (brought_word old w procedure) k && has_bit (preserved_word summaries w link.point) k)))
      → ((w k : ℕ) → w < group.width → has_bit (get_or more w 0) k ≡ true → HasBit (brought_word new w) link.callee k)
      → (((w : ℕ) → brought_word new w procedure ≡ brought_word old w procedure) ⊎ IsMarked dirty_after procedure)
      → IsBringSettled group paths summaries new dirty_after link
  site_settled old new dirty_after link procedure more inside are added (inr marked) = record {
    settled = λ site x y there point callee. inr (subst (IsMarked dirty_after) (sym (ap group.shape.procedure_of (sym point) ∙ inside)) marked);
  }
  site_settled old new dirty_after link procedure more inside are added (inl same) = record {
    settled = λ site x y there point callee. inl (λ w within k low at_x either.
        subst (λ n. HasBit (brought_word new w) n k) callee (added w k within (are w k within
        ∙ new_bit (has_bit (generated_word summaries w link.point) k) (has_bit (brought_word old w procedure) k)
        (has_bit (preserved_word summaries w link.point) k) (elim either [
          | inl new_generated ↦ inl (ap (λ n. has_bit (generated_word summaries w n) k) point ∙ new_generated)
          | inr before ↦ inr (
            sym (ap (λ n. has_bit n k) (same w))
                ∙ (ap (λ n. has_bit (brought_word new w n) k) (sym (ap group.shape.procedure_of (sym point) ∙ inside)) ∙ before.0),
            ap (λ n. has_bit (preserved_word summaries w n) k) point ∙ before.1,
          )
        ]))));
  }

  -- a call without a path is settled
  pub site_blocked : (table : List (List ℕ)) (dirty : List Bool) (link : SiteLink) → (IsFlagged paths link.point → ⊥)
      → IsBringSettled group paths summaries table dirty link
  site_blocked table dirty link never = record {
    settled = λ site x y there point callee. inl (λ w within k low at_x either. absurd (never (subst (IsFlagged paths) (sym point) at_x)));
  }

  pub site_settled_more : (t0 : List (List ℕ)) (d0 : List Bool) (t1 : List (List ℕ)) (d1 : List Bool) (link : SiteLink)
      → BroughtSpreads group paths summaries t0 d0 t1 d1
      → IsBringSettled group paths summaries t0 d0 link → IsBringSettled group paths summaries t1 d1 link
  site_settled_more t0 d0 t1 d1 link spreads is =
      record { settled = λ site x y there point callee. spreads.settled (Call site x y) there (is.settled site x y there point callee) }

  -- the edges of a procedure are settled where its calls are
  pub bring_by_source : (table : List (List ℕ)) (dirty : List Bool) (procedure : ℕ)
      → ((site x y : ℕ) → IsEdge group.shape (Call site x y) → group.shape.procedure_of x ≡ procedure
      → IsSettled (IsBroughtClosedAt group paths summaries) (source_procedure group.shape) table dirty (Call site x y))
      → (edge : Edge) → IsEdge group.shape edge → source_procedure group.shape edge ≡ procedure
      → IsSettled (IsBroughtClosedAt group paths summaries) (source_procedure group.shape) table dirty edge
  bring_by_source table dirty procedure calls (Step x y) there same = inl (λ w inside. tt)
  bring_by_source table dirty procedure calls (Call site x y) there same = calls site x y there same
  bring_by_source table dirty procedure calls (Ret site x y) there same = inl (λ w inside. tt)
