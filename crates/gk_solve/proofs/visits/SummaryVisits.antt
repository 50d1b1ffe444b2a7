-- What a visit of a point does to summaries and marks
use Rattle.std.proofs.Common.{◌≡◌, ◌≢◌, ◌<◌, ◌≤◌, ◌+◌, inl, inr, ◌&&◌, ◌||◌, not, length, get_or, set, true, Bool, ℕ, List, []}
use Rattle.std.proofs.Common.{arith, sym, ◌∙◌, subst, ap, suc, zero, ◌*◌}
use prog.Memory.{up}
use Rattle.std.proofs.lemmas.Bool.{cases_eq, or_left, or_right, or_cases, and_from, not_from_false}
use Rattle.std.proofs.lemmas.List.{get_or_default, get_or-set_same, get_or-set_other}
use Rattle.std.proofs.lemmas.List.Sums.{sum_by-set}
use Rattle.bit_rows.specs.Words.{has_bit}
use Rattle.flow_graph.specs.declared.edge.Edge.{Edge}
use Rattle.flow_graph.specs.declared.edge.Edge.TheVariants.{Step, Call, Ret}
use Rattle.flow_graph.specs.Paths.{Shape, IsEdge, source_of}
use Rattle.flow_links.specs.Shapes.{after_site}
use Rattle.worklist.specs.Worklist.{IsMarked}
use Rattle.gk_solve.specs.Tables.Flags.{IsFlagged}
use Rattle.gk_solve.specs.Tables.Groups.{Group, summary_at, preserved_word, generated_word, room_of_summary, room_of_summaries, SummariesGrow}
use Rattle.gk_solve.specs.Tables.Groups.{AreSoundSummaries, IsSummarySettled, IsWoken}
use Rattle.gk_solve.specs.Tables.Groups.{SummarySpreads, AreSameBut, AreOf, AreOfSomeCallee, AreJoined, IsPreservedAcross, IsGeneratedAcross}
use Rattle.gk_solve.specs.Tables.Words.{HasBit, AreSoundWords, IsPreserved, IsGenerated}
use Rattle.gk_solve.specs.declared.summary.Summary.{Summary}
use Rattle.gk_solve.proofs.edges.WordEdges.{new_bit}

-- ---- tables
pub still_summaries : {W : ℕ} (width : ℕ) (table : List (Summary W)) → SummariesGrow width table table
still_summaries width table w inside = (λ x k has. has, λ x k has. has)

pub summaries_on : {W : ℕ} (width : ℕ) (a b c : List (Summary W)) → SummariesGrow width a b → SummariesGrow width b c → SummariesGrow width a c
summaries_on width a b c first second w inside =
    (λ x k has. (second w inside).0 x k ((first w inside).0 x k has), λ x k has. (second w inside).1 x k ((first w inside).1 x k has))

module _ {W : ℕ} (width : ℕ) (table : List (Summary W)) (at : ℕ) (more after : Summary W) (within : at < length table)
    (preserved : AreJoined width (summary_at table at).preserved more.preserved after.preserved)
    (generated : AreJoined width (summary_at table at).generated more.generated after.generated) where
  none : Summary W
  none = record { preserved = []; generated = [] }

  pub written : summary_at (set table at after) at ≡ after
  unfolding none
  written = get_or-set_same table at after none within

  pub unwritten : (x : ℕ) → x ≢ at → summary_at (set table at after) x ≡ summary_at table x
  unfolding none
  unwritten x other = get_or-set_other table at x after none other

  pub put_preserved : (w k : ℕ) → w < width → has_bit (get_or more.preserved w 0) k ≡ true → HasBit (preserved_word (set table at after) w) at k
  put_preserved w k inside has = ap (λ (s : Summary W). has_bit (get_or s.preserved w 0) k) written
      ∙ (preserved w k inside ∙ or_right (has_bit (preserved_word table w at) k) (has_bit (get_or more.preserved w 0) k) has)

  pub put_generated : (w k : ℕ) → w < width → has_bit (get_or more.generated w 0) k ≡ true → HasBit (generated_word (set table at after) w) at k
  put_generated w k inside has = ap (λ (s : Summary W). has_bit (get_or s.generated w 0) k) written
      ∙ (generated w k inside ∙ or_right (has_bit (generated_word table w at) k) (has_bit (get_or more.generated w 0) k) has)

  pub put_grows : SummariesGrow width table (set table at after)
  put_grows w inside = (keeps, makes)
    where
      keeps : (x k : ℕ) → HasBit (preserved_word table w) x k → HasBit (preserved_word (set table at after) w) x k
      keeps x k has = elim (cases_eq x at) [
        | inl same ↦ ap (λ n. has_bit (preserved_word (set table at after) w n) k) same ∙ (ap (λ (s : Summary W). has_bit (get_or s.preserved w 0) k) written
            ∙ (preserved w k inside ∙ or_left (has_bit (preserved_word table w at) k) (has_bit (get_or more.preserved w 0) k)
            (ap (λ n. has_bit (preserved_word table w n) k) (sym same) ∙ has)))
        | inr other ↦ ap (λ (s : Summary W). has_bit (get_or s.preserved w 0) k) (unwritten x other) ∙ has
      ]

      makes : (x k : ℕ) → HasBit (generated_word table w) x k → HasBit (generated_word (set table at after) w) x k
      makes x k has = elim (cases_eq x at) [
        | inl same ↦ ap (λ n. has_bit (generated_word (set table at after) w n) k) same ∙ (ap (λ (s : Summary W). has_bit (get_or s.generated w 0) k) written
            ∙ (generated w k inside ∙ or_left (has_bit (generated_word table w at) k) (has_bit (get_or more.generated w 0) k)
            (ap (λ n. has_bit (generated_word table w n) k) (sym same) ∙ has)))
        | inr other ↦ ap (λ (s : Summary W). has_bit (get_or s.generated w 0) k) (unwritten x other) ∙ has
      ]

  pub put_less : room_of_summary after < room_of_summary (summary_at table at) → room_of_summaries (set table at after) < room_of_summaries table
  unfolding none
  put_less less =
      let moved = sum_by-set room_of_summary table at after none within in
      falls (room_of_summaries (set table at after)) (room_of_summaries table) (room_of_summary (summary_at table at)) (room_of_summary after)
      moved less
    where
      falls : (new old before now : ℕ) → new + before ≡ old + now → now < before → new < old
      falls new old before now e m = omega arith

module _ {W : ℕ} (group : Group) (table : List (Summary W)) (at : ℕ) (more after : Summary W) (within : at < length table)
    (preserved : AreJoined group.width (summary_at table at).preserved more.preserved after.preserved)
    (generated : AreJoined group.width (summary_at table at).generated more.generated after.generated) where
  pub put_sound : AreOf group (IsPreserved group.shape) more.preserved at → AreOf group (IsGenerated group.shape) more.generated at → AreSoundSummaries group table
      → AreSoundSummaries group (set table at after)
  put_sound keeps makes sound w inside = (preserved_sound, generated_sound)
    where
      preserved_sound : AreSoundWords (IsPreserved group.shape (group.transfer w)) (preserved_word (set table at after) w)
      preserved_sound x k low has = elim (cases_eq x at) [
        | inl same ↦ subst (IsPreserved group.shape (group.transfer w) k) (sym same)
            (elim (or_cases (has_bit (preserved_word table w at) k) (has_bit (get_or more.preserved w 0) k)
            (sym (preserved w k inside)
            ∙ (sym (ap (λ (s : Summary W). has_bit (get_or s.preserved w 0) k) (written group.width table at more after within preserved generated))
            ∙ (ap (λ n. has_bit (preserved_word (set table at after) w n) k) (sym same) ∙ has)))) [
              | inl before ↦ (sound w inside).0 at k low before
              | inr new ↦ keeps w k inside low new
            ])
        | inr other ↦ (sound w inside).0 x k low
            (sym (ap (λ (s : Summary W). has_bit (get_or s.preserved w 0) k) (unwritten group.width table at more after within preserved generated x other)) ∙ has)
      ]

      generated_sound : AreSoundWords (IsGenerated group.shape (group.transfer w)) (generated_word (set table at after) w)
      generated_sound x k low has = elim (cases_eq x at) [
        | inl same ↦ subst (IsGenerated group.shape (group.transfer w) k) (sym same)
            (elim (or_cases (has_bit (generated_word table w at) k) (has_bit (get_or more.generated w 0) k)
            (sym (generated w k inside)
            ∙ (sym (ap (λ (s : Summary W). has_bit (get_or s.generated w 0) k) (written group.width table at more after within preserved generated))
            ∙ (ap (λ n. has_bit (generated_word (set table at after) w n) k) (sym same) ∙ has)))) [
              | inl before ↦ (sound w inside).1 at k low before
              | inr new ↦ makes w k inside low new
            ])
        | inr other ↦ (sound w inside).1 x k low
            (sym (ap (λ (s : Summary W). has_bit (get_or s.generated w 0) k) (unwritten group.width table at more after within preserved generated x other)) ∙ has)
      ]

-- ---- what is settled
abbrev exit_of : Shape → ℕ → ℕ
exit_of shape y = shape.exit (shape.procedure_of y)

module _ {W : ℕ} (group : Group) (paths : List Bool) where
  -- what is settled stays so, where the table grows and what rests on the point that changes is marked
  pub put_settled : (old new : List (Summary W)) (dirty dirty_after : List Bool) (at : ℕ) → SummariesGrow group.width old new
      → ((x : ℕ) → IsMarked dirty x → IsMarked dirty_after x)
      → AreSameBut group.shape at old new dirty_after
      → (edge : Edge) → IsEdge group.shape edge → IsSummarySettled group paths old dirty edge → IsSummarySettled group paths new dirty_after edge
  put_settled old new dirty dirty_after at grows keeps same edge there (inr marked) = inr (keeps (source_of edge) marked)
  put_settled old new dirty dirty_after at grows keeps same (Step x y) there (inl closed) = elim (same x) [
    | inr woken ↦ inr (subst (IsMarked dirty_after) (sym woken.0) woken.1.itself)
    | inl still ↦ inl (λ w inside. (
      λ k low at_x has unkilled.
          (grows w inside).0 y k ((closed w inside).0 k low at_x (sym (ap (λ (s : Summary W). has_bit (get_or s.preserved w 0) k) still) ∙ has) unkilled),
      λ k low at_x either. (grows w inside).1 y k ((closed w inside).1 k low at_x (elim either [
        | inl gens ↦ inl gens
        | inr before ↦ inr (sym (ap (λ (s : Summary W). has_bit (get_or s.generated w 0) k) still) ∙ before.0, before.1)
      ])),
    ))
  ]
  put_settled old new dirty dirty_after at grows keeps same (Call site x y) there (inl closed) = elim (same x) [
    | inr woken ↦ inr (subst (IsMarked dirty_after) (sym woken.0) woken.1.itself)
    | inl still ↦ elim (same (exit_of group.shape y)) [
      | inr woken ↦ inr (woken.1.callers x (site, y, there, woken.0))
      | inl through ↦ inl (λ w inside. (
        λ k low at_x at_exit has passes. (grows w inside).0 (after_site group.backward site) k
            ((closed w inside).0 k low at_x at_exit (sym (ap (λ (s : Summary W). has_bit (get_or s.preserved w 0) k) still)
            ∙ has) (sym (ap (λ (s : Summary W). has_bit (get_or s.preserved w 0) k) through) ∙ passes)),
        λ k low at_x at_exit either. (grows w inside).1 (after_site group.backward site) k ((closed w inside).1 k low at_x at_exit (elim either [
          | inl callee ↦ inl (sym (ap (λ (s : Summary W). has_bit (get_or s.generated w 0) k) through) ∙ callee)
          | inr before ↦ inr (
            sym (ap (λ (s : Summary W). has_bit (get_or s.generated w 0) k) still) ∙ before.0,
            sym (ap (λ (s : Summary W). has_bit (get_or s.preserved w 0) k) through) ∙ before.1,
          )
        ])),
      ))
    ]
  ]
  put_settled old new dirty dirty_after at grows keeps same (Ret site x y) there (inl closed) = inl (λ w inside. (tt, tt))

  -- a step whose bits were put is settled
  pub step_settled : (x y : ℕ) (old new : List (Summary W)) (dirty_after : List Bool) (more : Summary W)
      → IsPreservedAcross group x y (summary_at old x).preserved more.preserved → IsGeneratedAcross group x y (summary_at old x).generated more.generated
      → AreSameBut group.shape y old new dirty_after
      → ((w k : ℕ) → w < group.width → has_bit (get_or more.preserved w 0) k ≡ true → HasBit (preserved_word new w) y k)
      → ((w k : ℕ) → w < group.width → has_bit (get_or more.generated w 0) k ≡ true → HasBit (generated_word new w) y k)
      → IsSummarySettled group paths new dirty_after (Step x y)
  step_settled x y old new dirty_after more keep make same preserved_added generated_added = elim (same x) [
    | inr woken ↦ inr (subst (IsMarked dirty_after) (sym woken.0) woken.1.itself)
    | inl still ↦ inl (λ w inside. (
      λ k low at_x has unkilled.
          preserved_added w k inside (keep w k inside low ∙ and_from (has_bit (preserved_word old w x) k) (not ((group.transfer w k).kill x y))
          (sym (ap (λ (s : Summary W). has_bit (get_or s.preserved w 0) k) still) ∙ has) (not_from_false ((group.transfer w k).kill x y) unkilled)),
      λ k low at_x either. generated_added w k inside (make w k inside low
          ∙ new_bit ((group.transfer w k).gen x y) (has_bit (generated_word old w x) k) (not ((group.transfer w k).kill x y)) (elim either [
            | inl gens ↦ inl gens
            | inr before ↦
                inr (
                  sym (ap (λ (s : Summary W). has_bit (get_or s.generated w 0) k) still) ∙ before.0,
                  not_from_false ((group.transfer w k).kill x y) before.1,
                )
          ])),
    ))
  ]

  -- a call whose bits were put, of all callees together, is settled
  pub call_settled : (site x y : ℕ) → IsEdge group.shape (Call site x y) → (old new : List (Summary W)) (dirty_after : List Bool) (through more : Summary W)
      → ((w k : ℕ) → w < group.width
      → has_bit (get_or more.preserved w 0) k ≡ (has_bit (preserved_word old w x) k && has_bit (get_or through.preserved w 0) k))
      → ((w k : ℕ) → w < group.width → has_bit (get_or more.generated w 0) k
      ≡ (has_bit (get_or through.generated w 0) k || (has_bit (generated_word old w x) k && has_bit (get_or through.preserved w 0) k)))
      → AreOfSomeCallee group paths (preserved_word old) x through.preserved → AreOfSomeCallee group paths (generated_word old) x through.generated
      → AreSameBut group.shape (after_site group.backward site) old new dirty_after
      → ((w k : ℕ) → w < group.width → has_bit (get_or more.preserved w 0) k ≡ true → HasBit (preserved_word new w) (after_site group.backward site) k)
      → ((w k : ℕ) → w < group.width → has_bit (get_or more.generated w 0) k ≡ true → HasBit (generated_word new w) (after_site group.backward site) k)
      → IsSummarySettled group paths new dirty_after (Call site x y)
  call_settled site x y there old new dirty_after through more keep make some_preserved some_generated same preserved_added generated_added =
      elim (same x) [
        | inr woken ↦ inr (subst (IsMarked dirty_after) (sym woken.0) woken.1.itself)
        | inl still ↦ elim (same (exit_of group.shape y)) [
          | inr woken ↦ inr (woken.1.callers x (site, y, there, woken.0))
          | inl left ↦ inl (λ w inside. (
            λ k low at_x at_exit has passes.
                preserved_added w k inside (keep w k inside ∙ and_from (has_bit (preserved_word old w x) k) (has_bit (get_or through.preserved w 0) k)
                (sym (ap (λ (s : Summary W). has_bit (get_or s.preserved w 0) k) still) ∙ has)
                ((some_preserved w k inside).1
                (site, y, there, at_exit, sym (ap (λ (s : Summary W). has_bit (get_or s.preserved w 0) k) left) ∙ passes))),
            λ k low at_x at_exit either. generated_added w k inside (make w k inside ∙ new_bit (has_bit (get_or through.generated w 0) k)
                (has_bit (generated_word old w x) k) (has_bit (get_or through.preserved w 0) k) (elim either [
                  | inl callee ↦ inl ((some_generated w k inside).1
                      (site, y, there, at_exit, sym (ap (λ (s : Summary W). has_bit (get_or s.generated w 0) k) left) ∙ callee))
                  | inr before ↦ inr (
                    sym (ap (λ (s : Summary W). has_bit (get_or s.generated w 0) k) still) ∙ before.0,
                    (some_preserved w k inside).1
                        (site, y, there, at_exit, sym (ap (λ (s : Summary W). has_bit (get_or s.preserved w 0) k) left) ∙ before.1),
                  )
                ])),
          ))
        ]
      ]

  -- the edges of a point without a path are settled
  pub settled_off_path : (edge : Edge) (table : List (Summary W)) (dirty : List Bool) → (IsFlagged paths (source_of edge) → ⊥)
      → IsSummarySettled group paths table dirty edge
  settled_off_path (Step x y) table dirty never =
      inl (λ w inside. (λ k low at_x has unkilled. absurd (never at_x), λ k low at_x either. absurd (never at_x)))
  settled_off_path (Call site x y) table dirty never =
      inl (λ w inside. (λ k low at_x at_exit has passes. absurd (never at_x), λ k low at_x at_exit either. absurd (never at_x)))
  settled_off_path (Ret site x y) table dirty never = inl (λ w inside. (tt, tt))

  -- the edges from a point are its steps, its calls and its returns, which are closed
  pub by_edges : (table : List (Summary W)) (dirty : List Bool) (at : ℕ)
      → ((y : ℕ) → IsEdge group.shape (Step at y) → IsSummarySettled group paths table dirty (Step at y))
      → ((site y : ℕ) → IsEdge group.shape (Call site at y) → IsSummarySettled group paths table dirty (Call site at y))
      → (edge : Edge) → IsEdge group.shape edge → source_of edge ≡ at → IsSummarySettled group paths table dirty edge
  by_edges table dirty at steps calls (Step x y) there same =
      subst (λ n. IsSummarySettled group paths table dirty (Step n y)) (sym same) (steps y (subst (λ n. IsEdge group.shape (Step n y)) same there))
  by_edges table dirty at steps calls (Call site x y) there same =
      subst (λ n. IsSummarySettled group paths table dirty (Call site n y)) (sym same)
      (calls site y (subst (λ n. IsEdge group.shape (Call site n y)) same there))
  by_edges table dirty at steps calls (Ret site x y) there same = inl (λ w inside. (tt, tt))

-- what a summary that is put does, where its point is marked
module _ {W : ℕ} (group : Group) (paths : List Bool) (table : List (Summary W)) (dirty dirty_after : List Bool) (at : ℕ)
    (before more after : Summary W) (within : at < length table)
    (read : before ≡ get_or table at before) (preserved : AreJoined group.width before.preserved more.preserved after.preserved)
    (generated : AreJoined group.width before.generated more.generated after.generated) where
  here : before ≡ summary_at table at
  here = read ∙ get_or_default table at before (record { preserved = []; generated = [] }) within

  here_preserved : AreJoined group.width (summary_at table at).preserved more.preserved after.preserved
  here_preserved = subst (λ (s : Summary W). AreJoined group.width s.preserved more.preserved after.preserved) here preserved

  here_generated : AreJoined group.width (summary_at table at).generated more.generated after.generated
  here_generated = subst (λ (s : Summary W). AreJoined group.width s.generated more.generated after.generated) here generated

  pub put_same : IsWoken group.shape dirty_after at → AreSameBut group.shape at table (set table at after) dirty_after
  put_same woken x = elim (cases_eq x at) [
    | inl same ↦ inr (same, woken)
    | inr other ↦ inl (unwritten group.width table at more after within here_preserved here_generated x other)
  ]

  pub put_spreads : length dirty_after ≡ length dirty → ((x : ℕ) → IsMarked dirty x → IsMarked dirty_after x) → IsWoken group.shape dirty_after at
      → room_of_summary after < room_of_summary before
      → AreOf group (IsPreserved group.shape) more.preserved at → AreOf group (IsGenerated group.shape) more.generated at
      → SummarySpreads group paths table dirty (set table at after) dirty_after
  put_spreads count keeps woken less are_preserved are_generated =
      let grows = put_grows group.width table at more after within here_preserved here_generated in
      record {
        count = count;
        grows = grows;
        settled = put_settled group paths table (set table at after) dirty dirty_after at grows keeps (put_same woken);
        progress = inr (put_less group.width table at more after within here_preserved here_generated
            (subst (λ (s : Summary W). room_of_summary after < room_of_summary s) here less));
        sound = put_sound group table at more after within here_preserved here_generated are_preserved are_generated;
      }

-- a summary of few words has a size
pub has_size : (W : ℕ) → W ≤ 8 → up 8 (up 8 (0 + W * 8) + W * 8) < 9223372036854775808
has_size W few = by_words W few
  where
    by_words : (n : ℕ) → n ≤ 8 → up 8 (up 8 (0 + n * 8) + n * 8) < 9223372036854775808
    by_words zero few = omega arith
    by_words (suc zero) few = omega arith
    by_words (suc (suc zero)) few = omega arith
    by_words (suc (suc (suc zero))) few = omega arith
    by_words (suc (suc (suc (suc zero)))) few = omega arith
    by_words (suc (suc (suc (suc (suc zero))))) few = omega arith
    by_words (suc (suc (suc (suc (suc (suc zero)))))) few = omega arith
    by_words (suc (suc (suc (suc (suc (suc (suc zero))))))) few = omega arith
    by_words (suc (suc (suc (suc (suc (suc (suc (suc zero)))))))) few = omega arith
    by_words (suc (suc (suc (suc (suc (suc (suc (suc (suc n))))))))) few = absurd (omega (arith, few))
