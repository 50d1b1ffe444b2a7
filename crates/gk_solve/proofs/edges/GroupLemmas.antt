-- What a group's frame says of one edge
use Rattle.std.proofs.Common.{◌≡◌, ◌<◌, ◌+◌, ◌*◌, inl, inr, ◌&&◌, ◌||◌, not, length, get_or, false, true, Bool, ℕ, List, [], sym, ◌∙◌, subst, ap}
use Rattle.std.proofs.lemmas.Bool.{and_parts}
use Rattle.std.proofs.lemmas.List.{get_or_default}
use Rattle.bit_rows.specs.Words.{has_bit}
use Rattle.flow_graph.specs.declared.edge.Edge.TheVariants.{Step, Call}
use Rattle.flow_graph.specs.Paths.{IsEdge}
use Rattle.flow_graph.specs.Points.{point_count}
use Rattle.summary_equations.specs.Equations.{HasFlag}
use Rattle.flow_links.specs.Shapes.{LinkedProgram, after_site, directed_shape}
use Rattle.flow_links.specs.LinkLists.{IsCallLink, IsSiteLink}
use Rattle.gk_solve.specs.Tables.Brought.{AreBroughtOf, AreSoundBrought, brought_word}
use Rattle.gk_solve.specs.Tables.Flags.{IsFlagged}
use Rattle.gk_solve.specs.Tables.Groups.{AreOf, AreOfSomeCallee, AreSameBut, AreSoundSummaries, IsGroupFrame, IsPreservedAcross, IsGeneratedAcross}
use Rattle.gk_solve.specs.Tables.Groups.{IsSummarySettled}
use Rattle.gk_solve.specs.Tables.Groups.{group_of, preserved_word, generated_word, summary_at}
use Rattle.gk_solve.specs.Tables.Words.{HasBit, IsBrought, IsPreserved, IsGenerated, place_gens, place_kills, step_statement}
use Rattle.gk_solve.specs.declared.group_frame.GroupFrame.{GroupFrame}
use Rattle.flow_links.specs.declared.link.CallLink.{CallLink}
use Rattle.flow_links.specs.declared.link.SiteLink.{SiteLink}
use Rattle.gk_solve.specs.declared.summary.Summary.{Summary}
use Rattle.gk_solve.proofs.visits.SummaryVisits.{call_settled}
use Rattle.gk_solve.proofs.edges.WordEdges.{step_keeps, step_makes, call_brings, call_keeps, call_makes, which_bit}

-- a summary that was read
pub read_summary : {W : ℕ} (table : List (Summary W)) (at : ℕ) (before : Summary W) → at < length table → before ≡ get_or table at before
    → before ≡ summary_at table at
read_summary table at before within read = read ∙ get_or_default table at before (record { preserved = []; generated = [] }) within

module _ (width : ℕ) (frame : GroupFrame) (is : IsGroupFrame width frame) where
  pub same_points : point_count frame.links.now.program ≡ point_count frame.problem.now.program
  same_points = ap (λ (linked : LinkedProgram). point_count linked.program) is.direction

  pub statement_low : (at to point : ℕ) → IsEdge (directed_shape frame.links.now) (Step at to) → point ≡ step_statement frame.links.now.backward at to
      → point < point_count frame.problem.now.program
  statement_low at to point there point_is =
      let ends = is.numbered.edge_in_range (Step at to) there in
      subst (λ n. point < n) same_points
      (subst (λ n. n < point_count frame.links.now.program) (sym point_is) (either_end frame.links.now.backward ends.0 ends.1))
    where
      either_end : (b : Bool) → at < point_count frame.links.now.program → to < point_count frame.links.now.program
          → step_statement b at to < point_count frame.links.now.program
      either_end true first second = second
      either_end false first second = first

  pub flag_of : (x : ℕ) → IsFlagged frame.paths.now x → HasFlag (directed_shape frame.links.now) x
  flag_of x flagged = (is.paths x).0 flagged

  -- the step of a point's statement
  module _ {W : ℕ} (table : List (Summary W)) (sound : AreSoundSummaries (group_of frame width) table) (at to point : ℕ)
      (there : IsEdge (directed_shape frame.links.now) (Step at to))
      (point_is : point ≡ step_statement frame.links.now.backward at to) (path : IsFlagged frame.paths.now at) (within : at < length table)
      (before more : Summary W) (read : before ≡ get_or table at before)
      (preserved : (w k : ℕ) → w < width → k < 64 → has_bit (get_or more.preserved w 0) k
      ≡ (has_bit (get_or before.preserved w 0) k && not (place_kills frame.problem.now point (64 * (frame.first + w) + k))))
      (generated : (w k : ℕ) → w < width → k < 64 → has_bit (get_or more.generated w 0) k
      ≡ (place_gens frame.problem.now point (64 * (frame.first + w) + k)
      || (has_bit (get_or before.generated w 0) k && not (place_kills frame.problem.now point (64 * (frame.first + w) + k))))) where
    pub step_preserved : IsPreservedAcross (group_of frame width) at to (summary_at table at).preserved more.preserved
    step_preserved = subst (λ (s : Summary W). IsPreservedAcross (group_of frame width) at to s.preserved more.preserved) (read_summary table at before within read)
        (λ w k inside low. preserved w k inside low
        ∙ ap (λ n. has_bit (get_or before.preserved w 0) k && not (place_kills frame.problem.now n (64 * (frame.first + w) + k))) point_is)

    pub step_generated : IsGeneratedAcross (group_of frame width) at to (summary_at table at).generated more.generated
    step_generated = subst (λ (s : Summary W). IsGeneratedAcross (group_of frame width) at to s.generated more.generated) (read_summary table at before within read)
        (λ w k inside low. generated w k inside low
        ∙ ap (λ n. place_gens frame.problem.now n (64 * (frame.first + w) + k)
        || (has_bit (get_or before.generated w 0) k && not (place_kills frame.problem.now n (64 * (frame.first + w) + k)))) point_is)

    pub step_keeps_of : AreOf (group_of frame width) (IsPreserved (directed_shape frame.links.now)) more.preserved to
    step_keeps_of w k inside low has =
        step_keeps is.numbered ((group_of frame width).transfer w) at to there (flag_of at path).1 (preserved_word table w) (get_or more.preserved w 0) k low
        (step_preserved w k inside low) (sound w inside).0 has

    pub step_makes_of : AreOf (group_of frame width) (IsGenerated (directed_shape frame.links.now)) more.generated to
    step_makes_of w k inside low has =
        step_makes is.numbered ((group_of frame width).transfer w) at to there (flag_of at path).1 (generated_word table w) (get_or more.generated w 0) k low
        (step_generated w k inside low) (sound w inside).1 has

  abbrev exit_of : ℕ → ℕ
  exit_of y = (directed_shape frame.links.now).exit ((directed_shape frame.links.now).procedure_of y)

  -- the calls from a point
  module _ {W : ℕ} (table : List (Summary W)) (sound : AreSoundSummaries (group_of frame width) table) (at : ℕ) (path : IsFlagged frame.paths.now at)
      (through : Summary W) (some_preserved : AreOfSomeCallee (group_of frame width) frame.paths.now (preserved_word table) at through.preserved)
      (some_generated : AreOfSomeCallee (group_of frame width) frame.paths.now (generated_word table) at through.generated) (within : at < length table)
      (before : Summary W) (read : before ≡ get_or table at before) (preserved generated : List ℕ)
      (are_preserved : (w k : ℕ) → w < width → has_bit (get_or preserved w 0) k ≡ (has_bit (get_or before.preserved w 0) k && has_bit (get_or through.preserved w 0) k))
      (are_generated : (w k : ℕ) → w < width → has_bit (get_or generated w 0) k
      ≡ (has_bit (get_or through.generated w 0) k || (has_bit (get_or before.generated w 0) k && has_bit (get_or through.preserved w 0) k)))
      (link : CallLink) (there : IsCallLink (directed_shape frame.links.now) frame.links.now.backward at link) where
    pub after_is : (site y : ℕ) → IsEdge (directed_shape frame.links.now) (Call site at y) → link.after ≡ after_site frame.links.now.backward site
    after_is site y edge = there.4 ∙ ap (after_site frame.links.now.backward)
        (is.numbered.one_site there.0 at there.1 there.2 ∙ sym (is.numbered.one_site site at y edge))

    pub preserved_is : (w k : ℕ) → w < width
        → has_bit (get_or preserved w 0) k ≡ (has_bit (preserved_word table w at) k && has_bit (get_or through.preserved w 0) k)
    preserved_is w k inside = are_preserved w k inside
        ∙ ap (λ (s : Summary W). has_bit (get_or s.preserved w 0) k && has_bit (get_or through.preserved w 0) k) (read_summary table at before within read)

    pub generated_is : (w k : ℕ) → w < width → has_bit (get_or generated w 0) k
        ≡ (has_bit (get_or through.generated w 0) k || (has_bit (generated_word table w at) k && has_bit (get_or through.preserved w 0) k))
    generated_is w k inside = are_generated w k inside
        ∙ ap (λ (s : Summary W). has_bit (get_or through.generated w 0) k || (has_bit (get_or s.generated w 0) k && has_bit (get_or through.preserved w 0) k))
        (read_summary table at before within read)

    pub call_keeps_of : AreOf (group_of frame width) (IsPreserved (directed_shape frame.links.now)) preserved link.after
    call_keeps_of w k inside low has =
        let parts = and_parts (has_bit (preserved_word table w at) k) (has_bit (get_or through.preserved w 0) k) (sym (preserved_is w k inside) ∙ has) in
        let (site, y, edge, flagged, passes) = (some_preserved w k inside).0 parts.1 in
        subst (IsPreserved (directed_shape frame.links.now) ((group_of frame width).transfer w) k) (sym (after_is site y edge))
        (call_keeps is.numbered ((group_of frame width).transfer w) site at y k edge (flag_of at path).1 (flag_of (exit_of y) flagged).1
        ((sound w inside).0 at k low parts.0) ((sound w inside).0 (exit_of y) k low passes))

    pub call_makes_of : AreOf (group_of frame width) (IsGenerated (directed_shape frame.links.now)) generated link.after
    call_makes_of w k inside low has =
        elim (which_bit (has_bit (get_or through.generated w 0) k) (has_bit (generated_word table w at) k) (has_bit (get_or through.preserved w 0) k)
        (sym (generated_is w k inside) ∙ has)) [
          | inl callee ↦
              let (site, y, edge, flagged, makes) = (some_generated w k inside).0 callee in
              subst (IsGenerated (directed_shape frame.links.now) ((group_of frame width).transfer w) k) (sym (after_is site y edge))
              (call_makes is.numbered ((group_of frame width).transfer w) site at y k edge (flag_of at path).1 (flag_of (exit_of y) flagged).1
              (inl ((sound w inside).1 (exit_of y) k low makes)))
          | inr passed ↦
              let (site, y, edge, flagged, passes) = (some_preserved w k inside).0 passed.1 in
              subst (IsGenerated (directed_shape frame.links.now) ((group_of frame width).transfer w) k) (sym (after_is site y edge))
              (call_makes is.numbered ((group_of frame width).transfer w) site at y k edge (flag_of at path).1 (flag_of (exit_of y) flagged).1
              (inr ((sound w inside).1 at k low passed.0, (sound w inside).0 (exit_of y) k low passes)))
        ]

    pub calls_settled_of : (new : List (Summary W)) (dirty_after : List Bool) → AreSameBut (directed_shape frame.links.now) link.after table new dirty_after
        → ((w k : ℕ) → w < width → has_bit (get_or preserved w 0) k ≡ true → HasBit (preserved_word new w) link.after k)
        → ((w k : ℕ) → w < width → has_bit (get_or generated w 0) k ≡ true → HasBit (generated_word new w) link.after k)
        → (site y : ℕ) → IsEdge (directed_shape frame.links.now) (Call site at y)
        → IsSummarySettled (group_of frame width) frame.paths.now new dirty_after (Call site at y)
    calls_settled_of new dirty_after same preserved_added generated_added site y edge =
        call_settled (group_of frame width) frame.paths.now site at y edge table new dirty_after through
        (record { preserved = preserved; generated = generated }) preserved_is generated_is some_preserved some_generated
        (subst (λ n. AreSameBut (directed_shape frame.links.now) n table new dirty_after) (after_is site y edge) same)
        (λ w k inside has. subst (λ n. HasBit (preserved_word new w) n k) (after_is site y edge) (preserved_added w k inside has))
        (λ w k inside has. subst (λ n. HasBit (generated_word new w) n k) (after_is site y edge) (generated_added w k inside has))

  -- what a call brings from its procedure
  module _ {W : ℕ} (summaries : List (Summary W)) (brought : List (List ℕ)) (procedure : ℕ) (link : SiteLink)
      (inside : (directed_shape frame.links.now).procedure_of link.point ≡ procedure)
      (point_within : link.point < length summaries) (procedure_within : procedure < length brought) (here : Summary W) (row : List ℕ)
      (read : here ≡ get_or summaries link.point here) (read_row : row ≡ get_or brought procedure row)
      (more : List ℕ) (are : (w k : ℕ) → w < width → has_bit (get_or more w 0) k
      ≡ (has_bit (get_or here.generated w 0) k || (has_bit (get_or row w 0) k && has_bit (get_or here.preserved w 0) k))) where
    pub brings_bits : (w k : ℕ) → w < width
        → has_bit (get_or more w 0) k ≡ (has_bit (generated_word summaries w link.point) k
        || (has_bit (brought_word brought w procedure) k && has_bit (preserved_word summaries w link.point) k))
    brings_bits w k below = are w k below
        ∙ (ap (λ (s : Summary W). has_bit (get_or s.generated w 0) k || (has_bit (get_or row w 0) k && has_bit (get_or s.preserved w 0) k))
        (read_summary summaries link.point here point_within read)
        ∙ ap (λ (r : List ℕ). has_bit (generated_word summaries w link.point) k || (has_bit (get_or r w 0) k
        && has_bit (preserved_word summaries w link.point) k)) (read_row ∙ get_or_default brought procedure row [] procedure_within))

    pub brings_of : IsSiteLink (directed_shape frame.links.now) procedure link → IsFlagged frame.paths.now link.point
        → AreSoundSummaries (group_of frame width) summaries → AreSoundBrought (group_of frame width) brought
        → AreBroughtOf (group_of frame width) more link.callee
    brings_of there path sound brought_sound w k below low has =
        subst (IsBrought (directed_shape frame.links.now) ((group_of frame width).transfer w) k) (sym there.4)
        (call_brings is.numbered ((group_of frame width).transfer w) there.0 link.point there.1 there.2 (flag_of link.point path)
        (preserved_word summaries w) (generated_word summaries w) (brought_word brought w) (get_or more w 0) k low
        (brings_bits w k below ∙ ap (λ n. has_bit (generated_word summaries w link.point) k
        || (has_bit (brought_word brought w n) k && has_bit (preserved_word summaries w link.point) k)) (sym inside))
        ((sound w below).0 link.point k low) ((sound w below).1 link.point k low) (brought_sound w below) has)
