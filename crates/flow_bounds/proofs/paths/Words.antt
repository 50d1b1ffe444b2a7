-- Words on ways and branches tell of a bit what follows on valid paths
use Rattle.std.proofs.Common.{◌≡◌, ◌<◌, ◌≤◌, ◌+◌, ℕ, Bool, true, false, not, ◌&&◌, ◌||◌, List, [], ◌∷◌, ◌++◌, length, slice_index, slice_index_or, inl, inr, refl, sym, ap, subst, ◌∙◌, arith}
use Rattle.std.proofs.Math.ListN.{get_or-append}
use Rattle.std.proofs.Math.Seq.{get_or-append_seam}
use Rattle.std.proofs.lemmas.List.{length-append}
use Rattle.std.proofs.lemmas.Bool.{and_parts, cases_lt, or_cases}
use Rattle.std.proofs.lemmas.Option.{slice_get-get_or}
use Rattle.bit_rows.specs.Words.{has_bit}
use Rattle.bit_rows.proofs.words.WordBits.{has_bit-zero}
use Rattle.flow_graph.specs.Paths.{IsEdge, Shape, Transfer}
use Rattle.flow_graph.specs.Points.{point_count}
use Rattle.flow_graph.specs.declared.edge.Edge.TheVariants.{Step}
use Rattle.summary_equations.specs.Equations.{Brought, Entered, Generated, Preserved, Reached}
use Rattle.summary_equations.specs.Equations.{brought_by_boundary, brought_where_generated, brought_where_preserved, generated_before_call}
use Rattle.summary_equations.specs.Equations.{generated_before_step, generated_by_callee, generated_by_step, preserved_at_entry, preserved_by_call}
use Rattle.summary_equations.specs.Equations.{preserved_by_step}
use Rattle.flow_regions.specs.code.Ways.{AreWays, IsHang, IsHop, IsTree, begins, by_call, by_site, by_step, is_root, point_in, procedure_in}
use Rattle.flow_regions.specs.declared.way.Branch.{Branch}
use Rattle.flow_regions.specs.declared.way.Hang.{Hang}
use Rattle.flow_regions.specs.declared.way.Hang.TheVariants.{Root, Call}
use Rattle.flow_regions.specs.declared.way.Hop.{Hop}
use Rattle.flow_regions.specs.declared.way.Hop.TheVariants.{Begins, Passes, Steps}
use Rattle.flow_regions.specs.declared.way.Way.{Way}
use Rattle.flow_regions.proofs.witnesses.Reaching.{branch_is_entered, called, site_of, way_is_reached}
use Rattle.flow_bounds.specs.Clauses.{shape_in}
use Rattle.flow_bounds.specs.code.Exact.{AreBranchWords, AreWayWords, AreWordsAt, IsBroughtWord, IsExact}
use Rattle.flow_bounds.specs.code.Frames.{IsFrame}
use Rattle.flow_bounds.specs.declared.frame.Frame.{Frame}

not_true : (b : Bool) → not b ≡ true → b ≡ false
not_true true is = absurd (cc is)
not_true false is = refl

no_bit : (k : ℕ) → has_bit 0 k ≡ true → ⊥
no_bit k has = cc (sym (has_bit-zero k) ∙ has)

-- words one behind the other
pub words_more : (xs : List ℕ) (x j : ℕ) → j < length xs → slice_index (xs ++ x ∷ []) j ≡ slice_index xs j
words_more xs x j low = get_or-append xs (x ∷ []) 0 j low

last_word : (xs : List ℕ) (x n : ℕ) → length xs ≡ n → slice_index (xs ++ x ∷ []) n ≡ x
last_word xs x n size = ap (slice_index (xs ++ x ∷ [])) (sym size) ∙ get_or-append_seam xs x [] 0

module _ (frame : Frame) (is_frame : IsFrame frame) (ways : List Way) (are : AreWays frame.links.now ways) where
  abbrev shape : Shape
  shape = shape_in frame

  reached : (i : ℕ) → i < length ways → Reached shape (point_in ways i)
  reached = way_is_reached frame.links.now (point_count frame.links.now.program) is_frame.numbered ways are

  -- how a way is reached
  pub hop_here : (i : ℕ) → i < length ways → (hop : Hop) → (slice_index_or ways i (record { point = 0; hop = Begins })).hop ≡ hop
      → IsHop frame.links.now ways i (point_in ways i) hop
  hop_here i low hop is =
      subst (IsHop frame.links.now ways i (point_in ways i)) is (are i _ (slice_get-get_or ways i (record { point = 0; hop = Begins }) low))

  pub step_there : (number x j : ℕ) → IsHop frame.links.now ways number x (Steps j) → IsEdge shape (Step (point_in ways j) x)
  step_there number x j (by_step _ before edge) = edge

  pub begun : (number x made : ℕ) → IsHop frame.links.now ways number x Begins → made ≡ 0 → (kept : ℕ) → AreWordsAt frame x kept made
  begun number x made (begins p there entry) none kept = λ transfer bit small exact. record {
    preserved = λ _. subst (Preserved shape transfer.kill) entry (preserved_at_entry p there);
    generated = λ has. absurd (no_bit bit (subst (λ w. has_bit w bit ≡ true) none has));
  }

  module _ (number : ℕ) (low : number ≤ length ways) (kept made : List ℕ) (words : AreWayWords frame ways number kept made) where
    pub behind_step : (x j new_kept new_made : ℕ) → IsHop frame.links.now ways number x (Steps j)
        → ((transfer : Transfer) (bit : ℕ) → bit < 64 → IsExact frame transfer bit
        → has_bit new_kept bit ≡ (has_bit (slice_index kept j) bit && not (transfer.kill (point_in ways j) x)))
        → ((transfer : Transfer) (bit : ℕ) → bit < 64 → IsExact frame transfer bit → has_bit new_made bit
        ≡ (transfer.gen (point_in ways j) x || (has_bit (slice_index made j) bit && not (transfer.kill (point_in ways j) x))))
        → AreWordsAt frame x new_kept new_made
    behind_step x j new_kept new_made (by_step _ before edge) keeps makes = λ transfer bit small exact.
        let at_j = reached j (omega (arith, before, low)) in
        let told = words.each j before transfer bit small exact in
        record {
          preserved = λ has.
              let parts = and_parts _ _ (sym (keeps transfer bit small exact) ∙ has) in
              preserved_by_step (point_in ways j) x edge at_j (told.preserved parts.0) (not_true _ parts.1);
          generated = λ has. elim (or_cases _ _ (sym (makes transfer bit small exact) ∙ has)) [
            | inl gens ↦ generated_by_step (point_in ways j) x edge at_j gens
            | inr carries ↦
                let parts = and_parts _ _ carries in
                generated_before_step (point_in ways j) x edge at_j (told.generated parts.0) (not_true _ parts.1)
          ];
        }

    pub behind_call : (x j e new_kept new_made : ℕ) → IsHop frame.links.now ways number x (Passes j e)
        → ((bit : ℕ) → has_bit new_kept bit ≡ (has_bit (slice_index kept j) bit && has_bit (slice_index kept e) bit))
        → ((bit : ℕ) → has_bit new_made bit
        ≡ (has_bit (slice_index made e) bit || (has_bit (slice_index made j) bit && has_bit (slice_index kept e) bit)))
        → AreWordsAt frame x new_kept new_made
    behind_call x j e new_kept new_made (by_call _ _ before exit call) keeps makes = λ transfer bit small exact.
        let is = called frame.links.now (point_count frame.links.now.program) is_frame.numbered (point_in ways j)
        (record { exit = point_in ways e; after = x }) call in
        let at_j = reached j (omega (arith, before, low)) in
        let at_exit = subst (λ y. Reached shape y) is.exit_is (reached e (omega (arith, exit, low))) in
        let told = words.each j before transfer bit small exact in
        let through = words.each e exit transfer bit small exact in
        record {
          preserved = λ has.
              let parts = and_parts _ _ (sym (keeps bit) ∙ has) in
              preserved_by_call is.site (point_in ways j) is.callee x is.call is.return at_j at_exit (told.preserved parts.0)
              (subst (Preserved shape transfer.kill) is.exit_is (through.preserved parts.1));
          generated = λ has. elim (or_cases _ _ (sym (makes bit) ∙ has)) [
            | inl callee ↦
                generated_by_callee is.site (point_in ways j) is.callee x is.call is.return at_j at_exit
                (subst (Generated shape transfer) is.exit_is (through.generated callee))
            | inr carries ↦
                let parts = and_parts _ _ carries in
                generated_before_call is.site (point_in ways j) is.callee x is.call is.return at_j at_exit (told.generated parts.0)
                (subst (Preserved shape transfer.kill) is.exit_is (through.preserved parts.1))
          ];
        }

  -- one way more
  pub way_words_more : (number : ℕ) (kept made : List ℕ) (new_kept new_made : ℕ) → AreWayWords frame ways number kept made
      → AreWordsAt frame (point_in ways number) new_kept new_made
      → AreWayWords frame ways (number + 1) (kept ++ new_kept ∷ []) (made ++ new_made ∷ [])
  way_words_more number kept made new_kept new_made words at = record {
    kept_count = omega (arith, length-append kept (new_kept ∷ []), words.kept_count);
    made_count = omega (arith, length-append made (new_made ∷ []), words.made_count);
    each = λ j low. elim (cases_lt j number) [
      | inl less ↦
          let before = words.each j less in
          let one = words_more kept new_kept j (omega (arith, less, words.kept_count)) in
          let two = words_more made new_made j (omega (arith, less, words.made_count)) in
          subst (λ w. AreWordsAt frame (point_in ways j) w (slice_index (made ++ new_made ∷ []) j)) (sym one)
          (subst (λ w. AreWordsAt frame (point_in ways j) (slice_index kept j) w) (sym two) before)
      | inr past ↦
          let same : j ≡ number = omega (arith, past, low) in
          subst (λ i. AreWordsAt frame (point_in ways i) (slice_index (kept ++ new_kept ∷ []) i) (slice_index (made ++ new_made ∷ []) i)) (sym same)
          (subst (λ w. AreWordsAt frame (point_in ways number) w (slice_index (made ++ new_made ∷ []) number))
          (sym (last_word kept new_kept number words.kept_count))
          (subst (λ w. AreWordsAt frame (point_in ways number) new_kept w) (sym (last_word made new_made number words.made_count)) at))
    ];
  }

  module _ (tree : List Branch) (is_tree : IsTree frame.links.now ways tree) (kept made : List ℕ)
      (words : AreWayWords frame ways (length ways) kept made) where
    entered : (i : ℕ) → i < length tree → Entered shape (procedure_in tree i)
    entered = branch_is_entered frame.links.now (point_count frame.links.now.program) is_frame.numbered ways are tree is_tree

    -- how a branch is entered
    pub hang_here : (i : ℕ) → i < length tree → (hang : Hang) → (slice_index_or tree i (record { procedure = 0; hang = Root })).hang ≡ hang
        → IsHang frame.links.now ways tree i (procedure_in tree i) hang
    hang_here i low hang is =
        subst (IsHang frame.links.now ways tree i (procedure_in tree i)) is
        (is_tree i _ (slice_get-get_or tree i (record { procedure = 0; hang = Root }) low))

    pub at_root : (number p : ℕ) → IsHang frame.links.now ways tree number p Root → IsBroughtWord frame p frame.boundary
    at_root number p (is_root same) = λ transfer bit small exact has.
        subst (Brought shape transfer) (sym same) (brought_by_boundary (exact.boundary ∙ has))

    pub at_call : (number p j w word : ℕ) (branches : List ℕ) → number ≤ length tree → AreBranchWords frame tree number branches
        → IsHang frame.links.now ways tree number p (Call j w)
        → ((bit : ℕ) → has_bit word bit
        ≡ (has_bit (slice_index made w) bit || (has_bit (slice_index branches j) bit && has_bit (slice_index kept w) bit)))
        → IsBroughtWord frame p word
    at_call number p j w word branches low before (by_site _ _ less way site) is_word = λ transfer bit small exact has.
        let is = site_of frame.links.now (point_count frame.links.now.program) is_frame.numbered (procedure_in tree j)
        (record { point = point_in ways w; callee = p }) site in
        let in_it = subst (Entered shape) (sym is.in_it) (entered j (omega (arith, less, low))) in
        let told = words.each w way transfer bit small exact in
        elim (or_cases _ _ (sym (is_word bit) ∙ has)) [
          | inl makes ↦ brought_where_generated is.site (point_in ways w) p is.call in_it (reached w way) (told.generated makes)
          | inr brings ↦
              let parts = and_parts _ _ brings in
              brought_where_preserved is.site (point_in ways w) p is.call in_it (reached w way)
              (subst (Brought shape transfer) (sym is.in_it) (before.each j less transfer bit small exact parts.0)) (told.preserved parts.1)
        ]

  pub branch_entered : (tree : List Branch) → IsTree frame.links.now ways tree → (i : ℕ) → i < length tree → Entered shape (procedure_in tree i)
  branch_entered tree is_tree = branch_is_entered frame.links.now (point_count frame.links.now.program) is_frame.numbered ways are tree is_tree

  -- one branch more
  pub branch_words_more : (tree : List Branch) (number word : ℕ) (branches : List ℕ) → AreBranchWords frame tree number branches
      → IsBroughtWord frame (procedure_in tree number) word → AreBranchWords frame tree (number + 1) (branches ++ word ∷ [])
  branch_words_more tree number word branches before at = record {
    count = omega (arith, length-append branches (word ∷ []), before.count);
    each = λ j low. elim (cases_lt j number) [
      | inl less ↦
          subst (λ v. IsBroughtWord frame (procedure_in tree j) v) (sym (words_more branches word j (omega (arith, less, before.count))))
          (before.each j less)
      | inr past ↦
          let same : j ≡ number = omega (arith, past, low) in
          subst (λ i. IsBroughtWord frame (procedure_in tree i) (slice_index (branches ++ word ∷ []) i)) (sym same)
          (subst (λ v. IsBroughtWord frame (procedure_in tree number) v) (sym (last_word branches word number before.count)) at)
    ];
  }
