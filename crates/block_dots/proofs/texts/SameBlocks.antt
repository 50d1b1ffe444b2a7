-- The pictures of what the code's tables and answers tell are those of all that is known.
use Rattle.std.proofs.Common.{◌≡◌, ℕ, zero, suc, ◌+◌, ◌-◌, ◌<◌, ◌≤◌, Bool, true, false, ◌||◌, [], ◌++◌, length, map, flat_map, not, Option}
use Rattle.std.proofs.Common.{IfSome, if◌then◌else◌, codes, decimal, refl, ap, arith}
use Rattle.std.specs.List.{list_any, range_with_len}
use Rattle.flow_graph.specs.Paths.{target_of}
use Rattle.flow_graph.specs.Points.{point_count}
use Rattle.flow_graph.specs.declared.analysis.Analysis.{Analysis}
use Rattle.flow_reports.specs.Reports.{Knowledge, remark_text}
use Rattle.flow_reports.proofs.knowledge.KnownReports.{Agree, same_remarks, same_texts}
use Rattle.flow_texts.specs.Tables.{bit_text}
use Rattle.flow_views.specs.Dots.{head, label_line, label_title, look_of, text_if, title}
use Rattle.flow_views.specs.Views.{analysis_name, end_shown, first_shown, is_chosen, known_facts, labels_at, marks_at, shown_points}
use Rattle.flow_views.specs.code.ViewProgram.{TellSame}
use Rattle.flow_views.specs.declared.marks.PointMarks.{PointMarks}
use Rattle.flow_views.specs.declared.view.Chosen.{Chosen}
use Rattle.flow_views.specs.declared.view.Look.{Look}
use Rattle.flow_views.specs.declared.view.View.{View}
use Rattle.flow_views.proofs.facts.Behind.{next_shown, same_set_on}
use Rattle.flow_views.proofs.texts.SameTexts.{same_chosen, same_marks, same_shown_clusters, shown_below}
use Rattle.point_sets.specs.SetLines.{set_lines}
use Rattle.point_sets.specs.Sets.{has_behind, shown_bits}
use Rattle.point_sets.specs.declared.side.Side.TheVariants.{Behind}
use Rattle.tac_program.specs.Programs.{Program}
use Rattle.tac_program.specs.Sound.{IsSound}
use Rattle.block_dots.specs.Blocks.{block_end, block_last, block_points, is_leader}
use Rattle.block_dots.specs.BlockDots.{block_dot_of, block_legend, block_lines, block_marks, block_names, block_node, edge_lines}
use Rattle.block_dots.specs.BlockDots.{facts_in_lines, if_leader}
use Rattle.block_dots.specs.BlockDots.{label_text, lines_of, statement_lines}
use Rattle.block_dots.specs.BlockSets.{block_set, set_word, sets_of}
use Rattle.block_dots.specs.declared.block_set.BlockSet.{BlockSet}
use Rattle.block_dots.specs.declared.block_set.BlockSet.TheVariants.{Gen, In, Kill, Out}
use Rattle.block_dots.proofs.points.Bounds.{block_bounds, block_shown, last_behind}

-- whether any of a range passes the same test
pub same_any : (f g : ℕ → Bool) (first n : ℕ) → ((k : ℕ) → first ≤ k → k < first + n → f k ≡ g k)
    → list_any f (range_with_len first n) ≡ list_any g (range_with_len first n)
same_any f g first zero same = refl
same_any f g first (suc n) same =
    let here = same first (omega arith) (omega arith) in
    let rest = same_any f g (first + 1) n (λ k from to. same k (omega (arith, from)) (omega (arith, to))) in
    λ i. here i || rest i

module _ (program : Program) (sound : IsSound program) (one other : Knowledge) (agree : Agree program one other) (chosen : Chosen)
    (procedure : Option ℕ) (look : Look) (there : IfSome procedure (λ p. p < length program.procedures))
    (told : (analysis : Analysis) → is_chosen chosen analysis ≡ true → (point : ℕ)
    → (first_shown program procedure ≤ point) × (point < end_shown program procedure)
    → TellSame (known_facts one analysis) (known_facts other analysis) point) where
  abbrev view : View
  view = record { facts = chosen; procedure = procedure; look = look }

  module _ (leader : ℕ) (at : (first_shown program procedure ≤ leader) × (leader < end_shown program procedure)) where
    below : leader < point_count program
    below = shown_below program procedure there leader at

    bounds : leader < block_end program leader
    bounds = (block_bounds program leader below).0

    -- the points of its block are shown
    inside : (point : ℕ) → leader ≤ point → point < leader + (block_end program leader - leader)
        → (first_shown program procedure ≤ point) × (point < end_shown program procedure)
    inside point from to = block_shown program procedure there leader below at point from (omega (arith, to, bounds))

    same_statements : flat_map (statement_lines program one) (block_points program leader)
        ≡ flat_map (statement_lines program other) (block_points program leader)
    same_statements = same_texts (statement_lines program one) (statement_lines program other) leader (block_end program leader - leader)
        (λ point from to.
        ap (λ remarks. label_line (title program point) ++ flat_map (λ remark. label_line (remark_text program remark)) remarks)
        (same_remarks program sound one other agree point (shown_below program procedure there point (inside point from to))))

    marks_there : (point : ℕ) → leader ≤ point → point < leader + (block_end program leader - leader)
        → marks_at program one point ≡ marks_at program other point
    marks_there point from to = same_marks program sound one other agree chosen procedure look there told point (inside point from to)

    any_marked : (mark : PointMarks → Bool) → list_any (λ point. mark (marks_at program one point)) (block_points program leader)
        ≡ list_any (λ point. mark (marks_at program other point)) (block_points program leader)
    any_marked mark = same_any (λ point. mark (marks_at program one point)) (λ point. mark (marks_at program other point)) leader
        (block_end program leader - leader) (λ point from to. ap mark (marks_there point from to))

    same_block_marks : block_marks program one leader ≡ block_marks program other leader
    same_block_marks =
        let first = marks_there leader (omega arith) (omega (arith, bounds)) in
        let unset = any_marked (λ marks. marks.unset) in
        let dead = any_marked (λ marks. marks.dead) in
        let doubtful = any_marked (λ marks. marks.doubtful) in
        λ i. record { reached = (first i).reached; unset = unset i; dead = dead i; doubtful = doubtful i }

    -- the sets of an analysis
    same_block_set : (analysis : Analysis) → is_chosen chosen analysis ≡ true → (set : BlockSet)
        → (set ≡ Out → has_behind program leader ≡ true)
        → block_set set program analysis (known_facts one analysis) leader ≡ block_set set program analysis (known_facts other analysis) leader
    same_block_set analysis is Gen behind = refl
    same_block_set analysis is Kill behind = refl
    same_block_set analysis is In behind = (told analysis is leader at).set
    same_block_set analysis is Out behind =
        let last : ℕ = block_last program leader in
        let last_at = inside last (omega (arith, bounds)) (omega (arith, bounds)) in
        same_set_on program (known_facts one analysis) (known_facts other analysis) last (told analysis is last last_at) analysis Behind
        (λ _ edge leads. told analysis is (target_of edge)
        (next_shown program sound procedure there last (shown_below program procedure there last last_at) last_at
        (last_behind program leader below (behind refl)) edge leads))

    same_lines_of : (analysis : Analysis) → is_chosen chosen analysis ≡ true → (set : BlockSet)
        → (set ≡ Out → has_behind program leader ≡ true)
        → lines_of program one view leader analysis set ≡ lines_of program other view leader analysis set
    same_lines_of analysis is set behind =
        ap (λ bits. set_lines (analysis_name analysis ++ set_word set)
        (map (bit_text program analysis) (shown_bits program analysis look.hides_entry bits)))
        (same_block_set analysis is set behind)

    same_sets_of : (analysis : Analysis) → is_chosen chosen analysis ≡ true → (b : Bool) → has_behind program leader ≡ b
        → flat_map (lines_of program one view leader analysis) (sets_of b) ≡ flat_map (lines_of program other view leader analysis) (sets_of b)
    same_sets_of analysis is true behind =
        let gen = same_lines_of analysis is Gen (λ _. behind) in
        let kill = same_lines_of analysis is Kill (λ _. behind) in
        let first = same_lines_of analysis is In (λ _. behind) in
        let last = same_lines_of analysis is Out (λ _. behind) in
        λ i. gen i ++ (kill i ++ (first i ++ (last i ++ [])))
    same_sets_of analysis is false behind =
        let first = same_lines_of analysis is In (λ same. absurd (cc same)) in
        λ i. first i ++ []

    same_facts : facts_in_lines program one view leader ≡ facts_in_lines program other view leader
    same_facts =
        same_chosen (λ analysis. flat_map label_line (block_lines program one view leader analysis))
        (λ analysis. flat_map label_line (block_lines program other view leader analysis)) chosen
        (λ analysis is. ap (flat_map label_line) (same_sets_of analysis is (has_behind program leader) refl))

    same_label : label_text program one view leader ≡ label_text program other view leader
    same_label = λ i.
        flat_map (λ label. label_line (label_title program leader label)) (labels_at program leader)
        ++ same_statements i ++ text_if (not look.hovers) (same_facts i)

    same_node : block_node program one view leader ≡ block_node program other view leader
    same_node = λ i.
        codes "    " ++ decimal leader
        ++ (block_names leader (same_block_marks i) ++ same_label i ++ codes "\""
        ++ text_if look.hovers (codes ", tooltip=\"" ++ same_facts i ++ codes "\"") ++ look_of (same_block_marks i) ++ codes "];\n")

    same_if_leader : if_leader program (block_node program one view) leader ≡ if_leader program (block_node program other view) leader
    same_if_leader = ap (λ text. if is_leader program leader then text else []) same_node

  pub same_block_dot : block_dot_of program one view ≡ block_dot_of program other view
  same_block_dot =
      ap (λ clusters. head ++ clusters ++ flat_map (if_leader program (edge_lines program view)) (shown_points program view)
      ++ text_if look.legend block_legend ++ codes "}\n")
      (same_shown_clusters program sound procedure there (if_leader program (block_node program one view))
      (if_leader program (block_node program other view)) same_if_leader)
