-- The texts of what the code's tables and answers tell are those of all that is known.
use Rattle.std.proofs.Common.{◌≡◌, ◌∙◌, ℕ, zero, suc, ◌+◌, ◌-◌, ◌<◌, ◌≤◌, Bool, true, false, List, [], ◌∷◌, ◌++◌, length, map, flat_map}
use Rattle.std.proofs.Common.{◌&&◌, not, Contains, Option, Some, None, IfSome, cond, if◌then◌else◌, codes, decimal, refl, sym, ap, subst, arith}
use Rattle.std.specs.List.{filter, range_with_len}
use Rattle.std.proofs.lemmas.Grind.{flat_map-append}
use Rattle.flow_graph.specs.Analyses.{main_procedure}
use Rattle.flow_graph.specs.Edges.{edges_from}
use Rattle.flow_graph.specs.Points.{end_place, entry_point, place_of, point_count, procedure_at}
use Rattle.flow_graph.specs.Universes.{bits}
use Rattle.flow_graph.specs.declared.analysis.Analysis.{Analysis}
use Rattle.flow_graph.specs.declared.analysis.TheConstants.Analysis as all
use Rattle.flow_reports.specs.Reports.{Knowledge, remark_text, remarks_at}
use Rattle.flow_reports.specs.declared.remark.Remark.{Remark}
use Rattle.flow_texts.specs.Tables.{bit_text}
use Rattle.flow_graph.specs.Paths.{target_of}
use Rattle.flow_graph.proofs.lists.Membership.{Contains-first, Contains-later, Contains-one}
use Rattle.point_sets.specs.SetLines.{set_lines}
use Rattle.point_sets.specs.Sets.{has_behind, set_on, shown_bits, side_text}
use Rattle.point_sets.specs.declared.side.Side.{Side}
use Rattle.point_sets.specs.declared.side.Side.TheVariants.{Before, Behind}
use Rattle.std.proofs.lemmas.Bool.{and_parts}
use Rattle.flow_reports.proofs.knowledge.KnownReports.{Agree, same_dead, same_remarks, same_texts, same_unset}
use Rattle.flow_graph.proofs.graphs.GraphLaws.{graphs_are_well_formed}
use Rattle.tac_program.specs.Programs.{Program}
use Rattle.tac_program.specs.Sound.{IsSound}
use Rattle.flow_views.specs.Dots.{all_clusters_of, behind_if, both_changed, cluster_of, dot_of, edge_lines, fact_lines, facts_in_lines, head, label_line, label_text, label_title}
use Rattle.flow_views.specs.Dots.{legend, look_of, node, node_names, open_dot, shown_clusters_of, sides, text_if, title, told_on}
use Rattle.flow_views.specs.Json.{array, boolean, end_line, facts_field, json_of, json_with, point_edge, point_line, program_line, remark_object}
use Rattle.flow_views.specs.Json.{span_fields, statement_field}
use Rattle.text_pieces.specs.Strings.{quoted}
use Rattle.text_pieces.specs.code.Lists.{some_stand}
use Rattle.flow_views.specs.Views.{analysis_name, chosen_analyses, is_chosen, known_facts, label_name, labels_at, marks_at, points_in, procedure_name}
use Rattle.flow_views.specs.Views.{shown_points}
use Rattle.flow_views.specs.Views.{end_shown, first_shown}
use Rattle.flow_views.specs.code.ViewProgram.{IsShownProcedure, TellSame}
use Rattle.flow_views.specs.declared.view.Chosen.{Chosen}
use Rattle.flow_views.specs.declared.view.Look.{Look}
use Rattle.flow_views.specs.declared.view.View.{View}
use Rattle.flow_views.proofs.facts.Ahead.{same_against}
use Rattle.flow_views.proofs.facts.Behind.{next_shown, same_set_on}
use Rattle.flow_views.proofs.facts.Tables.{ends_below, shown_within}

-- of the elements that pass a test
same_filtered : {A B : Type 0} (f g : A → List B) (test : A → Bool) (xs : List A) → ((x : A) → test x ≡ true → f x ≡ g x)
    → flat_map f (filter test xs) ≡ flat_map g (filter test xs)
same_filtered f g test [] same = refl
same_filtered f g test (x ∷ xs) same = by_test (test x) refl (same_filtered f g test xs same)
  where
    by_test : (b : Bool) → test x ≡ b → flat_map f (filter test xs) ≡ flat_map g (filter test xs)
        → flat_map f (cond b (x ∷ filter test xs) (filter test xs)) ≡ flat_map g (cond b (x ∷ filter test xs) (filter test xs))
    by_test true is rest = λ i. same x is i ++ rest i
    by_test false is rest = rest

-- of the analyses that are chosen
pub same_chosen : {A : Type 0} (f g : Analysis → List A) (chosen : Chosen)
    → ((analysis : Analysis) → is_chosen chosen analysis ≡ true → f analysis ≡ g analysis)
    → flat_map f (chosen_analyses chosen) ≡ flat_map g (chosen_analyses chosen)
same_chosen f g chosen same = same_filtered f g (is_chosen chosen) all.ALL same

-- of the sides of a point, of which the one behind stands there only for a statement that is no call
same_among : {A B : Type 0} (f g : A → List B) (xs : List A) → ((x : A) → Contains xs x → f x ≡ g x) → flat_map f xs ≡ flat_map g xs
same_among f g [] same = refl
same_among f g (x ∷ xs) same =
    let first = same x (Contains-first x xs) in
    let rest = same_among f g xs (λ y among. same y (Contains-later x xs y among)) in
    λ i. first i ++ rest i

behind_there : (program : Program) (view : View) (point : ℕ) (side : Side) → side ≡ Behind → Contains (sides program view point) side
    → has_behind program point ≡ true
behind_there program view point side is among = by_test (view.look.behind && has_behind program point) refl
    (subst (λ s. Contains (sides program view point) s) is among)
  where
    by_test : (b : Bool) → (view.look.behind && has_behind program point) ≡ b → Contains (Before ∷ behind_if b) Behind → has_behind program point ≡ true
    by_test true test at = (and_parts view.look.behind (has_behind program point) test).1
    by_test false test at = absurd (cc (Contains-one Before Behind at))

-- a point that is shown is one of the program
pub shown_below : (program : Program) (procedure : Option ℕ) → IfSome procedure (λ p. p < length program.procedures) → (point : ℕ)
    → (first_shown program procedure ≤ point) × (point < end_shown program procedure) → point < point_count program
shown_below program None there point at = at.1
shown_below program (Some procedure) there point at = omega (arith, at.1, ends_below program procedure there)

-- of the points of procedures that are shown
same_points : (program : Program) (procedure : Option ℕ) (f g : ℕ → List ℕ)
    → ((point : ℕ) → (first_shown program procedure ≤ point) × (point < end_shown program procedure) → f point ≡ g point)
    → (number : ℕ) → number < length program.procedures → IsShownProcedure procedure number
    → flat_map f (points_in program number) ≡ flat_map g (points_in program number)
same_points program procedure f g same number there is =
    let within = shown_within program procedure number there is in
    same_texts f g (entry_point program number) (suc (end_place program number))
    (λ point from to. same point (omega (arith, from, within.0), omega (arith, to, within.1)))

-- of several of them
same_procedures : (program : Program) (procedure : Option ℕ) (f g : ℕ → List ℕ)
    → ((point : ℕ) → (first_shown program procedure ≤ point) × (point < end_shown program procedure) → f point ≡ g point)
    → (first n : ℕ) → first + n ≤ length program.procedures
    → ((number : ℕ) → first ≤ number → number < first + n → IsShownProcedure procedure number)
    → flat_map f (flat_map (points_in program) (range_with_len first n)) ≡ flat_map g (flat_map (points_in program) (range_with_len first n))
same_procedures program procedure f g same first zero there are = refl
same_procedures program procedure f g same first (suc n) there are =
    let others : List ℕ = flat_map (points_in program) (range_with_len (first + 1) n) in
    let here = same_points program procedure f g same first (omega (arith, there)) (are first (omega arith) (omega arith)) in
    let rest = same_procedures program procedure f g same (first + 1) n (omega (arith, there))
    (λ number low high. are number (omega (arith, low)) (omega (arith, high))) in
    flat_map-append f (points_in program first) others
    ∙ (λ i. here i ++ rest i)
    ∙ sym (flat_map-append g (points_in program first) others)

pub same_shown : (program : Program) (procedure : Option ℕ) → IfSome procedure (λ p. p < length program.procedures) → (f g : ℕ → List ℕ)
    → ((point : ℕ) → (first_shown program procedure ≤ point) × (point < end_shown program procedure) → f point ≡ g point)
    → (facts : Chosen) (look : Look)
    → flat_map f (shown_points program (record { facts = facts; procedure = procedure; look = look }))
    ≡ flat_map g (shown_points program (record { facts = facts; procedure = procedure; look = look }))
same_shown program None there f g same facts look =
    same_procedures program None f g same 0 (length program.procedures) (omega arith) (λ number low high. tt)
same_shown program (Some procedure) there f g same facts look =
    same_procedures program (Some procedure) f g same procedure 1 (omega (arith, there)) (λ number low high. omega (arith, low, high))

-- the clusters of procedures whose points have the same texts
module _ (program : Program) (sound : IsSound program) (procedure : Option ℕ) (there : IfSome procedure (λ p. p < length program.procedures))
    (f g : ℕ → List ℕ)
    (same : (point : ℕ) → (first_shown program procedure ≤ point) × (point < end_shown program procedure) → f point ≡ g point) where
  same_cluster : (number : ℕ) → number < length program.procedures → IsShownProcedure procedure number
      → cluster_of f program number ≡ cluster_of g program number
  same_cluster number below is = ap
      (λ nodes. codes "  subgraph \"cluster_" ++ decimal number ++ codes "\" {\n"
      ++ codes "    id=\"procedure" ++ decimal number ++ codes "\";\n    class=\"procedure\";\n"
      ++ codes "    label=" ++ quoted (procedure_name program number) ++ codes ";\n"
      ++ nodes ++ codes "  }\n")
      (same_points program procedure f g same number below is)

  -- those of all procedures, where none is named
  same_all : procedure ≡ None → all_clusters_of f program ≡ all_clusters_of g program
  same_all all =
      let main : ℕ = main_procedure program in
      let alike = λ (number : ℕ) (below : number < length program.procedures). same_cluster number below
      (subst (λ (p : Option ℕ). IsShownProcedure p number) (sym all) tt) in
      let inside : main < length program.procedures = (graphs_are_well_formed program sound).root_in_range in
      let first = alike main inside in
      let before = same_texts (cluster_of f program) (cluster_of g program) 0 main
      (λ number from to. alike number (omega (arith, to, inside))) in
      let behind = same_texts (cluster_of f program) (cluster_of g program) (main + 1) (length program.procedures - (main + 1))
      (λ number from to. alike number (omega (arith, from, to, inside))) in
      λ i. first i ++ before i ++ behind i

  same_clusters : (p : Option ℕ) → procedure ≡ p → shown_clusters_of f program p ≡ shown_clusters_of g program p
  same_clusters None is = same_all is
  same_clusters (Some number) is =
      same_cluster number (subst (λ (p : Option ℕ). IfSome p (λ n. n < length program.procedures)) is there)
      (subst (λ (p : Option ℕ). IsShownProcedure p number) (sym is) refl)

  pub same_shown_clusters : shown_clusters_of f program procedure ≡ shown_clusters_of g program procedure
  same_shown_clusters = same_clusters procedure refl

-- the bits of a set
abbrev members : Program → Analysis → (ℕ → Bool) → List ℕ
members program analysis set = filter set (range_with_len 0 (bits program analysis))

module _ (program : Program) (sound : IsSound program) (one other : Knowledge) (agree : Agree program one other) (chosen : Chosen)
    (procedure : Option ℕ) (look : Look) (there : IfSome procedure (λ p. p < length program.procedures))
    (told : (analysis : Analysis) → is_chosen chosen analysis ≡ true → (point : ℕ)
    → (first_shown program procedure ≤ point) × (point < end_shown program procedure)
    → TellSame (known_facts one analysis) (known_facts other analysis) point) where
  abbrev view : View
  view = record { facts = chosen; procedure = procedure; look = look }

  same_fields : (point : ℕ) → (first_shown program procedure ≤ point) × (point < end_shown program procedure)
      → flat_map (facts_field program one point) (chosen_analyses chosen) ≡ flat_map (facts_field program other point) (chosen_analyses chosen)
  same_fields point at =
      same_chosen (facts_field program one point) (facts_field program other point) chosen
      (λ analysis is. let same = told analysis is point at in λ i. field analysis (same.path i) (same.set i))
    where
      field : Analysis → Bool → (ℕ → Bool) → List ℕ
      field analysis path set =
          codes ",\"" ++ analysis_name analysis ++ codes "\":{\"path\":" ++ boolean path
          ++ codes ",\"bits\":" ++ array (map decimal (members program analysis set))
          ++ codes ",\"names\":"
          ++ array (map (λ bit. quoted (bit_text program analysis bit)) (members program analysis set))
          ++ codes "}"

  same_point : (point : ℕ) → (first_shown program procedure ≤ point) × (point < end_shown program procedure)
      → point_line program one chosen point ≡ point_line program other chosen point
  same_point point at =
      let fields = same_fields point at in
      let doubtful = agree.doubtful point (shown_below program procedure there point at) in
      λ i. codes "{\"type\":\"point\",\"point\":" ++ decimal point
      ++ codes ",\"procedure\":" ++ quoted (procedure_name program (procedure_at program point))
      ++ codes ",\"place\":" ++ decimal (place_of program point).place
      ++ span_fields program point
      ++ (codes ",\"labels\":" ++ array (map (λ label. quoted (label_name program point label)) (labels_at program point))
      ++ codes ",\"statement\":" ++ statement_field program point
      ++ codes ",\"doubtful\":" ++ boolean (doubtful i)
      ++ codes ",\"edges\":" ++ array (map (point_edge program) (edges_from program point)))
      ++ fields i ++ codes "}\n"

  -- the lines of JSON, with the remarks in any form
  pub same_json_with : (object : Program → ℕ → Remark → List ℕ) → json_with object program one view
      ≡ json_with object program other view
  same_json_with object =
      let points = same_shown program procedure there (point_line program one chosen) (point_line program other chosen)
      (λ point at. same_point point at) chosen look in
      let remarks = same_shown program procedure there (λ point. flat_map (object program point) (remarks_at program one point))
      (λ point. flat_map (object program point) (remarks_at program other point))
      (λ point at. ap (flat_map (object program point))
      (same_remarks program sound one other agree point (shown_below program procedure there point at))) chosen look in
      λ i. program_line program ++ points i ++ remarks i

  pub same_json : json_of program one view ≡ json_of program other view
  same_json = ap (λ text. text ++ end_line program view) (same_json_with remark_object)

  module _ (point : ℕ) (at : (first_shown program procedure ≤ point) × (point < end_shown program procedure)) where
    below : point < point_count program
    below = shown_below program procedure there point at

    -- the sets of an analysis on both sides of a statement
    same_set : (analysis : Analysis) → is_chosen chosen analysis ≡ true → (side : Side) → Contains (sides program view point) side
        → set_on side program analysis (known_facts one analysis) point ≡ set_on side program analysis (known_facts other analysis) point
    same_set analysis is side among =
        same_set_on program (known_facts one analysis) (known_facts other analysis) point (told analysis is point at) analysis side
        (λ behind edge leads. told analysis is (target_of edge)
        (next_shown program sound procedure there point below at (behind_there program view point side behind among) edge leads))

    same_lines_of : (analysis : Analysis) → is_chosen chosen analysis ≡ true
        → fact_lines program one view point analysis ≡ fact_lines program other view point analysis
    same_lines_of analysis is = same_among (told_on program one view point analysis) (told_on program other view point analysis)
        (sides program view point)
        (λ side among.
        let before = same_against program procedure there (known_facts one analysis) (known_facts other analysis) (told analysis is) point below at
        side in
        let behind = same_set analysis is side among in
        λ i. lines analysis side (before i) (behind i))
      where
        lines : Analysis → Side → (ℕ → Bool) → (ℕ → Bool) → List (List ℕ)
        lines analysis side old set =
            if look.changes then both_changed program view analysis side old set
            else set_lines (analysis_name analysis ++ side_text side)
            (map (bit_text program analysis) (shown_bits program analysis look.hides_entry set))

    same_facts : facts_in_lines program one view point ≡ facts_in_lines program other view point
    same_facts =
        same_chosen (λ analysis. flat_map label_line (fact_lines program one view point analysis))
        (λ analysis. flat_map label_line (fact_lines program other view point analysis)) chosen
        (λ analysis is. ap (flat_map label_line) (same_lines_of analysis is))

    same_label : label_text program one view point ≡ label_text program other view point
    same_label = λ i.
        flat_map (λ label. label_line (label_title program point label)) (labels_at program point) ++ label_line (title program point)
        ++ flat_map (λ remark. label_line (remark_text program remark)) (same_remarks program sound one other agree point below i)
        ++ text_if (not look.hovers) (same_facts i)

    pub same_marks : marks_at program one point ≡ marks_at program other point
    same_marks = λ i. record {
      reached = agree.flags point below i;
      unset = agree.flags point below i && some_stand (same_unset program sound one other agree point below i);
      dead = agree.flags point below i && some_stand (same_dead program sound one other agree point below i);
      doubtful = agree.doubtful point below i;
    }

    same_node : node program one view point ≡ node program other view point
    same_node = λ i.
        codes "    " ++ decimal point
        ++ (node_names point (same_marks i) ++ same_label i ++ codes "\"" ++ text_if look.hovers (codes ", tooltip=\"" ++ same_facts i ++ codes "\"")
        ++ look_of (same_marks i) ++ codes "];\n")

  -- the picture, without its last line and with it
  pub same_open : open_dot program one view ≡ open_dot program other view
  same_open =
      ap (λ clusters. head ++ clusters ++ flat_map (edge_lines program view) (shown_points program view) ++ text_if look.legend (legend look.changes))
      (same_shown_clusters program sound procedure there (node program one view) (node program other view) same_node)

  pub same_dot : dot_of program one view ≡ dot_of program other view
  same_dot = ap (λ text. text ++ codes "}\n") same_open
