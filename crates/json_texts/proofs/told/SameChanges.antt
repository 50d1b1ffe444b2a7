-- The lines of differences of what the code's tables and answers tell are those of all that is known.
use Rattle.std.proofs.Common.{◌≡◌, ◌∙◌, ℕ, ◌<◌, ◌≤◌, Bool, true, false, List, [], ◌++◌, length, map, flat_map}
use Rattle.std.proofs.Common.{Option, IfSome, if◌then◌else◌, codes, decimal, refl, sym, ap}
use Rattle.flow_graph.specs.Edges.{edges_from}
use Rattle.flow_graph.specs.Paths.{target_of}
use Rattle.flow_graph.specs.Points.{place_of, point_count, procedure_at}
use Rattle.flow_graph.specs.declared.analysis.Analysis.{Analysis}
use Rattle.flow_reports.specs.Reports.{Knowledge, remarks_at}
use Rattle.flow_reports.specs.declared.remark.Remark.{Remark}
use Rattle.flow_reports.proofs.knowledge.KnownReports.{Agree, same_remarks}
use Rattle.flow_team.specs.Tables.{Facts}
use Rattle.point_sets.specs.Sets.{behind, has_behind}
use Rattle.point_sets.specs.declared.side.Side.TheVariants.{Behind}
use Rattle.tac_program.specs.Programs.{Program}
use Rattle.tac_program.specs.Sound.{IsSound}
use Rattle.text_pieces.specs.Strings.{quoted}
use Rattle.flow_views.specs.Json.{array, boolean, end_line, point_edge, span_fields, statement_field}
use Rattle.flow_views.specs.Views.{analysis_name, is_chosen, known_facts, label_name, labels_at, procedure_name}
use Rattle.flow_views.specs.Views.{end_shown, first_shown}
use Rattle.flow_views.specs.code.ViewProgram.{TellSame}
use Rattle.flow_views.specs.declared.view.Chosen.{Chosen}
use Rattle.flow_views.specs.declared.view.Look.{Look}
use Rattle.flow_views.specs.declared.view.View.{View}
use Rattle.flow_views.proofs.facts.Ahead.{same_ahead}
use Rattle.flow_views.proofs.facts.Behind.{next_shown, same_set_on}
use Rattle.flow_views.proofs.texts.SameTexts.{same_chosen, same_shown, shown_below}
use Rattle.json_statements.specs.Parts.{parts_fields}
use Rattle.json_texts.specs.Changes.{behind_changes, busy_line, change_fields, changed_point_line, changed_remarks, changes_field, changes_with}
use Rattle.json_texts.specs.Changes.{json_changes, leads_to_field, named_program_line, remark_alone, very_busy}

module _ (program : Program) (sound : IsSound program) (one other : Knowledge) (agree : Agree program one other) (chosen : Chosen)
    (procedure : Option ℕ) (look : Look) (there : IfSome procedure (λ p. p < length program.procedures))
    (told : (analysis : Analysis) → is_chosen chosen analysis ≡ true → (point : ℕ)
    → (first_shown program procedure ≤ point) × (point < end_shown program procedure)
    → TellSame (known_facts one analysis) (known_facts other analysis) point) where
  abbrev view : View
  view = record { facts = chosen; procedure = procedure; look = look }

  module _ (point : ℕ) (at : (first_shown program procedure ≤ point) × (point < end_shown program procedure)) where
    below : point < point_count program
    below = shown_below program procedure there point at

    module _ (analysis : Analysis) (is : is_chosen chosen analysis ≡ true) where
      same_behind : has_behind program point ≡ true
          → behind program analysis (known_facts one analysis) point ≡ behind program analysis (known_facts other analysis) point
      same_behind stands =
          same_set_on program (known_facts one analysis) (known_facts other analysis) point (told analysis is point at) analysis Behind
          (λ _ edge leads. told analysis is (target_of edge) (next_shown program sound procedure there point below at stands edge leads))

      same_behind_changes : behind_changes program analysis (known_facts one analysis) point
          ≡ behind_changes program analysis (known_facts other analysis) point
      same_behind_changes = by_test (has_behind program point) refl
        where
          text : (ℕ → Bool) → (ℕ → Bool) → Bool → List ℕ
          text = λ before after b. if b then codes "{" ++ change_fields program analysis before after ++ codes "}" else codes "null"

          of : Facts → Bool → List ℕ
          of = λ facts b. text (facts.contains point) (behind program analysis facts point) b

          by_test : (b : Bool) → has_behind program point ≡ b
              → of (known_facts one analysis) (has_behind program point) ≡ of (known_facts other analysis) (has_behind program point)
          by_test true stands =
              let same = told analysis is point at in
              let after = same_behind stands in
              λ i. text (same.set i) (after i) (has_behind program point)
          by_test false none = ap (of (known_facts one analysis)) none ∙ sym (ap (of (known_facts other analysis)) none)

      same_field : changes_field program one point analysis ≡ changes_field program other point analysis
      same_field =
          let same = told analysis is point at in
          let ahead = same_ahead program procedure there (known_facts one analysis) (known_facts other analysis)
          (told analysis is) point below at in
          let behind_same = same_behind_changes in
          λ i. codes ",\"" ++ analysis_name analysis ++ codes "\":{\"path\":" ++ boolean (same.path i)
          ++ codes "," ++ change_fields program analysis (ahead i) (same.set i)
          ++ codes ",\"behind\":" ++ behind_same i ++ codes "}"

    same_point : (origins : ℕ → Option ℕ) → changed_point_line origins program one chosen point ≡ changed_point_line origins program other chosen point
    same_point origins =
        let fields = same_chosen (changes_field program one point) (changes_field program other point) chosen same_field in
        let doubtful = agree.doubtful point below in
        λ i. codes "{\"type\":\"point\",\"point\":" ++ decimal point
        ++ codes ",\"procedure\":" ++ quoted (procedure_name program (procedure_at program point))
        ++ codes ",\"place\":" ++ decimal (place_of program point).place
        ++ span_fields program point
        ++ (codes ",\"labels\":" ++ array (map (λ label. quoted (label_name program point label)) (labels_at program point))
        ++ codes ",\"statement\":" ++ statement_field program point
        ++ codes ",\"doubtful\":" ++ boolean (doubtful i) ++ leads_to_field (origins point)
        ++ codes ",\"edges\":" ++ array (map (point_edge program) (edges_from program point)))
        ++ parts_fields program point
        ++ fields i ++ codes "}\n"

    same_remarks_told : changed_remarks program one chosen point ≡ changed_remarks program other chosen point
    same_remarks_told = ap
        (λ (remarks : List Remark). flat_map (remark_alone chosen.busy program point) remarks
        ++ (if chosen.busy then busy_line program point (flat_map very_busy remarks) else []))
        (same_remarks program sound one other agree point below)

  -- the lines with the remarks in any form
  pub same_changes_with : (origins : ℕ → Option ℕ) (object : Program → ℕ → Remark → List ℕ)
      → changes_with origins object program one view ≡ changes_with origins object program other view
  same_changes_with origins object =
      let points = same_shown program procedure there (changed_point_line origins program one chosen)
      (changed_point_line origins program other chosen) (λ point at. same_point point at origins) chosen look in
      let remarks = same_shown program procedure there (λ point. flat_map (object program point) (remarks_at program one point))
      (λ point. flat_map (object program point) (remarks_at program other point))
      (λ point at. ap (flat_map (object program point))
      (same_remarks program sound one other agree point (shown_below program procedure there point at))) chosen look in
      λ i. named_program_line program ++ points i ++ remarks i

  pub same_changes : (origins : ℕ → Option ℕ) → json_changes origins program one view ≡ json_changes origins program other view
  same_changes origins =
      let points = same_shown program procedure there (changed_point_line origins program one chosen)
      (changed_point_line origins program other chosen) (λ point at. same_point point at origins) chosen look in
      let remarks = same_shown program procedure there (changed_remarks program one chosen) (changed_remarks program other chosen)
      same_remarks_told chosen look in
      λ i. named_program_line program ++ points i ++ remarks i ++ end_line program view
