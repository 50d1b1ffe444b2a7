-- What a table tells of a procedure that is shown
use Rattle.std.proofs.Common.{◌≡◌, ◌↔◌, ◌∙◌, ◌&&◌, ℕ, suc, ◌+◌, ◌<◌, ◌≤◌, Bool, true, List, Option, Some, sym, ap, subst, le-leb, lt-ltb}
use Rattle.flow_graph.specs.Points.{end_place, entry_point}
use Rattle.flow_graph.specs.declared.analysis.Analysis.{Analysis}
use Rattle.flow_graph.specs.declared.analysis.Analysis.TheVariants.{Reach, Live, Avail, Busy}
use Rattle.flow_reports.specs.Reports.{IsKnowledge, Knowledge}
use Rattle.flow_rounds.specs.Steps.{IsInside, IsIteration}
use Rattle.flow_rounds.specs.code.Frames.{Framed, IsOrdered, IsWithin, has_path_within, iteration_of}
use Rattle.flow_rounds.specs.declared.point_range.PointRange.{PointRange}
use Rattle.flow_team.specs.Excerpts.{AreFactsAt}
use Rattle.flow_team.specs.Tables.{AreFacts, Facts, TableFacts, facts_of}
use Rattle.flow_views.specs.Views.{end_shown, first_shown, is_chosen, known_facts}
use Rattle.flow_views.specs.code.ViewProgram.{AreShown, IsShownPoint, TellSame, known_of}
use Rattle.flow_views.specs.declared.view_program.ViewProgram.{ViewProgram}
use Rattle.flow_views.proofs.facts.Known.{all_of, all_of_is, known_all}
use Rattle.flow_views.proofs.texts.SameTexts.{shown_below}
use Rattle.tac_program.specs.Programs.{Program}

known_are : (program : Program) (known : Knowledge) → IsKnowledge program known → (analysis : Analysis) → AreFacts program analysis
    (known_facts known analysis)
known_are program known is Reach = is.reach
known_are program known is Live = is.live
known_are program known is Avail = is.avail
known_are program known is Busy = is.busy

module _ (shown : ViewProgram) (are : AreShown shown) (procedure : ℕ) (is : shown.view.procedure ≡ Some procedure) (analysis : Analysis)
    (chosen : is_chosen shown.view.facts analysis ≡ true) (table : TableFacts)
    (tells : (point : ℕ) → IsShownPoint shown point → TellSame (facts_of table) (known_facts (known_of shown) analysis) point) (points : PointRange)
    (first : points.first ≡ entry_point shown.found.graph.now procedure)
    (end : points.end ≡ entry_point shown.found.graph.now procedure + suc (end_place shown.found.graph.now procedure)) where
  abbrev program : Program
  program = shown.found.graph.now

  abbrev told : Facts
  told = record { has_path = has_path_within points table; contains = (facts_of table).contains }

  shown_at : (point : ℕ) → entry_point shown.found.graph.now procedure ≤ point
      → point < entry_point shown.found.graph.now procedure + suc (end_place shown.found.graph.now procedure) → IsShownPoint shown point
  shown_at point low high = (
    subst (λ (o : Option ℕ). first_shown shown.found.graph.now o ≤ point) (sym is) low,
    subst (λ (o : Option ℕ). point < end_shown shown.found.graph.now o) (sym is) high,
  )

  same_facts : (point : ℕ) → IsShownPoint shown point → TellSame (facts_of table) (known_facts (all_of shown are) analysis) point
  same_facts point at =
      let one = tells point at in
      let other = known_all shown are analysis chosen point at in
      record { path = one.path ∙ other.path; set = one.set ∙ other.set }

  path_is : (point : ℕ) → entry_point shown.found.graph.now procedure ≤ point
      → point < entry_point shown.found.graph.now procedure + suc (end_place shown.found.graph.now procedure)
      → has_path_within points table point ≡ (facts_of table).has_path point
  path_is point low high =
      let low_here : points.first ≤ point = subst (λ (n : ℕ). n ≤ point) (sym first) low in
      let high_here : point < points.end = subst (λ (n : ℕ). point < n) (sym end) high in
      λ i. (le-leb points.first point low_here i && lt-ltb point points.end high_here i) && (facts_of table).has_path point

  pub facts_at : AreFactsAt shown.found.graph.now analysis (entry_point shown.found.graph.now procedure)
      (entry_point shown.found.graph.now procedure + suc (end_place shown.found.graph.now procedure))
      (record { has_path = has_path_within points table; contains = (facts_of table).contains })
  facts_at =
      let facts = known_are shown.found.graph.now (all_of shown are) (all_of_is shown are) analysis in
      record {
        paths = λ point low high.
            let at = shown_at point low high in
            let same = path_is point low high ∙ (same_facts point at).path in
            let fact = facts.paths point (shown_below shown.found.graph.now shown.view.procedure are.procedure point at) in
            (λ has. fact.0 (sym same ∙ has), λ path. same ∙ fact.1 path);
        sets = λ point bit low high below.
            let at = shown_at point low high in
            let same = ap (λ (set : ℕ → Bool). set bit) (same_facts point at).set in
            let fact = facts.sets point bit (shown_below shown.found.graph.now shown.view.procedure are.procedure point at) below in
            (λ has. fact.0 (sym same ∙ has), λ in_table. same ∙ fact.1 in_table);
      }

  module _ (order : List ℕ)
      (ordered : IsOrdered (record {
        program = shown.found.graph.now;
        analysis = analysis;
        procedure = procedure;
        points = points;
        table =
            table;
        order = order;
      }))
    where
      abbrev framed : Framed
      framed = record { program = shown.found.graph.now; analysis = analysis; procedure = procedure; points = points; table = table; order = order }

      inside : (point : ℕ) → IsWithin points point ↔ IsInside shown.found.graph.now procedure point
      inside point = (
        λ (low, high). (subst (λ (n : ℕ). n ≤ point) first low, subst (λ (n : ℕ). point < n) end high),
        λ (low, high). (subst (λ (n : ℕ). n ≤ point) (sym first) low, subst (λ (n : ℕ). point < n) (sym end) high),
      )

      pub iteration_is : IsIteration (iteration_of (record {
        program = shown.found.graph.now;
        analysis = analysis;
        procedure = procedure;
        points = points;
        table = table;
        order = order;
      }))
      iteration_is = record {
        facts = facts_at;
        ordered = λ point. (
          λ among. (let (within, is) = (ordered.listed point).0 among in ((inside point).0 within, is)),
          λ (within, is). (ordered.listed point).1 ((inside point).1 within, is),
        );
        once = ordered.once;
      }
