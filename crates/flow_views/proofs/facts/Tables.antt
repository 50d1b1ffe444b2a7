-- The edges and the points that are read from the code's tables
use Rattle.std.proofs.Common.{◌≡◌, ℕ, suc, ◌+◌, ◌<◌, ◌≤◌, Bool, true, false, not, ◌&&◌, List, [], ◌∷◌, ◌++◌, length, map, flat_map, filter, get_or}
use Rattle.std.proofs.Common.{append-nil, codes, decimal, Contains, IfSome, Option, Some, None, option_and_then, option_map, slice_get, unwrap_or}
use Rattle.std.proofs.Common.{if◌then◌else◌, refl, sym, ap, ◌∙◌, subst, arith}
use Rattle.std.specs.List.{list_any, range_with_len}
use Rattle.std.specs.Prelude.{All}
use Rattle.std.proofs.lemmas.List.{get_or-map, length-map}
use Rattle.std.proofs.lemmas.List.Elements.{All-contains_itself}
use Rattle.std.proofs.lemmas.List.FromFn.{length-map-range_with_len, get_or-map-range_with_len}
use Rattle.smallvec.specs.SmallVec.{SmallVec}
use Rattle.std.proofs.lemmas.Option.{slice_get_read}
use Rattle.tac_program.specs.Programs.{Procedure, Program}
use Rattle.tac_program.specs.Sound.{IsSound}
use Rattle.tac_program.specs.declared.program.Label.{Label}
use Rattle.tac_program.specs.declared.program.Stmt.{Stmt}
use Rattle.tac_listing.specs.Listings.{names_in}
use Rattle.flow_graph.specs.Edges.{edges_from}
use Rattle.flow_graph.specs.Points.{end_place, entry_point, point_count, points, statement_at}
use Rattle.flow_graph.specs.Universes.{bits}
use Rattle.flow_graph.specs.Transfers.{names_variable, operands_of, reads}
use Rattle.flow_graph.specs.declared.analysis.Analysis.{Analysis}
use Rattle.flow_graph.specs.declared.analysis.Analysis.TheVariants.{Reach, Live, Avail, Busy}
use Rattle.flow_graph.specs.declared.edge.Edge.{Edge}
use Rattle.flow_team.specs.Tables.{Facts, TableFacts, facts_of}
use Rattle.flow_graph.proofs.edges.EdgeLemmas.{IsFrom, a_step, a_call, a_return, edges_from_are, in_procedure}
use Rattle.flow_reports.specs.Reports.{Knowledge, dead_at, unset_at}
use Rattle.report_answers.specs.Statements.{assigned}
use Rattle.flow_texts.specs.Tables.{bits_at}
use Rattle.flow_reports.specs.code.Findings.{AreFindings, TellDoubtful}
use Rattle.flow_texts.proofs.sets.ListTexts.{map-members}
use Rattle.point_sets.specs.Sets.{calls_at}
use Rattle.flow_views.specs.Dots.{arrow, passed_call}
use Rattle.flow_views.specs.Json.{array, boolean, span_fields}
use Rattle.flow_views.specs.ViewTables.{AreViewTables}
use Rattle.flow_views.specs.Views.{end_shown, first_shown, analysis_if, labels_in}
use Rattle.flow_views.specs.code.Names.{AreNames, AreNamesOf, numbered}
use Rattle.flow_views.specs.code.ViewProgram.{AreShown, IsShownProcedure, IsEndIn, contents}
use Rattle.flow_views.specs.declared.names.NameForm.{NameForm}
use Rattle.flow_views.specs.declared.names.NameForm.TheVariants.{Escaped, Quoted}
use Rattle.text_pieces.specs.code.Blocks.{SeparatedTexts}
use Rattle.flow_views.specs.declared.view_program.ViewProgram.{ViewProgram}

-- the edges of a point, as they are read from the table
pub reads_edges : (program : Program) (lists : List (SmallVec Edge)) (point : ℕ) (list : SmallVec Edge) (edges : List Edge)
    → contents lists ≡ map (edges_from program) (points program)
    → point < point_count program → list ≡ get_or lists point list → edges ≡ list.items → edges ≡ edges_from program point
reads_edges program lists point list edges are below read is =
    let many : length lists ≡ point_count program =
    sym (length-map lists (λ (list : SmallVec Edge). list.items)) ∙ ap length are
    ∙ length-map-range_with_len (edges_from program) 0 (point_count program) in
    let there : point < length lists = omega (arith, many, below) in
    is ∙ ap (λ (list : SmallVec Edge). list.items) read ∙ sym (get_or-map (λ (list : SmallVec Edge). list.items) lists point list [] there)
    ∙ ap (λ es. get_or es point []) are
    ∙ get_or-map-range_with_len (edges_from program) 0 (point_count program) point point [] below (omega arith)

pub has_list : (program : Program) (lists : List (SmallVec Edge)) → contents lists ≡ map (edges_from program) (points program)
    → length lists ≡ point_count program
has_list program lists are =
    sym (length-map lists (λ (list : SmallVec Edge). list.items)) ∙ ap length are
    ∙ length-map-range_with_len (edges_from program) 0 (point_count program)

-- each edge begins at a point, and the call of each is one
end_in : (program : Program) (point : ℕ) (edge : Edge) → point < point_count program → IsFrom program point edge → IsEndIn program edge
end_in program point _ below (a_step target there) = below
end_in program point _ below (a_call callee there calling) = below
end_in program point _ below (a_return site there calling none ends) = there

pub ends_in : (program : Program) (point : ℕ) → IsSound program → point < point_count program → (edge : Edge)
    → Contains (edges_from program point) edge → IsEndIn program edge
ends_in program point sound below edge at = end_in program point edge below (edges_from_are program sound point edge below at)

-- it is so of those that are read
pub all_ends_in : (program : Program) (point : ℕ) (edges : List Edge) → IsSound program → point < point_count program
    → edges ≡ edges_from program point → All (IsEndIn program) edges
all_ends_in program point edges sound below is =
    subst (λ es. All (IsEndIn program) es) (sym is)
    (λ k d within. ends_in program point sound below (get_or (edges_from program point) k d) (All-contains_itself (edges_from program point) k d within))

-- the last point of a procedure
pub ends_below : (program : Program) (procedure : ℕ) → procedure < length program.procedures
    → entry_point program procedure + suc (end_place program procedure) ≤ point_count program
ends_below program procedure there =
    omega (arith, (in_procedure program procedure (end_place program procedure) there (omega arith)).below)

-- and the points of one that is shown are shown
pub shown_within : (program : Program) (procedure : Option ℕ) (number : ℕ) → number < length program.procedures → IsShownProcedure procedure number
    → (first_shown program procedure ≤ entry_point program number)
    × (entry_point program number + suc (end_place program number) ≤ end_shown program procedure)
shown_within program None number there is = (omega arith, ends_below program number there)
shown_within program (Some procedure) number there is = (
  omega (arith, ap (entry_point program) is),
  omega (arith, ap (entry_point program) is, ap (end_place program) is),
)

-- at a procedure's end no variable is read or assigned
filter_none : (test : ℕ → Bool) (xs : List ℕ) → ((x : ℕ) → test x ≡ false) → filter test xs ≡ []
filter_none test [] none = refl
filter_none test (x ∷ xs) none = ap (λ t. if t then x ∷ filter test xs else filter test xs) (none x) ∙ filter_none test xs none

pub none_unset : (program : Program) (known : Knowledge) (point : ℕ) → statement_at program point ≡ None → unset_at program known point ≡ []
none_unset program known point ends =
    filter_none (λ variable. reads program point variable && known.reach.contains point variable) (range_with_len 0 (length program.variable_names))
    (λ x. ap (λ o. list_any (names_variable x) (unwrap_or (option_map operands_of (option_map (λ (s : Stmt). s.kind) o)) [])
    && known.reach.contains point x) ends)

pub none_dead : (program : Program) (known : Knowledge) (point : ℕ) → statement_at program point ≡ None → dead_at program known point ≡ []
none_dead program known point ends = ap (λ o. variables (option_and_then assigned (option_map (λ (s : Stmt). s.kind) o))) ends
  where
    variables : Option ℕ → List ℕ
    variables = λ o. elim o [
      | Some v ↦ if not (known.doubtful (suc point)) && not (known.live.contains (suc point) v) then v ∷ [] else []
      | None ↦ []
    ]

-- the bits of a point, as they are called
pub set_texts : (program : Program) (analysis : Analysis) (table : TableFacts) (facts : Facts) (count point : ℕ) (f g : ℕ → List ℕ)
    → count ≡ bits program analysis → (facts_of table).contains point ≡ facts.contains point → ((n : ℕ) → n < bits program analysis → f n ≡ g n)
    → map f (filter ((facts_of table).contains point) (range_with_len 0 count)) ≡ map g (bits_at program analysis facts point)
set_texts program analysis table facts count point f g all told same =
    ap (λ n. map f (filter ((facts_of table).contains point) (range_with_len 0 n))) all
    ∙ map-members f g ((facts_of table).contains point) 0 (bits program analysis) (λ n below. same n (omega (arith, below)))
    ∙ ap (λ (set : ℕ → Bool). map g (filter set (range_with_len 0 (bits program analysis)))) told

-- each bit of an analysis has its number
pub has_number : (program : Program) (analysis : Analysis) → bits program analysis ≤ numbered Quoted program
has_number program Reach = omega arith
has_number program Live = omega arith
has_number program Avail = omega arith
has_number program Busy = omega arith

-- that of an analysis that is chosen
pub one_chosen : (f : Analysis → List ℕ) (chosen : Bool) (analysis : Analysis) → chosen ≡ true → f analysis ≡ flat_map f (analysis_if chosen analysis)
one_chosen f chosen analysis is = sym (ap (λ b. flat_map f (analysis_if b analysis)) is ∙ append-nil (f analysis))

-- a procedure that has a name is there
pub named_there : (program : Program) → IsSound program → (procedure : Option ℕ)
    → IfSome procedure (λ number. number < length program.procedure_names)
    → IfSome procedure (λ number. number < length program.procedures)
named_there program sound None given = tt
named_there program sound (Some number) given = omega (arith, given, sound.named)

-- what is shown, put together
pub shown_is : (shown : ViewProgram) (program : Program) → shown.found.graph.now ≡ program → AreFindings shown.found
    → TellDoubtful shown.found.graph.now
    shown.found.doubtful.items → AreViewTables program shown.view shown.tables.now → AreNames program shown.names
    → contents shown.successors.items ≡ map (edges_from program) (points program)
    → IfSome shown.view.procedure (λ procedure. procedure < length program.procedure_names) → AreShown shown
shown_is shown program same found doubts tables names successors procedure = record {
  found = found;
  doubts = doubts;
  tables = subst (λ (p : Program). AreViewTables p shown.view shown.tables.now) (sym same) tables;
  names = subst (λ (p : Program). AreNames p shown.names) (sym same) names;
  successors = subst (λ (p : Program). contents shown.successors.items ≡ map (edges_from p) (points p)) (sym same) successors;
  procedure = named_there shown.found.graph.now found.sound shown.view.procedure
      (subst (λ (p : Program). IfSome shown.view.procedure (λ procedure. procedure < length p.procedure_names)) (sym same) procedure);
}

-- the statements of a procedure that is read
pub reads_statements : (program : Program) (procedure : ℕ) (p : Procedure) (statements : List Stmt) → procedure < length program.procedures
    → p ≡ get_or program.procedures procedure p
    → statements ≡ p.statements → length statements ≡ end_place program procedure
reads_statements program procedure p statements there read is =
    let at : slice_get program.procedures procedure ≡ Some p =
    slice_get_read program.procedures (length program.procedures) procedure p refl there read in
    ap length is ∙ sym (ap (λ o. length (unwrap_or (option_map (λ (q : Procedure). q.statements) o) [])) at)

-- the labels of a procedure that is read, and their names
pub reads_labels : (program : Program) (procedure : ℕ) (p : Procedure) (labels : List Label) → procedure < length program.procedures
    → p ≡ get_or program.procedures procedure p → labels ≡ p.labels → labels ≡ labels_in program procedure
reads_labels program procedure p labels there read is =
    let at : slice_get program.procedures procedure ≡ Some p =
    slice_get_read program.procedures (length program.procedures) procedure p refl there read in
    is ∙ sym (ap (λ o. unwrap_or (option_map (λ (q : Procedure). q.labels) o) []) at)

pub reads_label_names : (program : Program) (procedure : ℕ) (p : Procedure) (names : List (List ℕ)) → procedure < length program.procedures
    → p ≡ get_or program.procedures procedure p → names ≡ p.label_names → names ≡ (names_in program procedure).labels
reads_label_names program procedure p names there read is =
    let at : slice_get program.procedures procedure ≡ Some p =
    slice_get_read program.procedures (length program.procedures) procedure p refl there read in
    is ∙ sym (ap (λ o. unwrap_or (option_map (λ (q : Procedure). q.label_names) o) []) at)

-- a field of facts, part by part
pub facts_text : {name named : List ℕ} {path reached : Bool} {numbers bits strings names : List (List ℕ)} → name ≡ named → path ≡ reached
    → numbers ≡ bits → strings ≡ names
    → codes ",\"" ++ name ++ codes "\":{\"path\":" ++ boolean path ++ codes ",\"bits\":" ++ array numbers ++ codes ",\"names\":" ++ array strings
    ++ codes "}"
    ≡ codes ",\"" ++ named ++ codes "\":{\"path\":" ++ boolean reached ++ codes ",\"bits\":" ++ array bits ++ codes ",\"names\":" ++ array names
    ++ codes "}"
facts_text {name} {named} {path} {reached} {numbers} {bits} {strings} {names} e p b n =
    ap (λ t. codes ",\"" ++ t ++ codes "\":{\"path\":" ++ boolean path ++ codes ",\"bits\":" ++ array numbers ++ codes ",\"names\":" ++ array strings
    ++ codes "}") e
    ∙ ap (λ t. codes ",\"" ++ named ++ codes "\":{\"path\":" ++ boolean t ++ codes ",\"bits\":" ++ array numbers ++ codes ",\"names\":"
    ++ array strings ++ codes "}") p
    ∙ ap (λ t. codes ",\"" ++ named ++ codes "\":{\"path\":" ++ boolean reached ++ codes ",\"bits\":" ++ array t ++ codes ",\"names\":"
    ++ array strings ++ codes "}") b
    ∙ ap (λ t. codes ",\"" ++ named ++ codes "\":{\"path\":" ++ boolean reached ++ codes ",\"bits\":" ++ array bits ++ codes ",\"names\":" ++ array t
    ++ codes "}") n

-- a procedure's end stands at no place of the text
pub no_span : (program : Program) (point : ℕ) → statement_at program point ≡ None
    → span_fields program point ≡ codes ",\"line\":null,\"first\":null,\"last\":null"
no_span program point ends =
    ap
    (λ o. elim o [
      | Some statement ↦ codes ",\"line\":" ++ decimal statement.span.line ++ codes ",\"first\":" ++ decimal (statement.span.start + 1)
          ++ codes ",\"last\":" ++ decimal statement.span.end
      | None ↦ codes ",\"line\":null,\"first\":null,\"last\":null"
    ])
    ends

-- a call is joined to the point behind it
pub passed_is : (program : Program) (point : ℕ) → calls_at program point ≡ true
    → arrow point (point + 1) ++ codes " [class=\"passed\", style=dotted, arrowhead=none];\n" ≡ passed_call program point
passed_is program point calls =
    let next : point + 1 ≡ suc point = omega arith in
    ap (λ n. arrow point n ++ codes " [class=\"passed\", style=dotted, arrowhead=none];\n") next
    ∙ sym (ap (λ (b : Bool). if b then arrow point (suc point) ++ codes " [class=\"passed\", style=dotted, arrowhead=none];\n" else []) calls)

-- the names of a table's analysis, between quotes
pub escaped_names : (form : NameForm) (program : Program) (asked analysis : Analysis) (names : SeparatedTexts) → form ≡ Escaped → asked ≡ analysis
    → AreNamesOf form program asked names → AreNamesOf Escaped program analysis names
escaped_names form program asked analysis names is same are =
    subst (λ (a : Analysis). AreNamesOf Escaped program a names) same (subst (λ (f : NameForm). AreNamesOf f program asked names) is are)
