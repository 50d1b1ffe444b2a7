-- All that is known of what is shown: by a table where there is one, and else by what decides it.
use Rattle.std.proofs.Common.{◌≡◌, ◌↔◌, ◌∙◌, ℕ, suc, ◌<◌, ◌≤◌, Bool, true, false, ◌&&◌, if◌then◌else◌, Option, Some, None, refl, sym, ap, ap₂, subst}
use Rattle.std.specs.Prelude.{nat_le, nat_lt, IfSome, MatchOption}
use Rattle.std.proofs.lemmas.Bool.{and_parts, le-leb, leb-true, lt-ltb, ltb-true}
use Rattle.flow_graph.specs.Analyses.{HasPathAt, IsInTable}
use Rattle.flow_graph.specs.Points.{point_count}
use Rattle.flow_graph.specs.Universes.{bits}
use Rattle.flow_graph.specs.declared.analysis.Analysis.{Analysis}
use Rattle.flow_graph.specs.declared.analysis.Analysis.TheVariants.{Reach, Live, Avail, Busy}
use Rattle.flow_team.specs.Excerpts.{AreFactsAt, IsTableAt}
use Rattle.flow_team.specs.Tables.{AreFacts, Facts, TableFacts, facts_of}
use Rattle.tac_program.specs.Programs.{Program}
use Rattle.flow_reports.specs.Reports.{IsKnowledge, Knowledge, dead_at, remarks_at, unset_at}
use Rattle.flow_reports.specs.code.Findings.{knowledge_of}
use Rattle.flow_reports.proofs.knowledge.KnownReports.{Agree, agrees, all_is_known, all_known, same_dead, same_remarks, same_unset}
use Rattle.flow_views.specs.ViewTables.{IsTableIfChosen, shown_table}
use Rattle.flow_views.specs.Views.{end_shown, first_shown, known_facts, is_chosen}
use Rattle.flow_views.specs.code.ViewProgram.{AreShown, IsShownPoint, IsShownTable, TellSame, facts_between, facts_or, is_between, known_by, known_of}
use Rattle.flow_views.specs.declared.view_program.ViewProgram.{ViewProgram}

-- A test that a point is among some, and what it chooses.
between : (from until point : ℕ) (b : Bool) → is_between from until point ≡ b → b ≡ true → (from ≤ point) × (point < until)
between from until point true is there =
    let parts = and_parts (nat_le from point) (nat_lt point until) is in (leb-true from point parts.0, ltb-true point until parts.1)
between from until point false is there = absurd (cc there)

is_inside : (from until point : ℕ) → from ≤ point → point < until → is_between from until point ≡ true
is_inside from until point low high = ap₂ (λ a b. a && b) (le-leb from point low) (lt-ltb point until high)

-- what a table tells at its points, and others elsewhere, is told by both
module _ (program : Program) (analysis : Analysis) (from until : ℕ) (facts : Facts) (table : TableFacts) (are : AreFacts program analysis facts)
    (is : AreFactsAt program analysis from until (facts_of table)) where
  path_between : (point : ℕ) → point < point_count program → (b : Bool) → is_between from until point ≡ b
      → ((if b then (facts_of table).has_path point else facts.has_path point) ≡ true) ↔ HasPathAt program analysis point
  path_between point below true inside = let at = between from until point true inside refl in is.paths point at.0 at.1
  path_between point below false outside = are.paths point below

  set_between : (point bit : ℕ) → point < point_count program → bit < bits program analysis → (b : Bool) → is_between from until point ≡ b
      → ((if b then (facts_of table).contains point bit else facts.contains point bit) ≡ true) ↔ IsInTable program analysis point bit
  set_between point bit below there true inside = let at = between from until point true inside refl in is.sets point bit at.0 at.1 there
  set_between point bit below there false outside = are.sets point bit below there

  both_are : AreFacts program analysis (facts_between from until (facts_of table) facts)
  both_are = record {
    paths = λ point below. path_between point below (is_between from until point) refl;
    sets = λ point bit below there. set_between point bit below there (is_between from until point) refl;
  }

facts_or_are : (program : Program) (analysis : Analysis) (from until : ℕ) (facts : Facts) (chosen : Bool) (table : Option TableFacts)
    → AreFacts program analysis facts → IsTableIfChosen program analysis from until chosen table
    → AreFacts program analysis (facts_or from until facts table)
facts_or_are program analysis from until facts chosen None are is = are
facts_or_are program analysis from until facts chosen (Some table) are is =
    both_are program analysis from until facts table are
    (subst (λ (a : Analysis). AreFactsAt program a from until (facts_of table)) is.of.0 is.of.1.facts)

-- what two know as well where no table tells
same_path_or : (from until point : ℕ) (one other : Facts) (table : Option TableFacts) → one.has_path point ≡ other.has_path point
    → (facts_or from until one table).has_path point ≡ (facts_or from until other table).has_path point
same_path_or from until point one other None same = same
same_path_or from until point one other (Some table) same =
    ap (λ b. if is_between from until point then (facts_of table).has_path point else b) same

same_bit_or : (from until point bit : ℕ) (one other : Facts) (table : Option TableFacts) → one.contains point bit ≡ other.contains point bit
    → (facts_or from until one table).contains point bit ≡ (facts_or from until other table).contains point bit
same_bit_or from until point bit one other None same = same
same_bit_or from until point bit one other (Some table) same =
    ap (λ b. if is_between from until point then (facts_of table).contains point bit else b) same

-- at a point of its own a table tells
pub table_tells : (from until point : ℕ) (facts : Facts) (table : TableFacts) → from ≤ point → point < until
    → TellSame (facts_of table) (facts_or from until facts (Some table)) point
table_tells from until point facts table low high =
    let inside = is_inside from until point low high in
    record {
      path = sym (ap (λ (b : Bool). if b then (facts_of table).has_path point else facts.has_path point) inside);
      set = sym (ap (λ (b : Bool). λ (bit : ℕ). if b then (facts_of table).contains point bit else facts.contains point bit) inside);
    }

-- where an analysis is chosen there is a table
chosen_or : (program : Program) (analysis : Analysis) (from until point : ℕ) (chosen : Bool) (one other : Facts) (table : Option TableFacts)
    → IsTableIfChosen program analysis from until chosen table → chosen ≡ true → from ≤ point → point < until
    → TellSame (facts_or from until one table) (facts_or from until other table) point
chosen_or program analysis from until point chosen one other None is chosen_is low high = absurd (cc (is.there ∙ chosen_is))
chosen_or program analysis from until point chosen one other (Some table) is chosen_is low high =
    let first = table_tells from until point one table low high in
    let second = table_tells from until point other table low high in
    record { path = sym first.path ∙ second.path; set = sym first.set ∙ second.set }

-- the points that are shown
abbrev from_of : ViewProgram → ℕ
from_of shown = first_shown shown.found.graph.now shown.view.procedure

abbrev until_of : ViewProgram → ℕ
until_of shown = end_shown shown.found.graph.now shown.view.procedure

-- what a look-up tells of what it finds, and what follows
pub some_known : {X : Type 0} (N : Type 0) (P Q : X → Type 0) (o : Option X) → MatchOption o N P → ((x : X) → P x → Q x) → IfSome o Q
some_known N P Q None told next = tt
some_known N P Q (Some x) told next = next x told

-- a table tells what is known
pub table_known : (shown : ViewProgram) (analysis : Analysis) (table : TableFacts) → shown_table shown.tables.now analysis ≡ Some table
    → (point : ℕ) → IsShownPoint shown point → TellSame (facts_of table) (known_facts (known_of shown) analysis) point
table_known shown analysis table is point at = subst (λ (told : Facts). TellSame (facts_of table) told point) (known analysis is)
    (table_tells (from_of shown) (until_of shown) point (known_facts (knowledge_of shown.found) analysis) table at.0 at.1)
  where
    known : (a : Analysis) → shown_table shown.tables.now a ≡ Some table
        → known_by shown (known_facts (knowledge_of shown.found) a) (Some table) ≡ known_facts (known_of shown) a
    known Reach same = ap (known_by shown (knowledge_of shown.found).reach) (sym same)
    known Live same = ap (known_by shown (knowledge_of shown.found).live) (sym same)
    known Avail same = ap (known_by shown (knowledge_of shown.found).avail) (sym same)
    known Busy same = ap (known_by shown (knowledge_of shown.found).busy) (sym same)

-- and it is a table of what is shown
pub table_of : (shown : ViewProgram) → AreShown shown → (analysis : Analysis) (table : TableFacts) → shown_table shown.tables.now analysis ≡ Some table
    → (table.analysis ≡ analysis) × IsTableAt shown.found.graph.now (from_of shown) (until_of shown) table
table_of shown are analysis table is =
    subst (λ (o : Option TableFacts). IfSome o (λ (t : TableFacts). (t.analysis ≡ analysis)
    × IsTableAt shown.found.graph.now (from_of shown) (until_of shown) t)) is (are.tables analysis).of

pub table_shown : (shown : ViewProgram) → AreShown shown → (analysis : Analysis) (table : TableFacts) → shown_table shown.tables.now analysis ≡ Some table
    → IsShownTable shown table
table_shown shown are analysis table is =
    let at = table_of shown are analysis table is in
    record {
      points = at.1.points;
      bits = at.1.bits;
      tells = λ point here. subst (λ (a : Analysis). TellSame (facts_of table) (known_facts (known_of shown) a) point) (sym at.0)
          (table_known shown analysis table is point here);
    }

module _ (shown : ViewProgram) (are : AreShown shown) where
  -- all that is known
  pub all_of : Knowledge
  all_of = record {
    reach = known_by shown (all_known shown.found are.found).reach (shown_table shown.tables.now Reach);
    live = known_by shown (all_known shown.found are.found).live (shown_table shown.tables.now Live);
    avail = known_by shown (all_known shown.found are.found).avail (shown_table shown.tables.now Avail);
    busy = known_by shown (all_known shown.found are.found).busy (shown_table shown.tables.now Busy);
    doubtful = (known_of shown).doubtful;
  }

  pub all_of_is : IsKnowledge shown.found.graph.now all_of
  unfolding all_of
  all_of_is =
      let all : IsKnowledge shown.found.graph.now (all_known shown.found are.found) = all_is_known shown.found are.found are.doubts in
      record {
        reach = facts_or_are shown.found.graph.now Reach (from_of shown) (until_of shown)
            (all_known shown.found are.found).reach shown.view.facts.reach (shown_table shown.tables.now Reach) all.reach (are.tables Reach);
        live = facts_or_are shown.found.graph.now Live (from_of shown) (until_of shown)
            (all_known shown.found are.found).live shown.view.facts.live (shown_table shown.tables.now Live) all.live (are.tables Live);
        avail = facts_or_are shown.found.graph.now Avail (from_of shown) (until_of shown)
            (all_known shown.found are.found).avail shown.view.facts.avail (shown_table shown.tables.now Avail) all.avail (are.tables Avail);
        busy = facts_or_are shown.found.graph.now Busy (from_of shown) (until_of shown)
            (all_known shown.found are.found).busy shown.view.facts.busy (shown_table shown.tables.now Busy) all.busy (are.tables Busy);
        doubtful = are.doubts.each;
      }

  found_agrees : Agree shown.found.graph.now (knowledge_of shown.found) (all_known shown.found are.found)
  found_agrees = agrees shown.found are.found (all_known shown.found are.found) (all_is_known shown.found are.found are.doubts) are.doubts

  -- what the code's tables and answers tell agrees with it
  pub known_agrees : Agree shown.found.graph.now (known_of shown) all_of
  unfolding all_of
  known_agrees =
      let found : Knowledge = knowledge_of shown.found in
      let all : Knowledge = all_known shown.found are.found in
      record {
        flags = λ point below.
            same_path_or (from_of shown) (until_of shown) point found.reach all.reach (shown_table shown.tables.now Reach) (found_agrees.flags point below);
        unset = λ point variable below reading.
            same_bit_or (from_of shown) (until_of shown) point variable found.reach all.reach (shown_table shown.tables.now Reach)
            (found_agrees.unset point variable below reading);
        computed = λ point bit below evaluated.
            same_bit_or (from_of shown) (until_of shown) point bit found.avail all.avail (shown_table shown.tables.now Avail)
            (found_agrees.computed point bit below evaluated);
        busy = λ point bit kind below at test there.
            same_bit_or (from_of shown) (until_of shown) point bit found.busy all.busy (shown_table shown.tables.now Busy)
            (found_agrees.busy point bit kind below at test there);
        live = λ point variable kind below at sets.
            same_bit_or (from_of shown) (until_of shown) (suc point) variable found.live all.live (shown_table shown.tables.now Live)
            (found_agrees.live point variable kind below at sets);
        doubtful = λ point below. refl;
      }

  -- and of what is chosen it is the same at the points that are shown
  pub known_all : (analysis : Analysis) → is_chosen shown.view.facts analysis ≡ true → (point : ℕ) → IsShownPoint shown point
      → TellSame (known_facts (known_of shown) analysis) (known_facts all_of analysis) point
  unfolding all_of
  known_all Reach is point at = chosen_or shown.found.graph.now Reach (from_of shown) (until_of shown) point shown.view.facts.reach _ _
      (shown_table shown.tables.now Reach) (are.tables Reach) is at.0 at.1
  known_all Live is point at = chosen_or shown.found.graph.now Live (from_of shown) (until_of shown) point shown.view.facts.live _ _
      (shown_table shown.tables.now Live) (are.tables Live) is at.0 at.1
  known_all Avail is point at = chosen_or shown.found.graph.now Avail (from_of shown) (until_of shown) point shown.view.facts.avail _ _
      (shown_table shown.tables.now Avail) (are.tables Avail) is at.0 at.1
  known_all Busy is point at = chosen_or shown.found.graph.now Busy (from_of shown) (until_of shown) point shown.view.facts.busy _ _
      (shown_table shown.tables.now Busy) (are.tables Busy) is at.0 at.1

  module _ (point : ℕ) (below : point < point_count shown.found.graph.now) where
    all_agrees : Agree shown.found.graph.now (knowledge_of shown.found) all_of
    all_agrees = agrees shown.found are.found all_of all_of_is are.doubts

    pub remarks_known : remarks_at shown.found.graph.now (knowledge_of shown.found) point ≡ remarks_at shown.found.graph.now (known_of shown) point
    remarks_known =
        same_remarks shown.found.graph.now are.found.sound (knowledge_of shown.found) all_of all_agrees point below
        ∙ sym (same_remarks shown.found.graph.now are.found.sound (known_of shown) all_of known_agrees point below)

    pub unset_known : unset_at shown.found.graph.now (knowledge_of shown.found) point ≡ unset_at shown.found.graph.now (known_of shown) point
    unset_known =
        same_unset shown.found.graph.now are.found.sound (knowledge_of shown.found) all_of all_agrees point below
        ∙ sym (same_unset shown.found.graph.now are.found.sound (known_of shown) all_of known_agrees point below)

    pub dead_known : dead_at shown.found.graph.now (knowledge_of shown.found) point ≡ dead_at shown.found.graph.now (known_of shown) point
    dead_known =
        same_dead shown.found.graph.now are.found.sound (knowledge_of shown.found) all_of all_agrees point below
        ∙ sym (same_dead shown.found.graph.now are.found.sound (known_of shown) all_of known_agrees point below)

    pub flag_known : (knowledge_of shown.found).reach.has_path point ≡ (known_of shown).reach.has_path point
    flag_known = all_agrees.flags point below ∙ sym (known_agrees.flags point below)
