-- The program of a text that is not refused is sound.
use Rattle.std.proofs.Common.{◌≡◌, ℕ, zero, suc, ◌+◌, ◌-◌, ◌≤◌, Bool, true, false, List, [], ◌∷◌, ◌++◌, map, flat_map, length, drop, refl, sym, ap}
use Rattle.std.proofs.Common.{◌∙◌, subst, arith, Option, Some, None, All, slice_get, option_map, if◌then◌else◌, nat_lt, length-append, length-drop}
use Rattle.std.proofs.Common.{codes}
use Rattle.std.proofs.lemmas.Bool.{ltb-false}
use Rattle.std.proofs.lemmas.List.{length-map}
use Rattle.std.proofs.lemmas.List.Elements.{All-from_recursion}
use Rattle.std.specs.List.{AllByRecursion as Each}
use Rattle.tac_lines.specs.Text.{lines}
use Rattle.tac_lines.specs.Tokens.{Token, rows, token_lines, spelling_of, unless_empty}
use Rattle.tac_program.specs.Names.{is_one_of, Names}
use Rattle.tac_lines.specs.Forms.{labels_of, behind_labels, paired, in_slot, cells_of, is_name_word, Slot, statement_row, is_variable, callees_of}
use Rattle.tac_lines.specs.Forms.{jumps_of}
use Rattle.tac_reader.specs.Sections.{Section, sections, titles, statements_of, labels_in, only_name, variables_of}
use Rattle.tac_program.specs.Programs.{Procedure, Program}
use Rattle.tac_reader.specs.Parses.{names_in, statement_of, label_places, labels_from, procedure_of, procedures_from, variables_in, program_of}
use Rattle.tac_reader.specs.Faults.{repeated, unknown, jumps_in, callees_in, name_faults, head_of, fault_within, refusal_within, refusal_at}
use Rattle.tac_lines.specs.LineFaults.{at, first_by_place, line_faults}
use Rattle.tac_program.specs.Limits.{longest_text, most_procedures}
use Rattle.tac_program.specs.declared.limits.Limits.{Limits}
use Rattle.tac_program.specs.declared.limits.Limits.TheVariants.{Large}
use Rattle.tac_reader.specs.Laws.{ProgramsAreSound}
use Rattle.tac_program.specs.Sound.{IsLawfulName, IsSoundStatement, IsSoundProcedure, IsSound}
use Rattle.tac_lines.specs.declared.fault.Fault.{Fault}
use Rattle.tac_lines.specs.declared.form.Form.{Form}
use Rattle.tac_program.specs.declared.program.Label.{Label}
use Rattle.tac_lines.specs.declared.refusal.RefusalKind.{RefusalKind}
use Rattle.tac_lines.specs.declared.refusal.RefusalKind.TheVariants as kind
use Rattle.tac_program.proofs.lists.Elements.{each-append, each-map, each-from_map, each-flat_map, each-from_flat_map, each-weaker, each-both}
use Rattle.tac_program.proofs.lists.Elements.{no_left, no_right, no_parts, all_differ}
use Rattle.tac_lines.proofs.lines.FirstFault.{none_first}
use Rattle.tac_reader.proofs.programs.LabelRuns.{labels_rise}
use Rattle.tac_reader.proofs.known_names.KnownNames.{Known, known_contained, none_repeated, each_once_known, each_once_differ, each_once_each}
use Rattle.tac_reader.proofs.lines.FaultlessLines.{Sound, IsFaultlessSection, rows_spelled, lines_faultless, sections_faultless, name_lawful}
use Rattle.tac_reader.proofs.programs.FaultlessStatements.{IsFaultlessStatement, statements_faultless, all_labels_lawful}
use Rattle.tac_reader.proofs.programs.ProgramSizes.{AreFew, sections_few, total, total_is}
use Rattle.tac_reader.proofs.programs.SoundStatements.{NamesAreKnown, statement_sound}
use Rattle.tac_reader.proofs.programs.LargeLimits.{procedures_within_large, text_within_large}
use Rattle.tac_reader.proofs.programs.ReadSteps.{program_is}
use Rattle.tac_reader.proofs.known_names.NameFaults.{none_head}

-- Labels and procedures are numbered on from a number.
labels_numbered : (n : ℕ) (places : List ℕ) (k : ℕ) (l : Label) → slice_get (labels_from n places) k ≡ Some l → l.name ≡ n + k
labels_numbered n [] k l e = absurd (cc e)
labels_numbered n (p ∷ ps) zero l e = omega (arith, name_is (record { name = n; place = p }) l e) where
  name_is : (a b : Label) → ◌≡◌ {A = Option Label} (Some a) (Some b) → b.name ≡ a.name
  name_is a b f = let same : a ≡ b = cc in ap (λ x. x.name) (sym same)
labels_numbered n (p ∷ ps) (suc k) l e = omega (arith, labels_numbered (suc n) ps k l e)

length-labels_from : (n : ℕ) (places : List ℕ) → length (labels_from n places) ≡ length places
length-labels_from n [] = refl
length-labels_from n (p ∷ ps) = ap suc (length-labels_from (suc n) ps)

length-label_places : (place : ℕ) (body : List (List Token)) → length (label_places place body) ≡ length (flat_map labels_of body)
length-label_places place [] = refl
length-label_places place (line ∷ others) =
    let next = place + length (unless_empty (behind_labels line)) in
    let here : length (map (λ t. place) (labels_of line)) ≡ length (labels_of line) = length-map (labels_of line) (λ t. place) in
    omega (
      arith,
      here,
      length-append (map (λ t. place) (labels_of line)) (label_places next others),
      length-append (labels_of line) (flat_map labels_of others),
      length-label_places next others,
    )

-- No label stands behind the end.
places_within : (place end : ℕ) (body : List (List Token)) → place + length (statements_of body) ≤ end → Each (λ p. p ≤ end) (label_places place body)
places_within place end [] h = tt
places_within place end (line ∷ others) h =
    let here = unless_empty (behind_labels line) in
    let all : length (here ++ statements_of others) ≡ length here + length (statements_of others) = length-append here (statements_of others) in
    each-append (λ p. p ≤ end) (map (λ t. place) (labels_of line)) (label_places (place + length here) others)
    (same (labels_of line) (omega (arith, h)))
    (places_within (place + length here) end others (omega (arith, h, all)))
  where
    same : (ts : List Token) → place ≤ end → Each (λ p. p ≤ end) (map (λ t. place) ts)
    same [] k = tt
    same (t ∷ ts) k = (k, same ts k)

labels_placed : (n end : ℕ) (places : List ℕ) → Each (λ p. p ≤ end) places → Each (λ l. l.place ≤ end) (labels_from n places)
labels_placed n end [] h = tt
labels_placed n end (p ∷ ps) h = (h.0, labels_placed (suc n) end ps h.1)

-- What is known of each section of a text without faults: of a section among others, by the names of these.
pub record IsLawfulSection (procedures variables : List (List ℕ)) (s : Section) : Type 0 where
  pub faultless : IsFaultlessSection s
  pub labels_once : repeated kind.DuplicateLabel [] (labels_in s) ≡ []
  pub known : Each (λ ts. NamesAreKnown (record { procedures = procedures; variables = variables; labels = names_in (labels_in s) }) ts)
      (statements_of s.body)

module _ (text : List ℕ) (procedures variables : List (List ℕ)) where
  procedure_sound : (n : ℕ) (s : Section) → IsLawfulSection procedures variables s
      → IsSoundProcedure (length variables) (length procedures) (procedure_of text procedures variables n s)
  procedure_sound n s h =
      let names : Names = record { procedures = procedures; variables = variables; labels = names_in (labels_in s) } in
      let places : List ℕ = label_places 0 s.body in
      let ls : List Label = labels_from 0 places in
      let ss : List (List Token) = statements_of s.body in
      let size : length ss ≡ length (map (statement_of text names) ss) = sym (length-map ss (statement_of text names)) in
      let count : length names.labels ≡ length ls =
      length-map (labels_in s) spelling_of ∙ sym (length-label_places 0 s.body) ∙ sym (length-labels_from 0 places) in
      let each : Each (λ ts. IsSoundStatement (length variables) (length names.labels) (length procedures) (statement_of text names ts).kind) ss =
      each-weaker (λ ts. IsFaultlessStatement ts × NamesAreKnown names ts) (λ ts. IsSoundStatement (length variables) (length names.labels)
      (length procedures) (statement_of text names ts).kind) (λ ts k. statement_sound text names ts k.0 k.1) ss
      (each-both IsFaultlessStatement (NamesAreKnown names) ss (statements_faultless s.body (h.faultless).lines) h.known) in
      record {
        numbered = λ k l e. labels_numbered 0 places k l e ∙ (let zero_on : 0 + k ≡ k = omega arith in zero_on);
        named = count;
        placed = All-from_recursion (λ (l : Label). l.place ≤ length (map (statement_of text names) ss)) ls
            (labels_placed 0 (length (map (statement_of text names) ss)) places
            (places_within 0 (length (map (statement_of text names) ss)) s.body (omega (arith, size))));
        rise = labels_rise ls s.body refl;
        lawful = All-from_recursion IsLawfulName names.labels
            (each-map IsLawfulName spelling_of (labels_in s) (all_labels_lawful s.body (h.faultless).lines));
        differ = all_differ names.labels (none_repeated kind.DuplicateLabel [] (labels_in s) h.labels_once).differ;
        statements =
            All-from_recursion (λ q. IsSoundStatement (length variables) (length ls) (length procedures) q.kind) (map (statement_of text names) ss)
            (each-map (λ q. IsSoundStatement (length variables) (length ls) (length procedures) q.kind) (statement_of text names) ss
            (subst (λ m. Each (λ ts. IsSoundStatement (length variables) m (length procedures) (statement_of text names ts).kind) ss) count each));
      }

  procedures_sound : (n : ℕ) (ss : List Section) → Each (IsLawfulSection procedures variables) ss
      → Each (IsSoundProcedure (length variables) (length procedures)) (procedures_from text procedures variables n ss)
  procedures_sound n [] h = tt
  procedures_sound n (s ∷ ss) h = (procedure_sound n s h.0, procedures_sound (suc n) ss h.1)

  procedures_numbered : (n : ℕ) (ss : List Section) (k : ℕ) (p : Procedure) → slice_get (procedures_from text procedures variables n ss) k ≡ Some p
      → p.name ≡ n + k
  procedures_numbered n [] k p e = absurd (cc e)
  procedures_numbered n (s ∷ ss) zero p e = omega (arith, name_is (procedure_of text procedures variables n s) p e) where
    name_is : (a b : Procedure) → ◌≡◌ {A = Option Procedure} (Some a) (Some b) → b.name ≡ a.name
    name_is a b f = let same : a ≡ b = cc in ap (λ x. x.name) (sym same)
  procedures_numbered n (s ∷ ss) (suc k) p e = omega (arith, procedures_numbered (suc n) ss k p e)

  pub length-procedures_from : (n : ℕ) (ss : List Section) → length (procedures_from text procedures variables n ss) ≡ length ss
  length-procedures_from n [] = refl
  length-procedures_from n (s ∷ ss) = ap suc (length-procedures_from (suc n) ss)

  total_statements : (n : ℕ) (ss : List Section)
      → total (λ q. length q.statements) (procedures_from text procedures variables n ss) ≡ total (λ s. length (statements_of s.body)) ss
  total_statements n [] = refl
  total_statements n (s ∷ ss) =
      let names : Names = record { procedures = procedures; variables = variables; labels = names_in (labels_in s) } in
      omega (arith, length-map (statements_of s.body) (statement_of text names), total_statements (suc n) ss)

  total_labels : (n : ℕ) (ss : List Section)
      → total (λ q. length q.labels) (procedures_from text procedures variables n ss) ≡ total (λ s. length (labels_in s)) ss
  total_labels n [] = refl
  total_labels n (s ∷ ss) = omega (arith, length-labels_from 0 (label_places 0 s.body), length-label_places 0 s.body, total_labels (suc n) ss)

-- Names that are looked up are known.
none_unknown : (kind : RefusalKind) (known used : List Token) → unknown kind known used ≡ [] → Each (λ t. Known (names_in known) (spelling_of t)) used
none_unknown kind known [] e = tt
none_unknown kind known (t ∷ ts) e =
    let here : List Fault = (if is_one_of (spelling_of t) (names_in known) then [] else at kind t.start) in (
      by_test (is_one_of (spelling_of t) (names_in known)) (no_left here (unknown kind known ts) e),
      none_unknown kind known ts (no_right here (unknown kind known ts) e),
    )
  where
    by_test : (b : Bool) → (if b then [] else at kind t.start) ≡ [] → b ≡ true
    by_test true k = refl
    by_test false k = absurd (cc k)

-- The tokens of variables are lawful names.
cells_sound : (test : Slot → Bool) (slots : List Slot) (ts : List Token) → Each Sound ts → Each Sound (in_slot test (paired slots ts))
cells_sound test [] ts h = tt
cells_sound test (s ∷ ss) [] h = tt
cells_sound test (s ∷ ss) (t ∷ ts) h = by_test (test s) (cells_sound test ss ts h.1) where
  by_test : (b : Bool) → Each Sound (in_slot test (paired ss ts))
      → Each Sound (if b then t ∷ in_slot test (paired ss ts) else in_slot test (paired ss ts))
  by_test true k = (h.0, k)
  by_test false k = k

statement_cells : (test : Slot → Bool) (ts : List Token) → Each Sound ts → Each Sound (in_slot test (cells_of ts))
statement_cells test ts h = go (statement_row ts) where
  go : (o : Option (Form × List Slot)) → Each Sound (in_slot test (elim o as (λ _. List (Slot × Token)) [ None ↦ [] | Some row ↦ paired row.1 ts ]))
  go None = tt
  go (Some row) = cells_sound test row.1 ts h

only_names_lawful : (ts : List Token) → Each Sound ts → Each (λ t. IsLawfulName (spelling_of t)) (flat_map only_name ts)
only_names_lawful [] h = tt
only_names_lawful (t ∷ ts) h = by_test (is_name_word t.word) refl (only_names_lawful ts h.1) where
  by_test : (b : Bool) → is_name_word t.word ≡ b → Each (λ t. IsLawfulName (spelling_of t)) (flat_map only_name ts)
      → Each (λ t. IsLawfulName (spelling_of t)) ((if b then t ∷ [] else []) ++ flat_map only_name ts)
  by_test true e k = (name_lawful t e h.0, k)
  by_test false e k = k

variables_lawful : (ts : List Token) → IsFaultlessStatement ts → Each (λ t. IsLawfulName (spelling_of t)) (variables_of ts)
variables_lawful ts h = only_names_lawful (in_slot is_variable (cells_of ts)) (statement_cells is_variable ts h.words)

statements_known : (names : Names) (ss : List (List Token)) → Each (λ ts. Each (λ t. Known names.variables (spelling_of t)) (variables_of ts)) ss
    → Each (λ ts. Each (λ t. Known names.labels (spelling_of t)) (jumps_of ts)) ss
    → Each (λ ts. Each (λ t. Known names.procedures (spelling_of t)) (callees_of ts)) ss
    → Each (λ ts. repeated kind.DuplicateCallee [] (callees_of ts) ≡ []) ss → Each (NamesAreKnown names) ss
statements_known names [] v l p o = tt
statements_known names (ts ∷ ss) v l p o =
    (record { variables = v.0; labels = l.0; procedures = p.0; once = o.0 }, statements_known names ss v.1 l.1 p.1 o.1)

-- What the absence of faults of names says of one section.
record HasNoFault (all : List Section) (s : Section) : Type 0 where
  labels : repeated kind.DuplicateLabel [] (labels_in s) ≡ []
  jumps : unknown kind.UnknownLabel (labels_in s) (jumps_in s) ≡ []
  callees : unknown kind.UnknownProcedure (titles all) (callees_in s) ≡ []
  once : flat_map (λ c. repeated kind.DuplicateCallee [] (callees_of c)) (statements_of s.body) ≡ []

section_lawful : (all : List Section) (variables : List (List ℕ)) (s : Section) → IsFaultlessSection s → HasNoFault all s → Each
    (λ ts. Each (λ t. Known variables (spelling_of t)) (variables_of ts)) (statements_of s.body) → IsLawfulSection (names_in (titles all)) variables s
section_lawful all variables s f h v =
    let procedures = names_in (titles all) in
    let names : Names = record { procedures = procedures; variables = variables; labels = names_in (labels_in s) } in
    let ss = statements_of s.body in
    record {
      faultless = f;
      labels_once = h.labels;
      known = statements_known names ss v
          (each-from_flat_map (λ t. Known names.labels (spelling_of t)) jumps_of ss
          (none_unknown kind.UnknownLabel (labels_in s) (jumps_in s) h.jumps))
          (each-from_flat_map (λ t. Known procedures (spelling_of t)) callees_of ss
          (none_unknown kind.UnknownProcedure (titles all) (callees_in s) h.callees))
          (no_parts (λ c. repeated kind.DuplicateCallee [] (callees_of c)) ss h.once);
    }

sections_lawful : (all : List Section) (variables : List (List ℕ)) (ss : List Section) → Each IsFaultlessSection ss → Each (HasNoFault all) ss
    → Each (λ s. Each (λ ts. Each (λ t. Known variables (spelling_of t)) (variables_of ts)) (statements_of s.body)) ss
    → Each (IsLawfulSection (names_in (titles all)) variables) ss
sections_lawful all variables [] f h v = tt
sections_lawful all variables (s ∷ ss) f h v = (section_lawful all variables s f.0 h.0 v.0, sections_lawful all variables ss f.1 h.1 v.1)

-- What the absence of faults of names says of all sections.
record NoNameFaults (limits : Limits) (ss : List Section) : Type 0 where
  procedures : repeated kind.DuplicateProcedure [] (titles ss) ≡ []
  each : Each (HasNoFault ss) ss
  main : Known (names_in (titles ss)) (codes "main")
  few : length (titles ss) ≤ most_procedures limits

no_faults_each : (all ss : List Section) → Each (λ s. repeated kind.DuplicateLabel [] (labels_in s) ≡ []) ss → Each (λ s.
    unknown kind.UnknownLabel (labels_in s) (jumps_in s) ≡ []) ss → Each (λ s. unknown kind.UnknownProcedure (titles all) (callees_in s) ≡ []) ss
    → Each (λ s. flat_map (λ c. repeated kind.DuplicateCallee [] (callees_of c)) (statements_of s.body) ≡ []) ss → Each (HasNoFault all) ss
no_faults_each all [] b c d e = tt
no_faults_each all (s ∷ ss) b c d e = (record { labels = b.0; jumps = c.0; callees = d.0; once = e.0 }, no_faults_each all ss b.1 c.1 d.1 e.1)

main_known : (b : Bool) → (if b then [] else at kind.NoMain 0) ≡ [] → b ≡ true
main_known true e = refl
main_known false e = absurd (cc e)

none_dropped : (n : ℕ) (ts : List Token) → flat_map (λ t. at kind.TooManyProcedures t.start) (drop n ts) ≡ [] → length ts ≤ n
none_dropped n ts e = go (drop n ts) refl e where
  go : (us : List Token) → drop n ts ≡ us → flat_map (λ t. at kind.TooManyProcedures t.start) us ≡ [] → length ts ≤ n
  go [] f k = let none : length ts - n ≡ 0 = sym (length-drop n ts) ∙ ap length f in omega (arith, none)
  go (u ∷ us) f k = absurd (cc k)

no_name_faults : (limits : Limits) (ss : List Section) → name_faults limits ss ≡ [] → NoNameFaults limits ss
no_name_faults limits ss e =
    let a : List Fault = repeated kind.DuplicateProcedure [] (titles ss) in
    let b : List Fault = flat_map (λ s. repeated kind.DuplicateLabel [] (labels_in s)) ss in
    let c : List Fault = flat_map (λ s. unknown kind.UnknownLabel (labels_in s) (jumps_in s)) ss in
    let d : List Fault = flat_map (λ s. unknown kind.UnknownProcedure (titles ss) (callees_in s)) ss in
    let f : List Fault = flat_map (λ s. flat_map (λ c. repeated kind.DuplicateCallee [] (callees_of c)) (statements_of s.body)) ss in
    let g : List Fault = (if is_one_of (codes "main") (names_in (titles ss)) then [] else at kind.NoMain 0) in
    let h : List Fault = flat_map (λ t. at kind.TooManyProcedures t.start) (drop (most_procedures limits) (titles ss)) in
    let none_6 : a ++ b ++ c ++ d ++ f ++ g ≡ [] = no_left (a ++ b ++ c ++ d ++ f ++ g) h e in
    let none_5 : a ++ b ++ c ++ d ++ f ≡ [] = no_left (a ++ b ++ c ++ d ++ f) g none_6 in
    let none_4 : a ++ b ++ c ++ d ≡ [] = no_left (a ++ b ++ c ++ d) f none_5 in
    let none_3 : a ++ b ++ c ≡ [] = no_left (a ++ b ++ c) d none_4 in
    let none_2 : a ++ b ≡ [] = no_left (a ++ b) c none_3 in
    record {
      procedures = no_left a b none_2;
      each = no_faults_each ss ss
          (no_parts (λ s. repeated kind.DuplicateLabel [] (labels_in s)) ss (no_right a b none_2))
          (no_parts (λ s. unknown kind.UnknownLabel (labels_in s) (jumps_in s)) ss (no_right (a ++ b) c none_3))
          (no_parts (λ s. unknown kind.UnknownProcedure (titles ss) (callees_in s)) ss (no_right (a ++ b ++ c) d none_4))
          (no_parts (λ s. flat_map (λ c. repeated kind.DuplicateCallee [] (callees_of c)) (statements_of s.body)) ss
          (no_right (a ++ b ++ c ++ d) f none_5));
      main = main_known (is_one_of (codes "main") (names_in (titles ss))) (no_right (a ++ b ++ c ++ d ++ f) g none_6);
      few = none_dropped (most_procedures limits) (titles ss) (no_right (a ++ b ++ c ++ d ++ f ++ g) h e);
    }

-- The program of sections without faults.
program_in : List ℕ → List Section → Program
program_in text ss = record {
  procedures = procedures_from text (names_in (titles ss)) (variables_in ss) 0 ss;
  procedure_names = names_in (titles ss);
  variable_names = variables_in ss;
}

length-names : (ss : List Section) → length (names_in (titles ss)) ≡ length ss
length-names ss = length-map (titles ss) spelling_of ∙ length-map ss (λ s. s.title)

-- The tokens of all variables.
abbrev variable_tokens : List Section → List Token
variable_tokens ss = flat_map (λ s. flat_map variables_of (statements_of s.body)) ss

variables_known : (ss : List Section)
    → Each (λ s. Each (λ ts. Each (λ t. Known (variables_in ss) (spelling_of t)) (variables_of ts)) (statements_of s.body)) ss
variables_known ss =
    let K : Token → Type 0 = λ t. Known (variables_in ss) (spelling_of t) in
    let tokens : Each K (variable_tokens ss) =
    each-from_map (Known (variables_in ss)) spelling_of (variable_tokens ss) (each_once_known (names_in (variable_tokens ss))) in
    each-weaker (λ s. Each K (flat_map variables_of (statements_of s.body))) (λ s. Each (λ ts. Each K (variables_of ts)) (statements_of s.body))
    (λ s h. each-from_flat_map K variables_of (statements_of s.body) h) ss
    (each-from_flat_map K (λ s. flat_map variables_of (statements_of s.body)) ss tokens)

all_variables_lawful : (ss : List Section) → Each IsFaultlessSection ss → Each IsLawfulName (variables_in ss)
all_variables_lawful ss h =
    let L : Token → Type 0 = λ t. IsLawfulName (spelling_of t) in
    each_once_each IsLawfulName (names_in (variable_tokens ss)) (each-map IsLawfulName spelling_of (variable_tokens ss)
    (each-flat_map L (λ s. flat_map variables_of (statements_of s.body)) ss
    (each-weaker IsFaultlessSection (λ s. Each L (flat_map variables_of (statements_of s.body)))
    (λ s k. each-flat_map L variables_of (statements_of s.body) (each-weaker IsFaultlessStatement (λ ts.
    Each L (variables_of ts)) variables_lawful (statements_of s.body) (statements_faultless s.body k.lines))) ss h)))

sections_sound : (limits : Limits) (text : List ℕ) (ss : List Section) → Each IsFaultlessSection ss → NoNameFaults limits ss
    → AreFew (longest_text Large) ss → IsSound (program_in text ss)
unfolding program_in
sections_sound limits text ss f h few =
    let procedures : List (List ℕ) = names_in (titles ss) in
    let variables : List (List ℕ) = variables_in ss in
    let ps : List Procedure = procedures_from text procedures variables 0 ss in
    let size : length procedures ≡ length ps = length-names ss ∙ sym (length-procedures_from text procedures variables 0 ss) in
    record {
      numbered = λ k p e. procedures_numbered text procedures variables 0 ss k p e ∙ (let zero_on : 0 + k ≡ k = omega arith in zero_on);
      named = size;
      few = omega (arith, h.few, procedures_within_large limits, size, length-map (titles ss) spelling_of);
      main = known_contained procedures (codes "main") h.main;
      procedures_lawful = All-from_recursion IsLawfulName procedures
          (each-map IsLawfulName spelling_of (titles ss) (each-map (λ t. IsLawfulName (spelling_of t)) (λ s.
          s.title) ss (each-weaker IsFaultlessSection (λ s. IsLawfulName (spelling_of s.title)) (λ s k. k.title) ss f)));
      procedures_differ = all_differ procedures (none_repeated kind.DuplicateProcedure [] (titles ss) h.procedures).differ;
      variables_lawful = All-from_recursion IsLawfulName variables (all_variables_lawful ss f);
      variables_differ = all_differ variables (each_once_differ (names_in (variable_tokens ss)));
      statements_few = omega (arith, few.statements, total_is (λ q. length q.statements) ps, total_statements text procedures variables 0 ss);
      labels_few = omega (arith, few.labels, total_is (λ q. length q.labels) ps, total_labels text procedures variables 0 ss);
      variables_few = few.variables;
      procedures = subst (λ n. All (IsSoundProcedure (length variables) n) ps) size
          (All-from_recursion (IsSoundProcedure (length variables) (length procedures)) ps
          (procedures_sound text procedures variables 0 ss (sections_lawful ss variables ss f h.each (variables_known ss))));
    }

-- What a text without a fault shows.
pub record HasNoFaults (limits : Limits) (text : List ℕ) : Type 0 where
  pub short : length text ≤ longest_text limits
  pub lines : first_by_place (line_faults false (length text) (rows text)) ≡ None
  pub names : head_of (name_faults limits (sections text)) ≡ None

pub no_faults : (limits : Limits) (text : List ℕ) → fault_within limits text ≡ None → HasNoFaults limits text
no_faults limits text e = by_length (nat_lt (longest_text limits) (length text)) refl e where
  by_line : (o : Option Fault) → length text ≤ longest_text limits → first_by_place (line_faults false (length text) (rows text)) ≡ o
      → (elim o as (λ _. Option Fault) [ Some f ↦ Some f | None ↦ head_of (name_faults limits (sections text)) ]) ≡ None → HasNoFaults limits text
  by_line (Some f) short k h = absurd (cc h)
  by_line None short k h = record { short = short; lines = k; names = h }

  by_length : (b : Bool) → nat_lt (longest_text limits) (length text) ≡ b → (elim b as (λ _. Option Fault) [
    | true ↦ Some (record { kind = kind.TextTooLong; place = 0 })
    | false ↦ elim (first_by_place (line_faults false (length text) (rows text))) as (λ _. Option Fault) [
      | Some f ↦ Some f
      | None ↦ head_of (name_faults limits (sections text))
    ]
  ]) ≡ None → HasNoFaults limits text
  by_length true t h = absurd (cc h)
  by_length false t h =
      by_line (first_by_place (line_faults false (length text) (rows text))) (ltb-false (longest_text limits) (length text) t) refl h

-- Its sections.
text_faultless : (limits : Limits) (text : List ℕ) → HasNoFaults limits text → Each IsFaultlessSection (sections text)
text_faultless limits text h =
    sections_faultless false (token_lines (rows text)) (lines_faultless false (length text) (rows text) (rows_spelled 0 (lines text))
    (none_first (line_faults false (length text) (rows text)) h.lines))

text_names : (limits : Limits) (text : List ℕ) → HasNoFaults limits text → NoNameFaults limits (sections text)
text_names limits text h = no_name_faults limits (sections text) (none_head (name_faults limits (sections text)) h.names)

-- It has no more procedures than the limits allow.
pub text_few : (limits : Limits) (text : List ℕ) → HasNoFaults limits text → length (titles (sections text)) ≤ most_procedures limits
text_few limits text h = (text_names limits text h).few

pub text_lawful : (limits : Limits) (text : List ℕ) → HasNoFaults limits text
    → Each (IsLawfulSection (names_in (titles (sections text))) (variables_in (sections text))) (sections text)
text_lawful limits text h =
    let ss : List Section = sections text in
    sections_lawful ss (variables_in ss) ss (text_faultless limits text h) (text_names limits text h).each (variables_known ss)

-- The program of a text without a fault is sound.
faultless_sound : (limits : Limits) (text : List ℕ) → fault_within limits text ≡ None → IsSound (program_of text)
unfolding program_in
faultless_sound limits text e =
    let h = no_faults limits text e in
    let few = sections_few text in
    let short : length text ≤ longest_text Large = text_within_large limits (length text) h.short in
    sections_sound limits text (sections text) (text_faultless limits text h) (text_names limits text h)
    (record {
      statements = omega (arith, few.statements, short);
      labels = omega (arith, few.labels, short);
      variables = omega (arith, few.variables, short);
    })

-- The same of what the code makes of the text's sections.
pub program_sound : (limits : Limits) (text : List ℕ) (ss : List Section) (procedures variables : List (List ℕ)) → ss ≡ sections text
    → procedures ≡ names_in (titles ss) → variables ≡ variables_in ss → fault_within limits text ≡ None
    → IsSound (record { procedures = procedures_from text procedures variables 0 ss; procedure_names = procedures; variable_names = variables })
program_sound limits text ss procedures variables e f g none =
    subst IsSound (sym (program_is text ss procedures variables e f g)) (faultless_sound limits text none)

pub none_refused : (limits : Limits) (text : List ℕ) → refusal_within limits text ≡ None → fault_within limits text ≡ None
none_refused limits text e = go (fault_within limits text) e where
  go : (o : Option Fault) → option_map (refusal_at text) o ≡ None → o ≡ None
  go None k = refl
  go (Some f) k = absurd (cc k)

pub programs_are_sound : ProgramsAreSound
programs_are_sound limits text e = faultless_sound limits text (none_refused limits text e)
