-- The lines of a text's statements rise.
use Rattle.std.proofs.Common.{◌≡◌, ℕ, zero, suc, ◌+◌, ◌<◌, ◌≤◌, Bool, true, false, not, ◌||◌, List, [], ◌∷◌, ◌++◌, length, map, flat_map, take, take_while}
use Rattle.std.proofs.Common.{Option, Some, None, IsSome, option_map, unwrap_or, if◌then◌else◌, refl, sym, ap, ◌∙◌, subst, arith, cond}
use Rattle.std.proofs.Common.{◌-◌, ◌^◌, count_by, min}
use Rattle.std.proofs.lemmas.List.Sums.{count_by-le-length, take_while-cons}
use Rattle.tac_lines.specs.Forms.{behind_labels, end_form, has_form, is_inner, label_form, proc_form}
use Rattle.std.proofs.lemmas.List.{length-take}
use Rattle.tac_lines.specs.Text.{is_line_end, line_after}
use Rattle.tac_lines.specs.Tokens.{Token, rows, token_lines, unless_empty}
use Rattle.tac_program.specs.Programs.{Procedure, Program}
use Rattle.tac_program.specs.declared.program.Stmt.{Stmt}
use Rattle.tac_program.specs.declared.program.StmtKind.{StmtKind}
use Rattle.flow_graph.specs.Points.{kind_at, statement_at}
use Rattle.tac_reader.specs.Parses.{names_in, procedures_from, program_of, start_of, variables_in, names_for, statement_of}
use Rattle.tac_reader.specs.Sections.{Section, opened_by, sections, sections_in, statements_of, titles}
use Rattle.flow_parts.specs.MergeLaws.{MergedTextsAreTheReport}
use Rattle.flow_texts.specs.Tables.{line_at}
use Rattle.part_laws.specs.TextLaws.{LinesOfTextsRise, PartsOfTextsAreTheReport}
use Rattle.part_laws.proofs.LineNumbers.{AllOn, Numbered, numbered_next, numbered_none, rows_numbered}
use Rattle.part_laws.proofs.Rising.{Above, AllBelow, above_less, append_below, line_of_stmt, lines_among, lines_below, lines_rise}

module _ (text : List ℕ) where
  -- the line of a statement by its tokens
  abbrev line_of : List Token → ℕ
  line_of ts = line_after (take (start_of ts) text)

  abbrev lines_of : List (List Token) → List ℕ
  lines_of tss = map line_of tss

  -- the lines of all statements of sections
  abbrev section_lines : List Section → List ℕ
  section_lines ss = flat_map (λ s. lines_of (statements_of s.body)) ss

  behind_on : (n : ℕ) (ts : List Token) → AllOn text n ts → AllOn text n (behind_labels ts)
  behind_on n [] on = tt
  behind_on n (t ∷ []) on = on
  behind_on n (t ∷ u ∷ ts) on = by_test (has_form label_form (t ∷ u ∷ [])) refl (behind_on n ts (on.1).1) where
    by_test : (b : Bool) → has_form label_form (t ∷ u ∷ []) ≡ b → AllOn text n (behind_labels ts) → AllOn text n (behind_labels (t ∷ u ∷ ts))
    by_test true test rest = rw test rest
    by_test false test rest = rw test on

  -- The statement of a line stands there, and others behind it.
  one_line : (k n : ℕ) (ts : List Token) (later : List ℕ) → k < n → AllOn text n ts → Above n later → Above k (lines_of (unless_empty ts) ++ later)
  one_line k n [] later less on above = above_less k n later (omega (arith, less)) above
  one_line k n (t ∷ ts) later less (at, on) above =
      (subst (λ (m : ℕ). k < m) (sym at) less, subst (λ (m : ℕ). Above m later) (sym at) above)

  lines_append : (xs ys : List (List Token)) (later : List ℕ) → lines_of (xs ++ ys) ++ later ≡ lines_of xs ++ (lines_of ys ++ later)
  lines_append [] ys later = refl
  lines_append (x ∷ xs) ys later = ap (λ (r : List ℕ). line_of x ∷ r) (lines_append xs ys later)

  not_proc : (ts : List Token) → is_inner ts ≡ true → has_form proc_form ts ≡ false
  not_proc ts inner = by_test (has_form proc_form ts) refl where
    by_test : (b : Bool) → has_form proc_form ts ≡ b → b ≡ false
    by_test true test = absurd (let no : is_inner ts ≡ false = rw test refl in cc (inner, no))
    by_test false test = refl

  abbrev body_lines : List (List Token) → List ℕ
  body_lines tss = lines_of (statements_of (take_while is_inner tss)) ++ section_lines (sections_in tss)

  -- Of lines with rising numbers: the statements of the sections that begin there, and of a section that began before.
  abbrev Outside : List (List Token) → Type 0
  Outside tss = (k : ℕ) → Numbered text k tss → Above k (section_lines (sections_in tss))

  abbrev Within : List (List Token) → Type 0
  Within tss = (k : ℕ) → Numbered text k tss → Above k (body_lines tss)

  opened : (line : List Token) (others : List (List Token)) → Outside others → Within others → (m : ℕ) → Numbered text m others
      → Above m (section_lines (opened_by line others ++ sections_in others))
  opened [] others outside within m on = outside m on
  opened (t ∷ []) others outside within m on = outside m on
  opened (t ∷ u ∷ us) others outside within m on = within m on

  outside_more : (ts : List Token) (others : List (List Token)) → Outside others → Within others → Outside (ts ∷ others)
  outside_more _ _ outside within k (numbered_next _ m ts others less on later) = by_test (has_form proc_form ts) refl where
    by_test : (b : Bool) → has_form proc_form ts ≡ b → Above k (section_lines (sections_in (ts ∷ others)))
    by_test true test =
        rw test (above_less k m (section_lines (opened_by ts others ++ sections_in others)) (omega (arith, less)) (opened ts others outside within m later))
    by_test false test = rw test (above_less k m (section_lines (sections_in others)) (omega (arith, less)) (outside m later))

  within_more : (ts : List Token) (others : List (List Token)) → Outside others → Within others → Within (ts ∷ others)
  within_more _ _ outside within k (numbered_next _ m ts others less on later) = by_test (is_inner ts) refl where
    by_test : (b : Bool) → is_inner ts ≡ b → Above k (body_lines (ts ∷ others))
    by_test true test =
        let plain : has_form proc_form ts ≡ false = not_proc ts test in
        let inner : Above k (lines_of (unless_empty (behind_labels ts)) ++ body_lines others) =
        one_line k m (behind_labels ts) (body_lines others) less (behind_on m ts on) (within m later) in
        let taken : take_while is_inner (ts ∷ others) ≡ ts ∷ take_while is_inner others =
        take_while-cons is_inner ts others ∙ ap (λ (b : Bool). cond b (ts ∷ take_while is_inner others) []) test in
        let same_sections : sections_in (ts ∷ others) ≡ sections_in others = rw plain refl in
        let same : body_lines (ts ∷ others) ≡ lines_of (unless_empty (behind_labels ts)) ++ body_lines others =
        ap (λ (tss : List (List Token)). lines_of (statements_of tss) ++ section_lines (sections_in (ts ∷ others))) taken
        ∙ ap (λ (ss : List Section). lines_of (unless_empty (behind_labels ts) ++ statements_of (take_while is_inner others)) ++ section_lines ss)
        same_sections
        ∙ lines_append (unless_empty (behind_labels ts)) (statements_of (take_while is_inner others)) (section_lines (sections_in others)) in
        subst (λ (ns : List ℕ). Above k ns) (sym same) inner
    by_test false test =
        let same : body_lines (ts ∷ others) ≡ section_lines (sections_in (ts ∷ others)) = rw test refl in
        subst (λ (ns : List ℕ). Above k ns) (sym same)
        (outside_more ts others outside within k (numbered_next k m ts others less on later))

  both_rise : (tss : List (List Token)) → Outside tss × Within tss
  both_rise [] = (λ k on. tt, λ k on. tt)
  both_rise (ts ∷ others) =
      let (outside, within) = both_rise others in
      (outside_more ts others outside within, within_more ts others outside within)

  -- The statements' lines are those of their tokens.
  mapped : (f : List Token → Stmt) (tss : List (List Token)) → ((ts : List Token) → line_of_stmt (f ts) ≡ line_of ts)
      → map line_of_stmt (map f tss) ≡ lines_of tss
  mapped f [] e = refl
  mapped f (ts ∷ tss) e = (λ i. e ts i ∷ mapped f tss e i)

  same_lines : (procedures variables : List (List ℕ)) (n : ℕ) (ss : List Section)
      → lines_among (procedures_from text procedures variables n ss) ≡ section_lines ss
  same_lines procedures variables n [] = refl
  same_lines procedures variables n (s ∷ ss) =
      (λ i. mapped (statement_of text (names_for procedures variables s)) (statements_of s.body) (λ ts. refl) i
      ++ same_lines procedures variables (suc n) ss i)

  pub program_rises : Above 0 (lines_among (program_of text).procedures)
  program_rises =
      subst (λ (ns : List ℕ). Above 0 ns) (sym (same_lines (names_in (titles (sections text))) (variables_in (sections text)) 0 (sections text)))
      ((both_rise (token_lines (rows text))).0 0 (rows_numbered text))

no_some : IsSome {T = StmtKind} None → ⊥
no_some e = cc e

-- No statement stands on a line below the last.
module _ (text : List ℕ) (few : length text < 2 ^ 32 - 1) where
  line_below : (ts : List Token) → line_of text ts < 2 ^ 32
  line_below ts =
      let before : List ℕ = take (start_of ts) text in
      let fed : count_by is_line_end before ≤ length before = count_by-le-length is_line_end before in
      let size : length before ≡ min (start_of ts) (length text) = length-take (start_of ts) text in
      let short : min (start_of ts) (length text) ≤ length text = omega arith in
      omega (arith, fed, size, short, few)

  all_below : (tss : List (List Token)) → AllBelow (2 ^ 32) (lines_of text tss)
  all_below [] = tt
  all_below (ts ∷ tss) = (line_below ts, all_below tss)

  sections_below : (ss : List Section) → AllBelow (2 ^ 32) (section_lines text ss)
  sections_below [] = tt
  sections_below (s ∷ ss) =
      append_below (2 ^ 32) (lines_of text (statements_of s.body)) (section_lines text ss) (all_below (statements_of s.body)) (sections_below ss)

  program_below : AllBelow (2 ^ 32) (lines_among (program_of text).procedures)
  program_below =
      subst (λ (ns : List ℕ). AllBelow (2 ^ 32) ns)
      (sym (same_lines text (names_in (titles (sections text))) (variables_in (sections text)) 0 (sections text)))
      (sections_below (sections text))

  pub points_below : (point : ℕ) → line_at (program_of text) point < 2 ^ 32
  points_below point = by_case (statement_at (program_of text) point) refl where
    by_case : (o : Option Stmt) → statement_at (program_of text) point ≡ o → line_at (program_of text) point < 2 ^ 32
    by_case None e =
        let none : line_at (program_of text) point ≡ 0 = ap (λ (o : Option Stmt). unwrap_or (option_map (λ (u : Stmt). u.span.line) o) 0) e in
        omega (arith, none)
    by_case (Some s) e =
        let low : line_of_stmt s < 2 ^ 32 = lines_below (program_of text) (2 ^ 32) point s program_below e in
        let same : line_at (program_of text) point ≡ line_of_stmt s =
        ap (λ (o : Option Stmt). unwrap_or (option_map (λ (u : Stmt). u.span.line) o) 0) e in
        omega (arith, low, same)

some_statement : (program : Program) (point : ℕ) → IsSome (kind_at program point) → (s : Stmt) × (statement_at program point ≡ Some s)
some_statement program point some = by_case (statement_at program point) refl where
  by_case : (o : Option Stmt) → statement_at program point ≡ o → (s : Stmt) × (statement_at program point ≡ Some s)
  by_case None e = absurd (no_some (subst (λ (o : Option Stmt). IsSome (option_map (λ s. s.kind) o)) e some))
  by_case (Some s) e = (s, e)

pub lines_of_texts_rise : LinesOfTextsRise
lines_of_texts_rise text p q less some_p some_q =
    let program = program_of text in
    let (s, at_p) = some_statement program p some_p in
    let (t, at_q) = some_statement program q some_q in
    let rises : line_of_stmt s < line_of_stmt t = lines_rise program 0 p q s t (program_rises text) less at_p at_q in
    let first : line_at program p ≡ line_of_stmt s = ap (λ (o : Option Stmt). unwrap_or (option_map (λ (u : Stmt). u.span.line) o) 0) at_p in
    let second : line_at program q ≡ line_of_stmt t = ap (λ (o : Option Stmt). unwrap_or (option_map (λ (u : Stmt). u.span.line) o) 0) at_q in
    omega (arith, rises, first, second)

-- The parts of the report on a text's program make it, where parts of programs whose lines rise do.
pub parts_of_texts : MergedTextsAreTheReport → PartsOfTextsAreTheReport
parts_of_texts merged text known digest count order sound few plain some most permuted =
    merged (program_of text) known digest count order sound (lines_of_texts_rise text) (points_below text few) plain some most permuted
