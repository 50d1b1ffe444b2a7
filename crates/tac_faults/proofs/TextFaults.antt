-- The first faults of a text's lines, and that of the whole text.
use Rattle.std.proofs.Common.{◌≡◌, ℕ, zero, suc, ◌+◌, ◌-◌, ◌<◌, ◌≤◌, ◌⊎◌, inl, inr, Bool, true, false, List, [], ◌∷◌, ◌++◌, length, map, take, drop}
use Rattle.std.proofs.Common.{refl, sym, ap, ◌∙◌, arith, Option, Some, None, slice_range, length-drop, if◌then◌else◌, nat_lt, option_map, slice_get}
use Rattle.std.specs.List.{prefix_len}
use Rattle.std.proofs.lemmas.List.{drop_all, take_rest}
use Rattle.std.proofs.lemmas.Bool.{cases_lt, le-ltb, lt-ltb}
use Rattle.std.proofs.lemmas.List.Sums.{prefix_len-le-length}
use Rattle.tac_faults.specs.Laws.{FirstIsTheReaders, NoneIsAccepted}
use Rattle.tac_faults.specs.Listed.{faults_within, first_faults, inside_next, most_found, or_else, refusals_within}
use Rattle.tac_lines.specs.LineFaults.{at, first_by_place, inside_after, line_faults, row_faults}
use Rattle.tac_lines.specs.Text.{lines, no_line_end}
use Rattle.tac_lines.specs.Tokens.{Row, row_from, rows, rows_from}
use Rattle.tac_lines.specs.code.Views.{fault_list}
use Rattle.tac_lines.specs.declared.fault.Fault.{Fault}
use Rattle.tac_lines.specs.declared.refusal.Refusal.{Refusal}
use Rattle.tac_lines.specs.declared.refusal.RefusalKind.TheVariants as kind
use Rattle.tac_lines.proofs.lines.FaultPlaces.{first_of_text, no_fault_step, rows_step}
use Rattle.tac_lines.proofs.lines.FirstFault.{none_first}
use Rattle.tac_lines.proofs.lines.LineSteps.{line_ended, line_last}
use Rattle.tac_program.specs.Limits.{longest_text}
use Rattle.tac_program.specs.declared.limits.Limits.{Limits}
use Rattle.tac_reader.specs.Faults.{fault_within, head_of, name_faults, refusal_at}
use Rattle.tac_reader.specs.Sections.{sections}

-- The first fault of the text by place is the first one of the first line that has one.
module _ (text : List ℕ) where
  abbrev rest : ℕ → List Row
  rest start = rows_from start (lines (drop start text))

  abbrev Agrees : ℕ → Bool → Type 0
  Agrees start inside = head_of (first_faults text inside (rest start)) ≡ first_by_place (line_faults inside (length text) (rest start))

  -- a line, by its first fault
  line_step : (start stop : ℕ) (inside : Bool) → lines (drop start text) ≡ slice_range text start stop ∷ lines (drop stop text) → start < stop
      → stop ≤ length text → ((after : Bool) → Agrees stop after) → Agrees start inside
  line_step start stop inside cut after within later =
      ap (λ r. head_of (first_faults text inside r)) step ∙ by_first (first_by_place (row_faults inside row)) refl
    where
      row : Row
      row = row_from start zero (slice_range text start stop)

      step : rest start ≡ row ∷ rest stop
      step = rows_step text start stop row cut after within refl

      by_first : (o : Option Fault) → first_by_place (row_faults inside row) ≡ o
          → head_of (first_faults text inside (row ∷ rest stop)) ≡ first_by_place (line_faults inside (length text) (rest start))
      by_first None e =
          ap (λ p. head_of (fault_list p ++ first_faults text (inside_next text inside row p) (rest stop))) e
          ∙ later (inside_after inside row)
          ∙ sym (ap (λ r. first_by_place (line_faults inside (length text) r)) step
          ∙ ap first_by_place
          (no_fault_step inside (inside_after inside row) (length text) row (rest stop) (none_first (row_faults inside row) e) refl))
      by_first (Some f) e =
          ap (λ p. head_of (fault_list p ++ first_faults text (inside_next text inside row p) (rest stop))) e
          ∙ sym (first_of_text text start stop inside row f (line_faults inside (length text) (rest start)) cut after within refl e refl)

  past : (start : ℕ) (inside : Bool) → length text ≤ start → Agrees start inside
  past start inside h =
      ap (λ t. head_of (first_faults text inside (rows_from start (lines t)))) (drop_all start text h)
      ∙ ended inside
      ∙ sym (ap (λ t. first_by_place (line_faults inside (length text) (rows_from start (lines t)))) (drop_all start text h))
    where
      ended : (i : Bool) → head_of (first_faults text i []) ≡ first_by_place (line_faults i (length text) [])
      ended true = refl
      ended false = refl

  further : (start : ℕ) (inside : Bool) → start < length text
      → ((stop : ℕ) (after : Bool) → start < stop → Agrees stop after) → Agrees start inside
  further start inside below later = by_line (cases_lt (start + n) (length text)) where
    n : ℕ
    n = prefix_len no_line_end (take (length text - start) (drop start text))

    few : n ≤ length text - start
    few =
        let size : length (drop start text) ≡ length text - start = length-drop start text in
        omega (
          arith,
          prefix_len-le-length no_line_end (take (length text - start) (drop start text)),
          ap length (take_rest text start),
          size,
        )

    by_line : ((start + n) < length text) ⊎ (length text ≤ (start + n)) → Agrees start inside
    by_line (inl h) = line_step start (start + n + 1) inside (line_ended text start n refl below h) (omega arith) (omega (arith, h))
        (λ i. later (start + n + 1) i (omega arith))
    by_line (inr h) = line_step start (start + n) inside (line_last text start n refl below h) (omega (arith, h, below)) (omega (arith, few, below))
        (λ i. later (start + n) i (omega (arith, h, below)))

  agrees : (fuel start : ℕ) (inside : Bool) → length text ≤ start + fuel → Agrees start inside
  agrees zero start inside enough = past start inside (omega (arith, enough))
  agrees (suc fuel) start inside enough = by_end (cases_lt start (length text)) (λ stop i h. agrees fuel stop i (omega (arith, enough, h))) where
    by_end : (start < length text) ⊎ (length text ≤ start) → ((stop : ℕ) (after : Bool) → start < stop → Agrees stop after) → Agrees start inside
    by_end (inl h) later = further start inside h later
    by_end (inr h) later = past start inside h

  pub first_is : head_of (first_faults text false (rows text)) ≡ first_by_place (line_faults false (length text) (rows text))
  first_is = agrees (length text) 0 false (omega arith)

-- What is told, by what the length, the lines and the names show.
choice : Bool → List Fault → List Fault → List Fault
choice long lines names = if long then at kind.TextTooLong 0 else or_else lines names

one : Bool → Option Fault → Option Fault → Option Fault
one long line names = elim long as (λ _. Option Fault) [
  | true ↦ Some (record { kind = kind.TextTooLong; place = 0 })
  | false ↦ elim line as (λ _. Option Fault) [ Some f ↦ Some f | None ↦ names ]
]

head_choice : (long : Bool) (lines names : List Fault) → head_of (choice long lines names) ≡ one long (head_of lines) (head_of names)
unfolding choice one
head_choice true lines names = refl
head_choice false [] names = refl
head_choice false (f ∷ fs) names = refl

head_is : (limits : Limits) (text : List ℕ) → head_of (faults_within limits text) ≡ fault_within limits text
unfolding choice one
head_is limits text =
    let long : Bool = nat_lt (longest_text limits) (length text) in
    head_choice long (first_faults text false (rows text)) (name_faults limits (sections text))
    ∙ ap (λ o. one long o (head_of (name_faults limits (sections text)))) (first_is text)

first_told : (text : List ℕ) (fs : List Fault) → slice_get (map (refusal_at text) (take most_found fs)) 0 ≡ option_map (refusal_at text) (head_of fs)
first_told text [] = refl
first_told text (f ∷ fs) = refl

pub first_is_the_readers : FirstIsTheReaders
first_is_the_readers limits text = first_told text (faults_within limits text) ∙ ap (option_map (refusal_at text)) (head_is limits text)

none_first_told : (rs : List Refusal) → slice_get rs 0 ≡ None → rs ≡ []
none_first_told [] e = refl
none_first_told (r ∷ rs) e = absurd (cc e)

pub none_is_accepted : NoneIsAccepted
none_is_accepted limits text = (
  λ e. sym (first_is_the_readers limits text) ∙ ap (λ rs. slice_get rs 0) e,
  λ e. none_first_told (refusals_within limits text) (first_is_the_readers limits text ∙ e),
)

-- Where no line has a fault, and where one has.
pub names_told : (limits : Limits) (text : List ℕ) → length text ≤ longest_text limits
    → first_by_place (line_faults false (length text) (rows text)) ≡ None → faults_within limits text ≡ name_faults limits (sections text)
unfolding choice
names_told limits text short none =
    ap (λ b. choice b (first_faults text false (rows text)) (name_faults limits (sections text)))
    (le-ltb (longest_text limits) (length text) short)
    ∙ go (first_faults text false (rows text)) (first_is text ∙ none)
  where
    go : (fs : List Fault) → head_of fs ≡ None → or_else fs (name_faults limits (sections text)) ≡ name_faults limits (sections text)
    go [] e = refl
    go (f ∷ fs) e = absurd (cc e)

pub lines_told : (limits : Limits) (text : List ℕ) (f : Fault) → length text ≤ longest_text limits
    → first_by_place (line_faults false (length text) (rows text)) ≡ Some f
    → faults_within limits text ≡ first_faults text false (rows text)
unfolding choice
lines_told limits text f short some =
    ap (λ b. choice b (first_faults text false (rows text)) (name_faults limits (sections text)))
    (le-ltb (longest_text limits) (length text) short)
    ∙ go (first_faults text false (rows text)) (first_is text ∙ some)
  where
    go : (fs : List Fault) → head_of fs ≡ Some f → or_else fs (name_faults limits (sections text)) ≡ fs
    go [] e = absurd (cc e)
    go (g ∷ fs) e = refl

pub length_told : (limits : Limits) (text : List ℕ) → longest_text limits < length text → faults_within limits text ≡ at kind.TextTooLong 0
unfolding choice
length_told limits text long =
    ap (λ b. choice b (first_faults text false (rows text)) (name_faults limits (sections text)))
    (lt-ltb (longest_text limits) (length text) long)

-- One line more.
pub line_more : (text : List ℕ) (start stop : ℕ) (inside after : Bool) (row : Row) (fault : Option Fault)
    → lines (drop start text) ≡ slice_range text start stop ∷ lines (drop stop text) → start < stop → stop ≤ length text
    → row_from start zero (slice_range text start stop) ≡ row → fault ≡ first_by_place (row_faults inside row)
    → inside_next text inside row fault ≡ after
    → first_faults text inside (rows_from start (lines (drop start text)))
    ≡ fault_list fault ++ first_faults text after (rows_from stop (lines (drop stop text)))
line_more text start stop inside after row fault cut behind within e found next =
    ap (first_faults text inside) (rows_step text start stop row cut behind within e)
    ∙ ap (λ o. fault_list o ++ first_faults text (inside_next text inside row o) (rows_from stop (lines (drop stop text)))) (sym found)
    ∙ ap (λ i. fault_list fault ++ first_faults text i (rows_from stop (lines (drop stop text)))) next

-- The end of the text.
pub lines_end : (text : List ℕ) (start : ℕ) (inside : Bool) → length text ≤ start
    → first_faults text inside (rows_from start (lines (drop start text))) ≡ (if inside then at kind.Unclosed (length text) else [])
lines_end text start inside h = ap (λ t. first_faults text inside (rows_from start (lines t))) (drop_all start text h)
