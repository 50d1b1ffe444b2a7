-- The text of a part of a report reads back as the part.
use Rattle.std.proofs.Common.{◌≡◌, refl, ℕ, zero, suc, ◌+◌, ◌-◌, ◌^◌, ◌<◌, ◌≤◌, ◌&&◌, ◌||◌, Bool, true, false, not, List}
use Rattle.std.proofs.Common.{[], ◌∷◌, ◌++◌}
use Rattle.std.proofs.Common.{Option, Some, None, Result, Ok, Err, map, length, take, codes, decimal, bytes_eq, reverse}
use Rattle.std.proofs.Common.{sym, ap, ◌∙◌, arith, append_assoc, if◌then◌else◌, nat_lt, nat_le, nat_eq}
use Rattle.std.proofs.Common.{option_and_then, option_map}
use Rattle.std.specs.List.{All, after_first, before_first, ends_with, list_all, slice_split, starts_with}
use Rattle.std.specs.Option.{option_or}
use Rattle.std.specs.Str.Parse.{IsNumeral, digits_value}
use Rattle.std.proofs.lemmas.Bool.{and_parts, lt-ltb, le-leb, ne_eqb}
use Rattle.std.proofs.lemmas.Bool.Decides.{Decides-eqb}
use Rattle.std.proofs.lemmas.Fmt.{decimal_is_IsNumeral}
use Rattle.std.proofs.lemmas.List.{length-append, reverse-append}
use Rattle.std.proofs.lemmas.Slice.Eq.{bytes_eq-Decides, ends_is, starts_is}
use Rattle.flow_graph.specs.Points.{point_count}
use Rattle.flow_graph.specs.Universes.{definitions, expressions}
use Rattle.flow_graph.specs.declared.analysis.Analysis.TheVariants.{Avail, Busy}
use Rattle.flow_graph.specs.declared.expression.Expr.{Expr}
use Rattle.flow_graph.specs.declared.expression.Expr.TheVariants.{Unary, Binary}
use Rattle.flow_texts.specs.Tables.{bit_text, expression_text, line_at, variable_text}
use Rattle.tac_listing.specs.Listings.{names_of, operand_text}
use Rattle.tac_program.specs.Names.{name_at}
use Rattle.tac_program.specs.Programs.{Program}
use Rattle.tac_program.specs.Sound.{IsLawfulName, IsSound}
use Rattle.tac_program.specs.Spelling.{is_digit, is_letter, is_name, is_name_byte, sign_of}
use Rattle.tac_program.specs.declared.program.Op.{Op}
use Rattle.tac_program.specs.declared.program.Op.TheVariants as op
use Rattle.tac_program.specs.declared.program.Operand.{Operand}
use Rattle.tac_program.specs.declared.program.Operand.TheVariants.{Variable, Number}
use Rattle.flow_reports.specs.Reports.{Knowledge, remark_text}
use Rattle.flow_reports.specs.declared.listed.PlacedRemark.{PlacedRemark}
use Rattle.flow_reports.specs.declared.remark.Remark.{Remark}
use Rattle.flow_reports.specs.declared.remark.Remark.TheVariants.{NeverReached, Unset, Computed, VeryBusy, Dead}
use Rattle.part_texts.specs.Lines.{Line, behind_words, is_colon, is_comma, is_line_feed, is_space, read_line, read_number}
use Rattle.part_texts.specs.Lines.{kind_of as kind_by_words}
use Rattle.part_texts.specs.Parts.{Heading, Part, end_words, fault_behind, heading_from, heading_of, is_end, json_heading_of, read_heading}
use Rattle.part_texts.specs.Shares.{most_parts}
use Rattle.part_texts.specs.Parts.{read_lines, read_part, read_rows}
use Rattle.part_texts.specs.Parts.{with_line, with_lines}
use Rattle.part_texts.specs.declared.fault.PartFault.{PartFault}
use Rattle.part_texts.specs.declared.form.PartForm.TheVariants.{Report}
use Rattle.part_texts.specs.declared.fault.PartFault.TheVariants.{NoPart}
use Rattle.part_texts.proofs.LineLists.{ends_there}
use Rattle.flow_parts.specs.MergeLaws.{counts_of, line_in, read_as}
use Rattle.flow_parts.specs.PartLaws.{kind_of}
use Rattle.flow_parts.specs.Parts.{end_line, part_lines, part_of, part_remarks}
use Rattle.flow_parts.proofs.ReadingBack.{Clear, after_there, before_there, clear_all, clear_append, decimal_clear, decimal_colons, decimal_lines}
use Rattle.flow_parts.proofs.ReadingBack.{decimal_spaces}
use Rattle.flow_parts.proofs.ReadingBack.{split_none, split_there}

-- numbers read back
all_from : (test : ℕ → Bool) (xs : List ℕ) → Clear (λ b. not (test b)) xs → list_all test xs ≡ true
all_from test [] clear = refl
all_from test (x ∷ xs) clear = λ i. is (test x) clear.0 i && all_from test xs clear.1 i
  where
    is : (b : Bool) → not b ≡ false → b ≡ true
    is true e = refl
    is false e = absurd (cc e)

digit_there : (d : ℕ) → d < 10 → not (is_digit (48 + d)) ≡ false
digit_there d few = λ i. not (le-leb 48 (48 + d) (omega arith) i && le-leb (48 + d) 57 (omega (arith, few)) i)

number_back : (most n : ℕ) → n ≤ most → n < 2 ^ 64 → read_number most (decimal n) ≡ Some n
number_back most n le few =
    let numeral : IsNumeral 10 (decimal n) × (digits_value 10 (decimal n) ≡ n) = decimal_is_IsNumeral n few in
    let some : nat_lt 0 (length (decimal n)) ≡ true = lt-ltb 0 (length (decimal n)) numeral.0.0 in
    let all : list_all is_digit (decimal n) ≡ true = all_from is_digit (decimal n) (decimal_clear (λ b. not (is_digit b)) digit_there n) in
    (λ i. if (some i && all i) && nat_le (numeral.1 i) most then Some (numeral.1 i) else None)
    ∙ ap (λ b. if b then Some n else None) (le-leb n most le)

-- the first line reads back
regroup : (p x o y d : List ℕ) → p ++ x ++ o ++ y ++ o ++ d ≡ p ++ (x ++ (o ++ (y ++ (o ++ d))))
regroup p x o y d = simp append_assoc

words_back : (digest : List ℕ) (count k : ℕ) → Clear is_space digest → 1 ≤ k → k ≤ count → count ≤ 4096
    → heading_of (slice_split is_space (codes "part " ++ decimal k ++ codes " of " ++ decimal count ++ codes " of " ++ digest))
    ≡ Some (record { form = Report; part = k; count = count; digest = digest })
words_back digest count k clear first last few =
    let part_clear : Clear is_space (codes "part") = clear_all is_space (codes "part") refl in
    let of_clear : Clear is_space (codes "of") = clear_all is_space (codes "of") refl in
    let cons : List ℕ → List (List ℕ) → List (List ℕ) = λ x xs. x ∷ xs in
    ap (λ line. heading_of (slice_split is_space line)) (regroup (codes "part ") (decimal k) (codes " of ") (decimal count) digest)
    ∙ ap heading_of
    (split_there is_space 32 refl (codes "part")
    (decimal k ++ 32 ∷ (codes "of" ++ 32 ∷ (decimal count ++ 32 ∷ (codes "of" ++ 32 ∷ digest)))) part_clear
    ∙ ap (cons (codes "part")) (split_there is_space 32 refl (decimal k) (codes "of" ++ 32 ∷ (decimal count ++ 32 ∷ (codes "of" ++ 32 ∷ digest)))
    (decimal_spaces k)
    ∙ ap (cons (decimal k)) (split_there is_space 32 refl (codes "of") (decimal count ++ 32 ∷ (codes "of" ++ 32 ∷ digest)) of_clear
    ∙ ap (cons (codes "of")) (split_there is_space 32 refl (decimal count) (codes "of" ++ 32 ∷ digest) (decimal_spaces count)
    ∙ ap (cons (decimal count)) (split_there is_space 32 refl (codes "of") digest of_clear
    ∙ ap (cons (codes "of")) (split_none is_space digest clear))))))
    ∙ (λ i. heading_from Report (number_back most_parts k (omega (arith, last, few)) (omega (arith, last, few)) i)
    (number_back most_parts count few (omega (arith, few)) i) digest)
    ∙ (λ i. if le-leb 1 k first i && (le-leb k count last i && le-leb count most_parts few i)
    then Some (record { form = Report; part = k; count = count; digest = digest }) else None)

heading_back : (digest : List ℕ) (count k : ℕ) → Clear is_space digest → 1 ≤ k → k ≤ count → count ≤ 4096
    → read_heading (codes "part " ++ decimal k ++ codes " of " ++ decimal count ++ codes " of " ++ digest)
    ≡ Some (record { form = Report; part = k; count = count; digest = digest })
heading_back digest count k clear first last few =
    ap (λ found. option_or found
    (json_heading_of (slice_split is_comma (codes "part " ++ decimal k ++ codes " of " ++ decimal count ++ codes " of " ++ digest))))
    (words_back digest count k clear first last few)

-- names, signs and expressions have no line feed
letters_clear : (xs : List ℕ) → list_all is_name_byte xs ≡ true → Clear is_line_feed xs
letters_clear [] all = tt
letters_clear (x ∷ xs) all =
    let both : (is_name_byte x ≡ true) × (list_all is_name_byte xs ≡ true) = and_parts _ _ all in
    (ne_eqb x 10 (λ same. false_true (sym (ap is_name_byte same) ∙ both.0)), letters_clear xs both.1)
  where
    false_true : ¬ (is_name_byte 10 ≡ true)
    false_true same = cc same

with_letter : (b c : Bool) → b ≡ true → (b || c) ≡ true
with_letter b c is = ap (λ a. a || c) is

name_clear : (name : List ℕ) → is_name name ≡ true → Clear is_line_feed name
name_clear [] is = tt
name_clear (b ∷ bs) is =
    let both : (is_letter b ≡ true) × (list_all is_name_byte bs ≡ true) = and_parts _ _ is in
    letters_clear (b ∷ bs) (λ i. with_letter (is_letter b) (is_digit b) both.0 i && both.1 i)

names_clear : (names : List (List ℕ)) → All IsLawfulName names → (v : ℕ) → Clear is_line_feed (name_at names v)
names_clear [] lawful v = tt
names_clear (name ∷ names) lawful zero = name_clear name (lawful 0 name (omega arith)).spelled
names_clear (name ∷ names) lawful (suc v) = names_clear names (λ k d below. lawful (suc k) d (omega (arith, below))) v

sign_clear : (o : Op) → list_all (λ b. not (is_line_feed b)) (sign_of o) ≡ true
sign_clear op.Plus = refl
sign_clear op.Minus = refl
sign_clear op.Star = refl
sign_clear op.Slash = refl
sign_clear op.Percent = refl
sign_clear op.And = refl
sign_clear op.Or = refl
sign_clear op.Caret = refl
sign_clear op.ShiftLeft = refl
sign_clear op.ShiftRight = refl
sign_clear op.Less = refl
sign_clear op.LessEqual = refl
sign_clear op.Greater = refl
sign_clear op.GreaterEqual = refl
sign_clear op.Equal = refl
sign_clear op.NotEqual = refl
sign_clear op.Tilde = refl
sign_clear op.Bang = refl

operand_clear : (program : Program) → IsSound program → (y : Operand) → Clear is_line_feed (operand_text (names_of program) y)
operand_clear program sound (Variable v) = names_clear program.variable_names sound.variables_lawful v
operand_clear program sound (Number n) = decimal_lines n

expression_clear : (program : Program) → IsSound program → (e : Expr) → Clear is_line_feed (expression_text program e)
expression_clear program sound (Unary o y) =
    clear_append is_line_feed (sign_of o) (operand_text (names_of program) y) (clear_all is_line_feed (sign_of o) (sign_clear o))
    (operand_clear program sound y)
expression_clear program sound (Binary y o z) =
    let left : List ℕ = operand_text (names_of program) y in
    let right : List ℕ = operand_text (names_of program) z in
    let blank : Clear is_line_feed (codes " ") = clear_all is_line_feed (codes " ") refl in
    clear_append is_line_feed (left ++ codes " " ++ sign_of o ++ codes " ") right
    (clear_append is_line_feed (left ++ codes " " ++ sign_of o) (codes " ")
    (clear_append is_line_feed (left ++ codes " ") (sign_of o)
    (clear_append is_line_feed left (codes " ") (operand_clear program sound y) blank)
    (clear_all is_line_feed (sign_of o) (sign_clear o))) blank) (operand_clear program sound z)

mapped_clear : (program : Program) → IsSound program → (es : List Expr) (v : ℕ) → Clear is_line_feed (name_at (map (expression_text program) es) v)
mapped_clear program sound [] v = tt
mapped_clear program sound (e ∷ es) zero = expression_clear program sound e
mapped_clear program sound (e ∷ es) (suc v) = mapped_clear program sound es v

remark_clear : (program : Program) → IsSound program → (remark : Remark) → Clear is_line_feed (remark_text program remark)
remark_clear program sound NeverReached = clear_all is_line_feed (codes "never reached") refl
remark_clear program sound (Unset v) =
    clear_append is_line_feed (variable_text program v) (codes " may be used before it is set")
    (names_clear program.variable_names sound.variables_lawful v)
    (clear_all is_line_feed (codes " may be used before it is set") refl)
remark_clear program sound (Computed e) =
    clear_append is_line_feed (bit_text program Avail e) (codes " is already computed") (mapped_clear program sound (expressions program) e)
    (clear_all is_line_feed (codes " is already computed") refl)
remark_clear program sound (VeryBusy e) =
    clear_append is_line_feed (bit_text program Busy e) (codes " is very busy") (mapped_clear program sound (expressions program) e)
    (clear_all is_line_feed (codes " is very busy") refl)
remark_clear program sound (Dead v) =
    clear_append is_line_feed (codes "assignment to " ++ variable_text program v) (codes " is dead")
    (clear_append is_line_feed (codes "assignment to ") (variable_text program v)
    (clear_all is_line_feed (codes "assignment to ") refl) (names_clear program.variable_names sound.variables_lawful v))
    (clear_all is_line_feed (codes " is dead") refl)

-- what a line ends with
ends_true : (xs needle : List ℕ) → ends_with nat_eq (xs ++ needle) needle ≡ true
ends_true xs needle = (ends_is Decides-eqb (xs ++ needle) needle (ends_with nat_eq (xs ++ needle) needle) refl).1 xs refl

tails_meet : (xs s front needle : List ℕ) → xs ++ s ≡ front ++ needle → take 3 (reverse s ++ reverse xs) ≡ take 3 (reverse needle ++ reverse front)
tails_meet xs s front needle same = ap (take 3) (sym (reverse-append xs s) ∙ ap reverse same ∙ reverse-append front needle)

abbrev Differ : List ℕ → List ℕ → List ℕ → Type 0
Differ xs s needle = (front : List ℕ) → ¬ (take 3 (reverse s ++ reverse xs) ≡ take 3 (reverse needle ++ reverse front))

clash : (n a b : List ℕ) → bytes_eq a n ≡ false → bytes_eq b n ≡ true → ¬ (a ≡ b)
clash n a b out within same = false_true (sym out ∙ ap (λ w. bytes_eq w n) same ∙ within)
  where
    false_true : ¬ (false ≡ true)
    false_true e = cc e

ends_false : (xs s needle : List ℕ) → Differ xs s needle → ends_with nat_eq (xs ++ s) needle ≡ false
ends_false xs s needle differ = by (ends_with nat_eq (xs ++ s) needle) refl
  where
    by : (b : Bool) → ends_with nat_eq (xs ++ s) needle ≡ b → b ≡ false
    by false e = refl
    by true e = absurd
        (differ (take (length (xs ++ s) - length needle) (xs ++ s)) (tails_meet xs s (take (length (xs ++ s) - length needle) (xs ++ s)) needle
        ((ends_is Decides-eqb (xs ++ s) needle (ends_with nat_eq (xs ++ s) needle) refl).0 e)))

never_false : (xs s : List ℕ) → Differ xs s (codes "never reached") → bytes_eq (xs ++ s) (codes "never reached") ≡ false
never_false xs s differ = by (bytes_eq (xs ++ s) (codes "never reached")) refl
  where
    by : (b : Bool) → bytes_eq (xs ++ s) (codes "never reached") ≡ b → b ≡ false
    by false e = refl
    by true e = absurd (differ [] (tails_meet xs s [] (codes "never reached") ((bytes_eq-Decides (xs ++ s) (codes "never reached")).0 e)))

abbrev pick : (a b c d e f : Bool) → Option ℕ
pick a b c d e f = if a then Some 0 else if b then Some 1 else if c then Some 2 else if d then Some 3 else if e && f then Some 4 else None

kind_back : (program : Program) (remark : Remark) → kind_by_words (remark_text program remark) ≡ Some (kind_of remark)
kind_back program NeverReached = refl
kind_back program (Unset v) =
    let xs : List ℕ = variable_text program v in
    let s : List ℕ = codes " may be used before it is set" in
    (λ i. pick (never_false xs s (λ front. clash (codes "deh") _ _ refl refl) i) (ends_true xs s i)
    (ends_with nat_eq (xs ++ s) (codes " is already computed")) (ends_with nat_eq (xs ++ s) (codes " is very busy"))
    (starts_with nat_eq (xs ++ s) (codes "assignment to ")) (ends_with nat_eq (xs ++ s) (codes " is dead")))
kind_back program (Computed e) =
    let xs : List ℕ = bit_text program Avail e in
    let s : List ℕ = codes " is already computed" in
    (λ i. pick (never_false xs s (λ front. clash (codes "deh") _ _ refl refl) i) (ends_false xs s (codes " may be used before it is set")
    (λ front. clash (codes "tes") _ _ refl refl) i)
    (ends_true xs s i) (ends_with nat_eq (xs ++ s) (codes " is very busy"))
    (starts_with nat_eq (xs ++ s) (codes "assignment to ")) (ends_with nat_eq (xs ++ s) (codes " is dead")))
kind_back program (VeryBusy e) =
    let xs : List ℕ = bit_text program Busy e in
    let s : List ℕ = codes " is very busy" in
    (λ i. pick (never_false xs s (λ front. clash (codes "deh") _ _ refl refl) i) (ends_false xs s (codes " may be used before it is set")
    (λ front. clash (codes "tes") _ _ refl refl) i)
    (ends_false xs s (codes " is already computed") (λ front. clash (codes "det") _ _ refl refl) i) (ends_true xs s i)
    (starts_with nat_eq (xs ++ s) (codes "assignment to ")) (ends_with nat_eq (xs ++ s) (codes " is dead")))
kind_back program (Dead v) =
    let xs : List ℕ = codes "assignment to " ++ variable_text program v in
    let s : List ℕ = codes " is dead" in
    (λ i. pick (never_false xs s (λ front. clash (codes "deh") _ _ refl refl) i) (ends_false xs s (codes " may be used before it is set")
    (λ front. clash (codes "tes") _ _ refl refl) i)
    (ends_false xs s (codes " is already computed") (λ front. clash (codes "det") _ _ refl refl) i)
    (ends_false xs s (codes " is very busy") (λ front. clash (codes "ysu") _ _ refl refl) i)
    ((starts_is Decides-eqb (xs ++ s) (codes "assignment to ") (starts_with nat_eq (xs ++ s) (codes "assignment to ")) refl).1
    (variable_text program v ++ s)
    (append_assoc (codes "assignment to ") (variable_text program v) s) i) (ends_true xs s i))

-- a line reads back
abbrev told : ℕ → List ℕ → Option ℕ → List ℕ → Option Line
told part text number behind =
    option_map (λ mark. record { mark = mark; part = part; text = text })
    (option_and_then (λ n. option_map (λ kind. record { section = 0; number = n; kind = kind })
    (option_and_then kind_by_words (behind_words (codes " ") behind))) number)

line_back : (program : Program) → ((p : ℕ) → line_at program p < 2 ^ 32) → (part : ℕ) (placed : PlacedRemark)
    → read_line Report part (line_in program part placed).text ≡ Some (line_in program part placed)
line_back program fit part placed =
    let text : List ℕ = (line_in program part placed).text in
    let words : List ℕ = remark_text program placed.remark in
    let number : List ℕ = decimal (line_at program placed.point) in
    let fits : line_at program placed.point < 2 ^ 32 = fit placed.point in
    let grouped : text ≡ number ++ 58 ∷ (32 ∷ words) = append_assoc number (codes ": ") words in
    let before : before_first is_colon text ≡ number =
    ap (before_first is_colon) grouped ∙ before_there is_colon 58 refl number (32 ∷ words) (decimal_colons (line_at program placed.point)) in
    let after : after_first is_colon text ≡ 32 ∷ words =
    ap (after_first is_colon) grouped ∙ after_there is_colon 58 refl number (32 ∷ words) (decimal_colons (line_at program placed.point)) in
    (λ i. told part text (read_number 4294967295 (before i)) (after i))
    ∙ ap (λ n. told part text n (32 ∷ words)) (number_back 4294967295 (line_at program placed.point) (omega (arith, fits)) (omega (arith, fits)))
    ∙ ap (λ k. option_map (λ mark. record { mark = mark; part = part; text = text })
    (option_map (λ kind. record { section = 0; number = line_at program placed.point; kind = kind }) k))
    (kind_back program placed.remark)

-- the lines of a part read back
abbrev stepped : Bool → Option Line → Result (List Line) PartFault → PartFault → Result (List Line) PartFault
stepped last found others fault = if last then Ok [] else elim found [ Some line ↦ with_line line others | None ↦ Err fault ]

and_false : (b : Bool) → b && false ≡ false
and_false true = refl
and_false false = refl

line_then : (part : ℕ) (line : List ℕ) (rest : List ℕ) (found : Line) → 0 < length rest → read_line Report part line ≡ Some found
    → read_lines Report part (line ∷ slice_split is_line_feed rest) ≡ with_line found (read_lines Report part (slice_split is_line_feed rest))
line_then part line rest found some reads =
    let others : List (List ℕ) = slice_split is_line_feed rest in
    let goes_on : is_end others ≡ false = ends_there rest ∙ ne_eqb (length rest) 0 (λ same. absurd (omega (arith, same, some))) in
    ap (λ e. stepped (bytes_eq line (end_words Report part) && e) (read_line Report part line) (read_lines Report part others) (fault_behind others)) goes_on
    ∙ ap (λ b. stepped b (read_line Report part line) (read_lines Report part others) (fault_behind others)) (and_false (bytes_eq line (end_words Report part)))
    ∙ ap (λ found. stepped false found (read_lines Report part others) (fault_behind others)) reads

end_clear : (part : ℕ) → Clear is_line_feed (end_words Report part)
end_clear part = clear_append is_line_feed (codes "end ") (decimal part) (clear_all is_line_feed (codes "end ") refl) (decimal_lines part)

last_back : (part : ℕ) → read_lines Report part (slice_split is_line_feed (end_line part)) ≡ Ok []
last_back part =
    ap (read_lines Report part) (split_there is_line_feed 10 refl (end_words Report part) [] (end_clear part))
    ∙ ap (λ b. stepped (b && true) (read_line Report part (end_words Report part)) (read_lines Report part ([] ∷ [])) (fault_behind ([] ∷ [])))
    ((bytes_eq-Decides (end_words Report part) (end_words Report part)).1 refl)

line_group : (t n l e : List ℕ) → t ++ n ++ l ++ e ≡ t ++ (n ++ (l ++ e))
line_group t n l e = simp append_assoc

lines_back : (program : Program) → IsSound program → ((p : ℕ) → line_at program p < 2 ^ 32) → (part : ℕ) (xs : List PlacedRemark)
    → read_lines Report part (slice_split is_line_feed (part_lines program xs ++ end_line part)) ≡ Ok (map (line_in program part) xs)
lines_back program sound fit part [] = last_back part
lines_back program sound fit part (x ∷ xs) =
    let text : List ℕ = (line_in program part x).text in
    let rest : List ℕ = part_lines program xs ++ end_line part in
    let clear : Clear is_line_feed text =
    clear_append is_line_feed (decimal (line_at program x.point) ++ codes ": ") (remark_text program x.remark)
    (clear_append is_line_feed (decimal (line_at program x.point)) (codes ": ") (decimal_lines (line_at program x.point))
    (clear_all is_line_feed (codes ": ") refl)) (remark_clear program sound x.remark) in
    let long : length rest ≡ length (part_lines program xs ++ end_words Report part) + 1 =
    ap length (sym (append_assoc (part_lines program xs) (end_words Report part) (codes "\n")))
    ∙ length-append (part_lines program xs ++ end_words Report part) (codes "\n") in
    ap (λ t. read_lines Report part (slice_split is_line_feed t)) (line_group text (codes "\n") (part_lines program xs) (end_line part))
    ∙ ap (read_lines Report part) (split_there is_line_feed 10 refl text rest clear)
    ∙ line_then part text rest (line_in program part x) (omega (arith, long)) (line_back program fit part x)
    ∙ ap (with_line (line_in program part x)) (lines_back program sound fit part xs)

part_group : (h n c l e : List ℕ) → h ++ n ++ (c ++ n) ++ l ++ e ≡ h ++ (n ++ (c ++ (n ++ (l ++ e))))
part_group h n c l e = simp append_assoc

two_clear : (a b : List ℕ) → Clear is_line_feed a → Clear is_line_feed b → Clear is_line_feed (a ++ b)
two_clear a b p q = clear_append is_line_feed a b p q

eight_clear : (a b c d e f g h : List ℕ) → Clear is_line_feed a → Clear is_line_feed b → Clear is_line_feed c → Clear is_line_feed d
    → Clear is_line_feed e → Clear is_line_feed f → Clear is_line_feed g → Clear is_line_feed h
    → Clear is_line_feed (a ++ b ++ c ++ d ++ e ++ f ++ g ++ h)
eight_clear a b c d e f g h p q r s t u v w =
    two_clear (a ++ b ++ c ++ d ++ e ++ f ++ g) h (two_clear (a ++ b ++ c ++ d ++ e ++ f) g (two_clear (a ++ b ++ c ++ d ++ e) f
    (two_clear (a ++ b ++ c ++ d) e (two_clear (a ++ b ++ c) d (two_clear (a ++ b) c (two_clear a b p q) r) s) t) u) v) w

counts_clear : (program : Program) → Clear is_line_feed (counts_of program)
counts_clear program =
    eight_clear (codes "points ") (decimal (point_count program)) (codes ", variables ") (decimal (length program.variable_names))
    (codes ", definitions ") (decimal (length (definitions program))) (codes ", expressions ") (decimal (length (expressions program)))
    (clear_all is_line_feed (codes "points ") refl) (decimal_lines (point_count program)) (clear_all is_line_feed (codes ", variables ") refl)
    (decimal_lines (length program.variable_names)) (clear_all is_line_feed (codes ", definitions ") refl)
    (decimal_lines (length (definitions program))) (clear_all is_line_feed (codes ", expressions ") refl)
    (decimal_lines (length (expressions program)))

abbrev behind : Option Heading → List ℕ → List (List ℕ) → Result Part PartFault
behind found counts others = elim found [ Some heading ↦ with_lines heading counts (read_lines heading.form heading.part others) | None ↦ Err NoPart ]

pub part_back : (program : Program) (known : Knowledge) (digest : List ℕ) (count k : ℕ) → IsSound program → ((p : ℕ) → line_at program p < 2 ^ 32)
    → Clear is_space digest → Clear is_line_feed digest → 1 ≤ k → k ≤ count → count ≤ 4096
    → read_part (part_of digest program known count k) ≡ Ok (read_as digest program known count k)
part_back program known digest count k sound fit spaces feeds first last few =
    let head : List ℕ = codes "part " ++ decimal k ++ codes " of " ++ decimal count ++ codes " of " ++ digest in
    let lines : List ℕ = part_lines program (part_remarks program known count k) in
    let heading : Heading = record { form = Report; part = k; count = count; digest = digest } in
    let head_clear : Clear is_line_feed head =
    two_clear (codes "part " ++ decimal k ++ codes " of " ++ decimal count ++ codes " of ") digest
    (two_clear (codes "part " ++ decimal k ++ codes " of " ++ decimal count) (codes " of ")
    (two_clear (codes "part " ++ decimal k ++ codes " of ") (decimal count) (two_clear (codes "part " ++ decimal k) (codes " of ")
    (two_clear (codes "part ") (decimal k) (clear_all is_line_feed (codes "part ") refl) (decimal_lines k))
    (clear_all is_line_feed (codes " of ") refl)) (decimal_lines count)) (clear_all is_line_feed (codes " of ") refl)) feeds in
    ap read_part (part_group head (codes "\n") (counts_of program) lines (end_line k))
    ∙ ap read_rows (split_there is_line_feed 10 refl head (counts_of program ++ 10 ∷ (lines ++ end_line k)) head_clear
    ∙ ap (λ xs. head ∷ xs) (split_there is_line_feed 10 refl (counts_of program) (lines ++ end_line k) (counts_clear program)))
    ∙ ap (λ o. behind o (counts_of program) (slice_split is_line_feed (lines ++ end_line k))) (heading_back digest count k spaces first last few)
    ∙ ap (with_lines heading (counts_of program)) (lines_back program sound fit k (part_remarks program known count k))
