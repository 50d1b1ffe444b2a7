-- Lines without faults, by their words.
use Rattle.std.proofs.Common.{◌≡◌, ℕ, Bool, true, false, List, [], ◌∷◌, ◌++◌, length, map, flat_map, refl, sym, ap, ◌∙◌, subst, None, is_some}
use Rattle.std.proofs.Common.{true≢false, if◌then◌else◌}
use Rattle.std.specs.List.{AllByRecursion as Each, list_any}
use Rattle.std.proofs.lemmas.Bool.{le-ltb}
use Rattle.tac_lines.specs.Tokens.{Word, name, number, fixed, Token, Row, stop_of}
use Rattle.tac_lines.specs.Forms.{Slot, proc_form, end_form, labels_of, behind_labels, forms_for, some_form}
use Rattle.tac_lines.specs.LineFaults.{at, word_fault, bad_fault, row_faults, line_faults}
use Rattle.tac_program.specs.Limits.{longest_name, largest_number}
use Rattle.tac_lines.specs.code.Views.{prefix_of, others_of}
use Rattle.tac_lines.specs.declared.fault.Fault.{Fault}
use Rattle.tac_lines.specs.declared.refusal.RefusalKind.TheVariants as kind
use Rattle.tac_reader.proofs.lines.FaultlessLines.{IsSoundWord, Sound, IsFaultless, after}
use Rattle.tac_reader.proofs.tokens.Bare.{bare, all_erased, words_of, erased_words, has_form-erased, labels_of-erased, behind-erased}
use Rattle.tac_lines.proofs.lines.FineStatements.{fine_judge}

-- Where each part has no fault, the whole has none.
empty_each : {X : Type 0} (f : X → List Fault) (xs : List X) → Each (λ x. f x ≡ []) xs → flat_map f xs ≡ []
empty_each f [] h = refl
empty_each f (x ∷ xs) h = λ i. h.0 i ++ empty_each f xs h.1 i

sound_fault : (w : Word) (start stop : ℕ) → IsSoundWord w → word_fault (record { word = w; start = start; stop = stop }) ≡ []
sound_fault (name s) start stop h = ap (λ b. if b then at kind.NameTooLong start else []) (le-ltb longest_name (length s) h.short)
sound_fault (number n) start stop h = ap (λ b. if b then at kind.NumberTooLarge start else []) (le-ltb largest_number n h)
sound_fault (fixed s) start stop h = refl

sound_faults : (ts : List Token) → Each Sound (all_erased ts) → Each (λ t. word_fault t ≡ []) ts
sound_faults [] h = tt
sound_faults (t ∷ ts) h = (sound_fault t.word t.start t.stop h.0, sound_faults ts h.1)

-- The same of the tokens without their places.
some_form-erased : (fs : List (List Slot)) (ts : List Token) → some_form fs (all_erased ts) ≡ some_form fs ts
some_form-erased fs ts = λ i. list_any (λ f. has_form-erased f ts i) fs

forms-erased : (ts : List Token) → forms_for true (all_erased ts) ≡ forms_for true ts
forms-erased [] = refl
forms-erased (t ∷ ts) = refl

line_form-erased : (inside : Bool) (ts : List Token) → some_form (forms_for inside (prefix_of inside (all_erased ts)))
    (others_of inside (all_erased ts)) ≡ some_form (forms_for inside (prefix_of inside ts)) (others_of inside ts)
line_form-erased false ts = some_form-erased (forms_for false []) ts
line_form-erased true ts =
    (λ i. some_form ((ap (forms_for true) (labels_of-erased ts) ∙ forms-erased (labels_of ts)) i) (behind-erased ts i))
    ∙ some_form-erased (forms_for true (labels_of ts)) (behind_labels ts)

fine_row : (inside : Bool) (row : Row) → row.bad ≡ None → IsFaultless inside (all_erased row.tokens) → row_faults inside row ≡ []
fine_row inside row none h =
    λ i.
    ap bad_fault none i
    ++ empty_each word_fault row.tokens (sound_faults row.tokens h.words) i
    ++ fine_judge (forms_for inside (prefix_of inside row.tokens)) (others_of inside row.tokens) (is_some row.bad) (stop_of row.tokens)
    (sym (line_form-erased inside row.tokens) ∙ h.form) i

-- Lines one after another.
abbrev pub LinesFine : Bool → List (List Word) → Type 0
LinesFine inside [] = inside ≡ false
LinesFine inside (ws ∷ wss) = IsFaultless inside (map bare ws) × LinesFine (after inside (map bare ws)) wss

after-erased : (inside : Bool) (ts : List Token) → after inside (all_erased ts) ≡ after inside ts
after-erased inside ts = λ i. if has_form-erased proc_form ts i then true else if has_form-erased end_form ts i then false else inside

pub no_line_faults : (inside : Bool) (text_end : ℕ) (rs : List Row) → Each (λ row. row.bad ≡ None) rs
    → LinesFine inside (map (λ row. words_of row.tokens) rs) → line_faults inside text_end rs ≡ []
no_line_faults true text_end [] h f = absurd (true≢false f)
no_line_faults false text_end [] h f = refl
no_line_faults inside text_end (row ∷ others) h f =
    let fine : IsFaultless inside (all_erased row.tokens) = subst (IsFaultless inside) (sym (erased_words row.tokens)) f.0 in
    let next : LinesFine (after inside row.tokens) (map (λ r. words_of r.tokens) others) =
    subst (λ b. LinesFine b (map (λ (r : Row). words_of r.tokens) others))
    (ap (after inside) (sym (erased_words row.tokens)) ∙ after-erased inside row.tokens) f.1 in
    λ i. fine_row inside row h.0 fine i ++ no_line_faults (after inside row.tokens) text_end others h.1 next i
