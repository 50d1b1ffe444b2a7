-- What a statement names is there, and callees one by one.
use Rattle.std.proofs.Common.{◌≡◌, ℕ, zero, suc, ◌+◌, ◌<◌, List, [], ◌∷◌, ◌++◌, length, take, get_or, nat_lt, codes, if◌then◌else◌, append_assoc}
use Rattle.std.proofs.Common.{Option, Some, None, option_map, slice_get, unwrap_or, IfSome, refl, sym, ap, ◌∙◌, arith}
use Rattle.std.proofs.lemmas.Bool.{lt-ltb}
use Rattle.std.proofs.lemmas.List.{take_more}
use Rattle.tac_program.specs.Names.{Names, name_at}
use Rattle.tac_program.specs.Programs.{Procedure}
use Rattle.tac_listing.specs.Listings.{callees_text}
use Rattle.text_pieces.specs.code.Lists.{some_stand}

abbrev pub labels_of : Option Procedure → List (List ℕ)
labels_of o = unwrap_or (option_map (λ (p : Procedure). p.label_names) o) []

-- a label of a procedure that is there
pub label_there : (o : Option Procedure) (label : ℕ) → label < length (labels_of o) → IfSome o (λ (p : Procedure). label < length p.label_names)
label_there None label below = tt
label_there (Some p) label below = below

pub label_name : (o : Option Procedure) (label : ℕ) (name : List ℕ) → label < length (labels_of o)
    → IfSome o (λ (p : Procedure). slice_get p.label_names label ≡ Some name)
    → name ≡ name_at (labels_of o) label
label_name None label name below found =
    let never : label < 0 = below in
    absurd (omega (arith, never))
label_name (Some p) label name below found = sym (ap (λ n. unwrap_or n []) found)

-- a callee more
callees_with : (names : Names) (callees : List ℕ) (callee : ℕ)
    → callees_text names callees ++ (if some_stand callees then codes " | " else [])
    ++ name_at names.procedures callee ≡ callees_text names (callees ++ callee ∷ [])
callees_with names [] callee = refl
callees_with names (p ∷ []) callee = refl
callees_with names (p ∷ q ∷ callees) callee =
    append_assoc (name_at names.procedures p ++ codes " | " ++ callees_text names (q ∷ callees)) (codes " | ") (name_at names.procedures callee)
    ∙ append_assoc (name_at names.procedures p ++ codes " | ") (callees_text names (q ∷ callees)) (codes " | " ++ name_at names.procedures callee)
    ∙ ap (λ t. name_at names.procedures p ++ codes " | " ++ t) (sym
    (append_assoc (callees_text names (q ∷ callees)) (codes " | ") (name_at names.procedures callee)) ∙ callees_with names (q ∷ callees) callee)

-- whether any stands before a place
pub stand_before : {A : Type 0} (xs : List A) (i : ℕ) → i < length xs → some_stand (take i xs) ≡ nat_lt 0 i
stand_before [] i below = absurd (omega arith)
stand_before (x ∷ xs) zero below = refl
stand_before (x ∷ xs) (suc i) below =
    let some : 0 < suc i = omega arith in
    sym (lt-ltb 0 (suc i) some)

pub callees_more : (names : Names) (callees : List ℕ) (i : ℕ) → i < length callees
    → callees_text names (take i callees) ++ (if nat_lt 0 i then codes " | " else [])
    ++ name_at names.procedures (get_or callees i 0) ≡ callees_text names (take (i + 1) callees)
callees_more names callees i below =
    ap (λ b. callees_text names (take i callees) ++ (if b then codes " | " else []) ++ name_at names.procedures (get_or callees i 0))
    (sym (stand_before callees i below))
    ∙ callees_with names (take i callees) (get_or callees i 0)
    ∙ ap (callees_text names) (sym (take_more callees i 0 below))
