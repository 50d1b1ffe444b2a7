-- The texts of a listing, piece by piece.
use Rattle.std.proofs.Common.{◌≡◌, ◌≢◌, ℕ, suc, ◌+◌, ◌-◌, ◌<◌, ◌≤◌, Bool, true, false, cond, List, [], ◌∷◌, ◌++◌, flat_map, length, take, drop}
use Rattle.std.proofs.Common.{get_or, codes, nat_le, refl, sym, ap, ◌∙◌, ◌==◌, if◌then◌else◌, append_assoc, append-nil, add-one, drop-cons, arith}
use Rattle.std.proofs.lemmas.Bool.Decides.{nat_tests}
use Rattle.std.proofs.lemmas.List.{take_all, drop_all}
use Rattle.std.proofs.lemmas.List.Elements.{All-head, All-tail}
use Rattle.tac_program.specs.Names.{Names, name_at}
use Rattle.tac_listing.specs.Listings.{labels_text, places_text, callees_text, statement_text}
use Rattle.tac_program.specs.declared.program.Label.{Label}
use Rattle.tac_program.specs.declared.program.Stmt.{Stmt}
use Rattle.tac_program.proofs.programs.LabelPlaces.{from, StandBehind, not_at}

pub nothing_at : (place p : ℕ) (xs : List ℕ) → p ≢ place → (if p == place then xs else []) ≡ []
nothing_at place p xs h = grind (arith, nat_tests)

-- what a label gives at a place
abbrev label_text : Names → ℕ → Label → List ℕ
label_text names place l = if l.place == place then name_at names.labels l.name ++ codes ":\n" else []

pub labels_text-behind : (names : Names) (place : ℕ) (ls : List Label) → StandBehind place ls → labels_text names place ls ≡ []
labels_text-behind names place [] h = refl
labels_text-behind names place (l ∷ ls) h =
    let first : place < l.place = All-head (λ (l : Label). place < l.place) l ls h in
    let none : label_text names place l ≡ [] = nothing_at place l.place _ (omega arith) in
    rw none (labels_text-behind names place ls (All-tail (λ (l : Label). place < l.place) l ls h))

-- the labels from a place on have all that stand at it
pub labels_text-from : (names : Names) (place : ℕ) (ls : List Label) → labels_text names place (from place ls) ≡ labels_text names place ls
labels_text-from names place [] = refl
labels_text-from names place (l ∷ ls) = by_test (nat_le place l.place) refl (labels_text-from names place ls) where
  by_test : (t : Bool) → nat_le place l.place ≡ t → labels_text names place (from place ls) ≡ labels_text names place ls
      → labels_text names place (cond t (l ∷ from place ls) (from place ls)) ≡ labels_text names place (l ∷ ls)
  by_test true e before = ap (λ r. label_text names place l ++ r) before
  by_test false e before =
      let none : label_text names place l ≡ [] = nothing_at place l.place _ (not_at place l.place e) in
      rw none before

-- the labels of a place and its statement, and what stands from the next place on
pub places_text-more : (names : Names) (place : ℕ) (labels : List Label) (stmts : List Stmt) (s : Stmt) → place < length stmts
    → s ≡ get_or stmts place s → places_text names place labels (drop place stmts) ≡ labels_text names place labels ++ codes "  "
    ++ statement_text names s.kind ++ codes "\n" ++ places_text names (place + 1) labels (drop (place + 1) stmts)
places_text-more names place labels stmts s within is = ap (places_text names place labels) (drop-cons stmts place s within) ∙ step where
  step : places_text names place labels (get_or stmts place s ∷ drop (suc place) stmts) ≡ labels_text names place labels ++ codes "  "
      ++ statement_text names s.kind ++ codes "\n" ++ places_text names (place + 1) labels (drop (place + 1) stmts)
  step = rw (add-one, ← is)

-- behind the last statement, the labels of the end
pub places_text-end : (names : Names) (place : ℕ) (labels : List Label) (stmts : List Stmt) → length stmts ≤ place
    → places_text names place labels (drop place stmts) ≡ labels_text names place labels
places_text-end names place labels stmts h = rw drop_all

-- a callee, and each further one behind its sign
callees_text-cons : (names : Names) (p : ℕ) (ps : List ℕ)
    → callees_text names (p ∷ ps) ≡ name_at names.procedures p ++ flat_map (λ q. codes " | " ++ name_at names.procedures q) ps
callees_text-cons names p [] = sym (append-nil (name_at names.procedures p))
callees_text-cons names p (q ∷ qs) =
    append_assoc (name_at names.procedures p) (codes " | ") (callees_text names (q ∷ qs))
    ∙ ap (λ r. name_at names.procedures p ++ (codes " | " ++ r)) (callees_text-cons names q qs)

-- the same, of a list by its places
pub callees_text-parts : (names : Names) (callees : List ℕ) (i : ℕ) → 1 ≤ length callees → length (take (length callees - 1) (drop 1 callees)) ≤ i
    → name_at names.procedures (get_or callees 0 0)
    ++ flat_map (λ q. codes " | " ++ name_at names.procedures q) (take i (take (length callees - 1) (drop 1 callees))) ≡ callees_text names callees
callees_text-parts names [] i some h = absurd (omega (arith, some))
callees_text-parts names (p ∷ ps) i some h =
    let less : suc (length ps) - 1 ≡ length ps = omega arith in
    let others : take (suc (length ps) - 1) ps ≡ ps = rw less (take_all (length ps) ps (omega arith)) in
    let within : length ps ≤ i = rw others at h in
    rw (others, take_all i ps within) (sym (callees_text-cons names p ps))
