use Rattle.std.proofs.Common.{◌≡◌, ◌∙◌, ap, sym, ℕ, zero, suc, ◌+◌, ◌-◌, ◌*◌, ◌%◌, min, arith, List, [], ◌∷◌, take, refl, codes}
use Rattle.tac_lines.specs.Forms.{key, callee}
use Rattle.tac_lines.specs.code.Views.{slots_view, slot_view}
use Rattle.tac_lines.specs.declared.form.Slot.{Slot as Wanted}
use Rattle.tac_lines.proofs.forms.Calls.{bars, further_front}
use Rattle.tac_lines.proofs.form.call_slots.Goals as goal

map-take : (n : ℕ) (xs : List Wanted) → slots_view (take n xs) ≡ take n (slots_view xs)
map-take zero xs = refl
map-take (suc n) [] = refl
map-take (suc n) (x ∷ xs) = ap (λ r. slot_view x ∷ r) (map-take n xs)

front : (more : ℕ) → take (2 + more + more % 2) (key (codes "call") ∷ callee ∷ bars 7) ≡ key (codes "call") ∷ callee ∷ take (more + more % 2) (bars 7)
front more = ap (λ n. take n (key (codes "call") ∷ callee ∷ bars 7)) (let e : 2 + more + more % 2 ≡ suc (suc (more + more % 2)) = omega arith in e)

pub returns : goal.returns
returns c =
    let more = c.min-more.result in
    map-take (2 + more + more % 2) _
    ∙ front more
    ∙ ap (λ r. key (codes "call") ∷ callee ∷ r)
    (ap (λ m. take (m + m % 2) (bars 7)) (let e : more ≡ min (c.args.tokens - 2) (2 * 7) = omega arith in e)
    ∙ sym (further_front 7 (c.args.tokens - 2)))
