-- Labels by place: those from a place on, and those behind it.
use Rattle.std.proofs.Common.{◌≡◌, ◌≢◌, ℕ, ◌+◌, ◌-◌, ◌<◌, ◌≤◌, Bool, true, false, cond, List, [], ◌∷◌, map, filter, length, drop, get_or, nat_lt}
use Rattle.std.proofs.Common.{nat_le, All, refl, length-drop, arith}
use Rattle.std.proofs.lemmas.Bool.Decides.{nat_tests}
use Rattle.std.proofs.lemmas.List.{get_or-drop, length-map}
use Rattle.std.proofs.lemmas.List.Elements.{All-nil, All-cons, All-head, All-tail, All-get_or, All-from_get_or}
use Rattle.std.proofs.lemmas.List.Kept.{IsNonDecreasingBy-filter}
use Rattle.std.proofs.Math.ListN.{get_or-map}
use Rattle.std.specs.List.Sorted.{IsNonDecreasingBy}
use Rattle.std.proofs.lemmas.Bool.{leb-true}
use Rattle.tac_program.specs.Programs.{LabelsRise}
use Rattle.tac_program.specs.declared.program.Label.{Label}

abbrev pub place_of : Label → ℕ
place_of l = l.place

-- the labels from a place on, and those behind it
abbrev pub from : ℕ → List Label → List Label
from place ls = filter (λ l. nat_le place l.place) ls

abbrev pub behind : ℕ → List Label → List Label
behind place ls = filter (λ l. nat_lt place l.place) ls

abbrev pub StandBehind : ℕ → List Label → Type 0
StandBehind place ls = All (λ l. place < l.place) ls

-- what a test on places says and leaves
pub not_at : (place p : ℕ) → nat_le place p ≡ false → p ≢ place
not_at place p h = λ e. grind (arith, nat_tests)

kept : (place p : ℕ) (x : Label) (ls ms : List Label) → ls ≡ ms → cond (nat_lt place p) (x ∷ ls) ls ≡ cond (nat_le (place + 1) p) (x ∷ ms) ms
kept place p x ls ms e = grind (arith, nat_tests)

dropped : (place p : ℕ) (x : Label) (ls ms : List Label) → nat_le place p ≡ false → ls ≡ ms → ls ≡ cond (nat_le (place + 1) p) (x ∷ ms) ms
dropped place p x ls ms h e = grind (arith, nat_tests)

-- from the first place on stand all
pub from-start : (ls : List Label) → from 0 ls ≡ ls
from-start [] = refl
from-start (l ∷ ls) = more l ls (from-start ls) where
  more : (l : Label) (ls : List Label) → from 0 ls ≡ ls → from 0 (l ∷ ls) ≡ l ∷ ls
  more l ls before = grind (arith, nat_tests)

-- of those from a place on, the ones behind it are those from the next place on
pub behind-from : (place : ℕ) (ls : List Label) → behind place (from place ls) ≡ from (place + 1) ls
behind-from place [] = refl
behind-from place (l ∷ ls) = by_test (nat_le place l.place) refl (behind-from place ls) where
  by_test : (t : Bool) → nat_le place l.place ≡ t → behind place (from place ls) ≡ from (place + 1) ls
      → behind place (cond t (l ∷ from place ls) (from place ls)) ≡ from (place + 1) (l ∷ ls)
  by_test true e before = kept place l.place l _ _ before
  by_test false e before = dropped place l.place l _ _ e before

pub behind-all : (place : ℕ) (ls : List Label) → StandBehind place ls → behind place ls ≡ ls
behind-all place [] h = refl
behind-all place (l ∷ ls) h =
    more l ls (behind-all place ls (All-tail (λ (l : Label). place < l.place) l ls h)) (All-head (λ (l : Label). place < l.place) l ls h)
  where
    more : (l : Label) (ls : List Label) → behind place ls ≡ ls → place < l.place → behind place (l ∷ ls) ≡ l ∷ ls
    more l ls before first = grind (arith, nat_tests)

pub All-from : (place : ℕ) (ls : List Label) → All (λ l. place ≤ l.place) (from place ls)
All-from place [] = All-nil (λ (l : Label). place ≤ l.place)
All-from place (l ∷ ls) = by_test (nat_le place l.place) refl (All-from place ls) where
  by_test : (t : Bool) → nat_le place l.place ≡ t → All (λ l. place ≤ l.place) (from place ls)
      → All (λ l. place ≤ l.place) (cond t (l ∷ from place ls) (from place ls))
  by_test true e before = All-cons (λ (l : Label). place ≤ l.place) l _ (leb-true place l.place e) before
  by_test false e before = before

-- places that do not fall, said of the labels
labels_rise : (ls : List Label) → LabelsRise ls → IsNonDecreasingBy place_of ls
labels_rise ls h = λ i j d le within.
    let bound : j < length (map place_of ls) = rw length-map within in
    let rise : get_or (map place_of ls) i d.place ≤ get_or (map place_of ls) j d.place = h i j d.place le bound in
    let low = get_or-map place_of ls i d in
    let high = get_or-map place_of ls j d in
    omega arith

places_rise : (ls : List Label) → IsNonDecreasingBy place_of ls → LabelsRise ls
places_rise ls h = λ i j d le within.
    let some : Label = record { name = 0; place = d } in
    let bound : j < length ls = rw length-map at within in
    let rise : (get_or ls i some).place ≤ (get_or ls j some).place = h i j some le bound in
    let low : get_or (map place_of ls) i d ≡ (get_or ls i some).place = get_or-map place_of ls i some in
    let high : get_or (map place_of ls) j d ≡ (get_or ls j some).place = get_or-map place_of ls j some in
    omega arith

pub LabelsRise-from : (place : ℕ) (ls : List Label) → LabelsRise ls → LabelsRise (from place ls)
LabelsRise-from place ls h = places_rise (from place ls) (IsNonDecreasingBy-filter place_of (λ l. nat_le place l.place) ls (labels_rise ls h))

-- from a label on that is not at the place, all stand behind the place
pub StandBehind-drop : (place i : ℕ) (ls : List Label) (d : Label) → LabelsRise ls → All (λ l. place ≤ l.place) ls → i < length ls
    → (get_or ls i d).place ≢ place → StandBehind place (drop i ls)
StandBehind-drop place i ls d rise ahead within other =
    All-from_get_or (λ (l : Label). place < l.place) (drop i ls) d (λ j h. each j (let n : j < length ls - i = rw length-drop at h in omega arith))
  where
    each : (j : ℕ) → i + j < length ls → place < (get_or (drop i ls) j d).place
    each j h =
        let here : place ≤ (get_or ls i d).place = All-get_or (λ (l : Label). place ≤ l.place) ls i d within ahead in
        let le : (get_or ls i d).place ≤ (get_or ls (i + j) d).place = labels_rise ls rise i (i + j) d (omega arith) h in
        rw get_or-drop (omega arith)
