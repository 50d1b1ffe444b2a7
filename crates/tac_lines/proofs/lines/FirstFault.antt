-- The first fault of a list is the first of its parts' first faults.
use Rattle.std.proofs.Common.{◌≡◌, ◌≢◌, ℕ, ◌<◌, ◌≤◌, ◌⊎◌, inl, inr, Bool, true, false, ◌&&◌, ◌||◌, List, [], ◌∷◌, ◌++◌, refl, sym, ap, ◌∙◌, subst}
use Rattle.std.proofs.Common.{arith, Option, Some, None, nat_le, ◌==◌, eq-eqb, if◌then◌else◌}
use Rattle.std.proofs.lemmas.Bool.{lt-ltb, le-ltb, eqb-true, cases_order}
use Rattle.std.proofs.lemmas.Bool.Decides.{leb_tells}
use Rattle.std.proofs.lemmas.Option.{same_Some}
use Rattle.std.specs.List.{AllByRecursion as Each}
use Rattle.tac_lines.specs.LineFaults.{number_of_kind, precedes, earlier, first_by_place}
use Rattle.tac_lines.specs.code.Views.{merged}
use Rattle.tac_lines.specs.declared.fault.Fault.{Fault}

-- The order of faults: by place, and at one place by number; and its negation.
abbrev pub Before : Fault → Fault → Type 0
Before a b = (a.place < b.place) ⊎ ((a.place ≡ b.place) × (number_of_kind a.kind ≤ number_of_kind b.kind))

abbrev Behind : Fault → Fault → Type 0
Behind a b = (b.place < a.place) ⊎ ((a.place ≡ b.place) × (number_of_kind b.kind < number_of_kind a.kind))

ne_eqb : (m n : ℕ) → m ≢ n → (m == n) ≡ false
ne_eqb m n h = by_test (m == n) refl where
  by_test : (t : Bool) → (m == n) ≡ t → t ≡ false
  by_test true same = absurd (h (eqb-true m n same))
  by_test false same = refl

-- the test in terms of its three tests
test : Bool → Bool → Bool → Bool
test lower same few = lower || (same && few)

unfoldable pub Tells : Fault → Fault → Type 0
Tells a b = ((precedes a b ≡ true) × Before a b) ⊎ ((precedes a b ≡ false) × Behind a b)

pub tells : (a b : Fault) → Tells a b
unfolding Tells test
tells a b = by_place (cases_order a.place b.place) where
  by_number : a.place ≡ b.place → ((nat_le (number_of_kind a.kind) (number_of_kind b.kind) ≡ true) × (number_of_kind a.kind ≤ number_of_kind b.kind))
      ⊎ ((nat_le (number_of_kind a.kind) (number_of_kind b.kind) ≡ false) × (number_of_kind b.kind < number_of_kind a.kind)) → Tells a b
  by_number e (inl (t, h)) = inl ((λ i. test (le-ltb a.place b.place (omega (arith, e)) i) (eq-eqb a.place b.place e i) (t i)), inr (e, h))
  by_number e (inr (t, h)) = inr ((λ i. test (le-ltb a.place b.place (omega (arith, e)) i) (eq-eqb a.place b.place e i) (t i)), inr (e, h))

  by_place : (a.place ≡ b.place) ⊎ ((a.place < b.place) ⊎ (b.place < a.place)) → Tells a b
  by_place (inl e) = by_number e (leb_tells (number_of_kind a.kind) (number_of_kind b.kind))
  by_place (inr (inl h)) =
      inl (ap (λ t. test t (a.place == b.place) (nat_le (number_of_kind a.kind) (number_of_kind b.kind))) (lt-ltb a.place b.place h), inl h)
  by_place (inr (inr h)) = inr (
    (λ i. test (le-ltb a.place b.place (omega (arith, h)) i) (ne_eqb a.place b.place (omega (arith, h)) i)
        (nat_le (number_of_kind a.kind) (number_of_kind b.kind))),
    inl h,
  )

pub precedes_of : (a b : Fault) → Before a b → precedes a b ≡ true
unfolding Tells
precedes_of a b h = go (tells a b) h where
  go : Tells a b → Before a b → precedes a b ≡ true
  go (inl t) k = t.0
  go (inr (t, inl l)) (inl k) = absurd (let never : ⊥ = omega (arith, l, k) in never)
  go (inr (t, inl l)) (inr k) = absurd (let never : ⊥ = omega (arith, l, k.0) in never)
  go (inr (t, inr l)) (inl k) = absurd (let never : ⊥ = omega (arith, l.0, k) in never)
  go (inr (t, inr l)) (inr k) = absurd (let never : ⊥ = omega (arith, l.1, k.1) in never)

before_trans : (a b c : Fault) → Before a b → Before b c → Before a c
before_trans a b c (inl h) (inl k) = inl (omega (arith, h, k))
before_trans a b c (inl h) (inr k) = inl (omega (arith, h, k.0))
before_trans a b c (inr h) (inl k) = inl (omega (arith, h.0, k))
before_trans a b c (inr h) (inr k) = inr (omega (arith, h.0, k.0), omega (arith, h.1, k.1))

behind_trans : (a b c : Fault) → Behind a b → Behind b c → Before a c → ⊥
behind_trans a b c (inl h) (inl k) (inl l) = omega (arith, h, k, l)
behind_trans a b c (inl h) (inl k) (inr l) = omega (arith, h, k, l.0)
behind_trans a b c (inl h) (inr k) (inl l) = omega (arith, h, k.0, l)
behind_trans a b c (inl h) (inr k) (inr l) = omega (arith, h, k.0, l.0)
behind_trans a b c (inr h) (inl k) (inl l) = omega (arith, h.0, k, l)
behind_trans a b c (inr h) (inl k) (inr l) = omega (arith, h.0, k, l.0)
behind_trans a b c (inr h) (inr k) (inl l) = omega (arith, h.0, k.0, l)
behind_trans a b c (inr h) (inr k) (inr l) = omega (arith, h.1, k.1, l.1)

pick : Bool → Fault → Fault → Fault
pick t a b = if t then a else b

earlier_three : (x f g : Fault) → earlier x (Some (earlier f (Some g))) ≡ earlier (earlier x (Some f)) (Some g)
unfolding Tells pick
earlier_three x f g = go (tells x f) (tells f g) (tells x g) where
  go : Tells x f → Tells f g → Tells x g → earlier x (Some (earlier f (Some g))) ≡ earlier (earlier x (Some f)) (Some g)
  go (inl (v, h)) (inl (u, k)) w =
      ap (λ t. earlier x (Some (pick t f g))) u ∙ ap (λ t. pick t x f) v
      ∙ sym (ap (λ t. earlier (pick t x f) (Some g)) v ∙ ap (λ t. pick t x g) (precedes_of x g (before_trans x f g h k)))
  go (inl (v, h)) (inr (u, k)) w = ap (λ t. earlier x (Some (pick t f g))) u ∙ sym (ap (λ t. earlier (pick t x f) (Some g)) v)
  go (inr (v, h)) (inl (u, k)) w =
      ap (λ t. earlier x (Some (pick t f g))) u ∙ ap (λ t. pick t x f) v
      ∙ sym (ap (λ t. earlier (pick t x f) (Some g)) v ∙ ap (λ t. pick t f g) u)
  go (inr (v, h)) (inr (u, k)) (inl (w, l)) = absurd (behind_trans x f g h k l)
  go (inr (v, h)) (inr (u, k)) (inr (w, l)) =
      ap (λ t. earlier x (Some (pick t f g))) u ∙ ap (λ t. pick t x g) w
      ∙ sym (ap (λ t. earlier (pick t x f) (Some g)) v ∙ ap (λ t. pick t f g) u)

earlier_merged : (x : Fault) (a b : Option Fault) → earlier x (merged a b) ≡ earlier (earlier x a) b
earlier_merged x None b = refl
earlier_merged x (Some f) None = refl
earlier_merged x (Some f) (Some g) = earlier_three x f g

pub first-append : (xs ys : List Fault) → first_by_place (xs ++ ys) ≡ merged (first_by_place xs) (first_by_place ys)
first-append [] ys = refl
first-append (x ∷ xs) ys = ap (λ o. let r : Option Fault = Some (earlier x o) in r) (first-append xs ys)
    ∙ ap (λ f. let r : Option Fault = Some f in r) (earlier_merged x (first_by_place xs) (first_by_place ys))

-- The first fault is one of them.
pub first_each : (P : Fault → Type 0) (fs : List Fault) (f : Fault) → Each P fs → first_by_place fs ≡ Some f → P f
first_each P [] f h e = absurd (cc e)
first_each P (x ∷ xs) f h e = go (first_by_place xs) refl (λ g k. first_each P xs g h.1 k) (same_Some _ f e) where
  one : (g : Fault) → (first_by_place xs ≡ Some g → P g) → first_by_place xs ≡ Some g → (t : Bool) → precedes x g ≡ t
      → (if precedes x g then x else g) ≡ f → P f
  one g rest k true t s = subst P (ap (λ u. if u then x else g) (sym t) ∙ s) h.0
  one g rest k false t s = subst P (ap (λ u. if u then x else g) (sym t) ∙ s) (rest k)

  go : (o : Option Fault) → first_by_place xs ≡ o → ((g : Fault) → first_by_place xs ≡ Some g → P g) → earlier x (first_by_place xs) ≡ f → P f
  go None k rest s = subst P (ap (earlier x) (sym k) ∙ s) h.0
  go (Some g) k rest s = one g (rest g) k (precedes x g) refl (ap (earlier x) (sym k) ∙ s)

-- Where no later fault stands before the first one.
pub first_front : (xs ys : List Fault) (f : Fault) → first_by_place xs ≡ Some f → Each (Before f) ys → first_by_place (xs ++ ys) ≡ Some f
first_front xs ys f e h = first-append xs ys ∙ ap (λ o. merged o (first_by_place ys)) e ∙ go (first_by_place ys) refl where
  go : (o : Option Fault) → first_by_place ys ≡ o → merged (Some f) (first_by_place ys) ≡ Some f
  go None k = ap (merged (Some f)) k
  go (Some g) k =
      ap (merged (Some f)) k ∙ ap (λ t. let r : Option Fault = Some (if t then f else g) in r) (precedes_of f g (first_each (Before f) ys g h k))

pub none_first : (fs : List Fault) → first_by_place fs ≡ None → fs ≡ []
none_first [] e = refl
none_first (f ∷ fs) e = absurd (cc e)
