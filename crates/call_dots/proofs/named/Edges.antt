-- Edges are put one after the other, each at the first call of its callee
use Rattle.std.proofs.Common.{◌≡◌, ◌≢◌, ℕ, zero, suc, ◌+◌, ◌<◌, ◌||◌, Bool, true, false, List, [], ◌∷◌, ◌++◌, map, fold, length}
use Rattle.std.proofs.Common.{get_or, set, take, nat_eq, if◌then◌else◌, refl, sym, ap, ◌∙◌, subst, arith, append-nil}
use Rattle.std.proofs.Common.{get_or-set_same, get_or-set_other}
use Rattle.std.specs.List.{list_any}
use Rattle.std.proofs.lemmas.List.{map-append}
use Rattle.std.proofs.lemmas.List.Folds.{list_any-append}
use Rattle.std.proofs.lemmas.List.Sums.{fold_more, sum_by-cons}
use Rattle.std.proofs.lemmas.Bool.{eqb-true}
use Rattle.call_dots.specs.Calls.{count_of, edge_of, first_calls, noted_call}
use Rattle.call_dots.specs.declared.calls.CallEdge.{CallEdge}
use Rattle.call_dots.specs.declared.calls.NamedCall.{NamedCall}

-- whether one of some calls names a callee
abbrev pub names : List NamedCall → ℕ → Bool
names known callee = list_any (λ k. nat_eq callee k.callee) known

-- what is left of a count: none, once it was put
abbrev pub left_of : List NamedCall → List NamedCall → ℕ → ℕ
left_of calls known callee = if names known callee then 0 else count_of calls callee

-- 1 where something is
abbrev one_if : Bool → ℕ
one_if b = if b then 1 else 0

-- a call more
one_call : (x : NamedCall) (calls : List NamedCall) (q : ℕ) → count_of (x ∷ calls) q ≡ one_if (nat_eq x.callee q) + count_of calls q
one_call x calls q = sum_by-cons (λ (call : NamedCall). one_if (nat_eq call.callee q)) x calls

-- a call among others is counted
counted : (calls : List NamedCall) (i : ℕ) (d : NamedCall) → i < length calls → 0 < count_of calls (get_or calls i d).callee
counted [] i d below = absurd (omega (arith, below))
counted (x ∷ calls) zero d below =
    let test : nat_eq x.callee x.callee ≡ true = grind arith in
    let one : one_if (nat_eq x.callee x.callee) ≡ 1 = ap one_if test in
    omega (arith, one_call x calls x.callee, one)
counted (x ∷ calls) (suc i) d below =
    omega (arith, counted calls i d (omega (arith, below)), one_call x calls (get_or calls i d).callee)

-- what no call names is not counted
none_counted : (calls : List NamedCall) (q : ℕ) → names calls q ≡ false → count_of calls q ≡ 0
none_counted [] q none = refl
none_counted (x ∷ calls) q none = by_test (nat_eq q x.callee) refl none (none_counted calls q)
  where
    by_test : (b : Bool) → nat_eq q x.callee ≡ b → (b || names calls q) ≡ false → (names calls q ≡ false → count_of calls q ≡ 0)
        → count_of (x ∷ calls) q ≡ 0
    by_test true is none rest = absurd (cc none)
    by_test false is none rest =
        let test : nat_eq x.callee q ≡ false = grind arith in
        let zero_here : one_if (nat_eq x.callee q) ≡ 0 = ap one_if test in
        omega (arith, one_call x calls q, zero_here, rest none)

or_false : (b : Bool) → (b || false) ≡ b
or_false true = refl
or_false false = refl

or_assoc : (a b c : Bool) → ((a || b) || c) ≡ (a || (b || c))
or_assoc true b c = refl
or_assoc false b c = refl

-- what is named once a call is noted
noted_names : (known : List NamedCall) (x : NamedCall) (q : ℕ) → names (noted_call known x) q ≡ (names known q || nat_eq q x.callee)
noted_names known x q = by_test (names known x.callee) refl
  where
    same_named : (b : Bool) → nat_eq q x.callee ≡ b → names known x.callee ≡ true → names known q ≡ (names known q || b)
    same_named true is there =
        let same : q ≡ x.callee = eqb-true q x.callee is in
        let named : names known q ≡ true = ap (names known) same ∙ there in
        named ∙ sym (ap (λ b. b || true) named)
    same_named false is there = sym (or_false (names known q))

    by_test : (b : Bool) → names known x.callee ≡ b → names (if b then known else known ++ x ∷ []) q ≡ (names known q || nat_eq q x.callee)
    by_test true there = same_named (nat_eq q x.callee) refl there
    by_test false none = list_any-append (λ (k : NamedCall). nat_eq q k.callee) known (x ∷ []) ∙ ap (λ b. names known q || b) (or_false (nat_eq q x.callee))

-- the first calls name what all name
first_names : (known calls : List NamedCall) (q : ℕ) → names (fold noted_call known calls) q ≡ (names known q || names calls q)
first_names known [] q = sym (or_false (names known q))
first_names known (x ∷ calls) q =
    first_names (noted_call known x) calls q ∙ ap (λ b. b || names calls q) (noted_names known x q)
    ∙ or_assoc (names known q) (nat_eq q x.callee) (names calls q)

-- nothing is left of any count at last
pub none_left : (calls : List NamedCall) (q : ℕ) → left_of calls (first_calls calls) q ≡ 0
none_left calls q = by_test (names (first_calls calls) q) refl
  where
    by_test : (b : Bool) → names (first_calls calls) q ≡ b → (if b then 0 else count_of calls q) ≡ 0
    by_test true is = refl
    by_test false is = none_counted calls q (sym (first_names [] calls q) ∙ is)

module _ (calls : List NamedCall) (i : ℕ) (x : NamedCall) (counts : List ℕ) (low : i < length calls)
    (here : get_or calls i x ≡ x) (inside : x.callee < length counts)
    (each : (callee : ℕ) → callee < length counts → get_or counts callee 0 ≡ left_of calls (first_calls (take i calls)) callee) where
  more : first_calls (take (i + 1) calls) ≡ noted_call (first_calls (take i calls)) x
  more = fold_more noted_call [] calls i x low ∙ ap (noted_call (first_calls (take i calls))) here

  some : 0 < count_of calls x.callee
  some = subst (λ (c : NamedCall). 0 < count_of calls c.callee) here (counted calls i x low)

  pub edges_put : map (edge_of calls) (first_calls (take i calls))
      ++ (if nat_eq (get_or counts x.callee 0) 0 then [] else record { call = x; count = get_or counts x.callee 0 } ∷ [])
      ≡ map (edge_of calls) (first_calls (take (i + 1) calls))
  edges_put = by_test (names (first_calls (take i calls)) x.callee) refl
    where
      by_test : (b : Bool) → names (first_calls (take i calls)) x.callee ≡ b
          → map (edge_of calls) (first_calls (take i calls))
          ++ (if nat_eq (get_or counts x.callee 0) 0 then [] else record { call = x; count = get_or counts x.callee 0 } ∷ [])
          ≡ map (edge_of calls) (first_calls (take (i + 1) calls))
      by_test true is =
          let none : get_or counts x.callee 0 ≡ 0 = each x.callee inside ∙ ap (λ b. if b then 0 else count_of calls x.callee) is in
          let stays : first_calls (take (i + 1) calls) ≡ first_calls (take i calls) =
          more ∙ ap (λ b. if b then first_calls (take i calls) else first_calls (take i calls) ++ x ∷ []) is in
          ap (λ n. map (edge_of calls) (first_calls (take i calls)) ++ (if nat_eq n 0 then [] else record { call = x; count = n } ∷ [])) none
          ∙ append-nil (map (edge_of calls) (first_calls (take i calls))) ∙ sym (ap (map (edge_of calls)) stays)
      by_test false is =
          let all : get_or counts x.callee 0 ≡ count_of calls x.callee = each x.callee inside ∙ ap (λ b. if b then 0 else count_of calls x.callee) is in
          let grows : first_calls (take (i + 1) calls) ≡ first_calls (take i calls) ++ x ∷ [] =
          more ∙ ap (λ b. if b then first_calls (take i calls) else first_calls (take i calls) ++ x ∷ []) is in
          let test : nat_eq (count_of calls x.callee) 0 ≡ false = (let above = some in grind arith) in
          let one : List CallEdge = record { call = x; count = count_of calls x.callee } ∷ [] in
          ap (λ n. map (edge_of calls) (first_calls (take i calls)) ++ (if nat_eq n 0 then [] else record { call = x; count = n } ∷ [])) all
          ∙ ap (λ b. map (edge_of calls) (first_calls (take i calls)) ++ (if b then [] else one)) test
          ∙ sym (map-append (edge_of calls) (first_calls (take i calls)) (x ∷ []))
          ∙ sym (ap (map (edge_of calls)) grows)

  pub left_put : (callee : ℕ) → callee < length counts
      → get_or (set counts x.callee 0) callee 0 ≡ left_of calls (first_calls (take (i + 1) calls)) callee
  left_put callee below = by_test (nat_eq callee x.callee) refl
    where
      now_named : (b : Bool) → nat_eq callee x.callee ≡ b → names (first_calls (take (i + 1) calls)) callee ≡ (names (first_calls (take i calls)) callee || b)
      now_named b is =
          ap (λ (k : List NamedCall). names k callee) more ∙ noted_names (first_calls (take i calls)) x callee
          ∙ ap (λ c. names (first_calls (take i calls)) callee || c) is

      or_true : (b : Bool) → (b || true) ≡ true
      or_true true = refl
      or_true false = refl

      by_test : (b : Bool) → nat_eq callee x.callee ≡ b
          → get_or (set counts x.callee 0) callee 0 ≡ left_of calls (first_calls (take (i + 1) calls)) callee
      by_test true is =
          let same : callee ≡ x.callee = eqb-true callee x.callee is in
          let named : names (first_calls (take (i + 1) calls)) callee ≡ true = now_named true is ∙ or_true (names (first_calls (take i calls)) callee) in
          ap (λ q. get_or (set counts x.callee 0) q 0) same ∙ get_or-set_same counts x.callee 0 0 inside
          ∙ sym (ap (λ b. if b then 0 else count_of calls callee) named)
      by_test false is =
          let other : callee ≢ x.callee = grind arith in
          let named : names (first_calls (take (i + 1) calls)) callee ≡ names (first_calls (take i calls)) callee =
          now_named false is ∙ or_false (names (first_calls (take i calls)) callee) in
          get_or-set_other counts x.callee callee 0 0 other ∙ each callee below
          ∙ sym (ap (λ b. if b then 0 else count_of calls callee) named)
