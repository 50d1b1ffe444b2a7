-- The bits that a statement owns, by number
use Rattle.std.proofs.Common.{◌≡◌, ℕ, zero, suc, ◌+◌, ◌-◌, ◌<◌, ◌≤◌, ◌⊎◌, Bool, true, false, not, ◌||◌, List, [], ◌∷◌, ◌++◌, map, flat_map, length}
use Rattle.std.proofs.Common.{Option, Some, None, cond, option_map, option_and_then, slice_get, unwrap_or, nat_eq, nat_lt, position, fold}
use Rattle.std.proofs.Common.{if◌then◌else◌, inl, inr, refl, sym, ap, ◌∙◌, subst, append_assoc, length-append, arith}
use Rattle.std.specs.List.{list_any, prefix_len, range_with_len}
use Rattle.std.proofs.lemmas.Bool.{cases_lt, cases_eq, both_ways, eq-eqb, ne_eqb, or_parts}
use Rattle.std.proofs.lemmas.List.{length-map}
use Rattle.std.proofs.lemmas.List.FromFn.{length-range_with_len}
use Rattle.std.proofs.lemmas.Option.{slice_get_past}
use Rattle.tac_program.specs.Programs.{Program}
use Rattle.gen_kill.specs.code.Effects.{marks, owns, numbered}
use Rattle.flow_graph.specs.Points.{point_count, points}
use Rattle.flow_graph.specs.Transfers.{is_made_at}
use Rattle.flow_graph.specs.Universes.{Definition, definition_at, dummies, evaluated_at, expression_at, expressions, noted}
use Rattle.flow_graph.specs.declared.analysis.Analysis.TheVariants.{Reach, Avail}
use Rattle.flow_graph.specs.declared.expression.Expr.{Expr}
use Rattle.flow_graph.specs.Universes.{same_expression, some_expression, target_at}
use Rattle.flow_graph.proofs.bits.Added.{added}
use Rattle.flow_graph.proofs.bits.ExpressionEquality.{same_is_equal}
use Rattle.flow_graph.proofs.bits.Noted.{is_itself}
use Rattle.flow_graph.proofs.lists.Ranges.{flat_map-range_more}

module _ {A : Type 0} where
  -- whether a list has an element at a place that passes a test
  abbrev pub is_at : (A → Bool) → List A → ℕ → Bool
  is_at p xs n = unwrap_or (option_map p (slice_get xs n)) false

  pub is_at-left : (p : A → Bool) (xs ys : List A) (n : ℕ) → n < length xs → is_at p (xs ++ ys) n ≡ is_at p xs n
  is_at-left p [] ys n below = absurd (omega arith)
  is_at-left p (x ∷ xs) ys zero below = refl
  is_at-left p (x ∷ xs) ys (suc n) below = is_at-left p xs ys n (omega arith)

  pub is_at-right : (p : A → Bool) (xs ys : List A) (n k : ℕ) → n ≡ length xs + k → is_at p (xs ++ ys) n ≡ is_at p ys k
  is_at-right p [] ys n k is = ap (is_at p ys) (let e : n ≡ k = omega arith in e)
  is_at-right p (x ∷ xs) ys zero k is = absurd (omega arith)
  is_at-right p (x ∷ xs) ys (suc n) k is = is_at-right p xs ys n k (omega arith)

  pub is_at-past : (p : A → Bool) (xs : List A) (n : ℕ) → length xs ≤ n → is_at p xs n ≡ false
  is_at-past p xs n past = ap (λ o. unwrap_or (option_map p o) false) (slice_get_past xs n past)

  -- the first element that passes
  first-passes : (p : A → Bool) (xs : List A) → prefix_len (λ x. not (p x)) xs < length xs → is_at p xs (prefix_len (λ x. not (p x)) xs) ≡ true
  first-passes p [] below = absurd (omega arith)
  first-passes p (x ∷ xs) below = by_test (p x) refl below (first-passes p xs)
    where
      by_test : (t : Bool) → p x ≡ t → cond (not t) (1 + prefix_len (λ y. not (p y)) xs) 0 < suc (length xs)
          → (prefix_len (λ y. not (p y)) xs < length xs → is_at p xs (prefix_len (λ y. not (p y)) xs) ≡ true)
          → is_at p (x ∷ xs) (cond (not t) (1 + prefix_len (λ y. not (p y)) xs) 0) ≡ true
      by_test true is below rest = is
      by_test false is below rest = ap (is_at p (x ∷ xs))
          (let e : 1 + prefix_len (λ y. not (p y)) xs ≡ suc (prefix_len (λ y. not (p y)) xs) = omega arith in e) ∙ rest (omega arith)

  none-passes : (p : A → Bool) (xs : List A) (n : ℕ) → length xs ≤ prefix_len (λ x. not (p x)) xs → is_at p xs n ≡ false
  none-passes p [] n past = refl
  none-passes p (x ∷ xs) n past = by_test (p x) refl past (none-passes p xs) n
    where
      by_test : (t : Bool) → p x ≡ t → suc (length xs) ≤ cond (not t) (1 + prefix_len (λ y. not (p y)) xs) 0
          → ((n : ℕ) → length xs ≤ prefix_len (λ y. not (p y)) xs → is_at p xs n ≡ false) → (n : ℕ) → is_at p (x ∷ xs) n ≡ false
      by_test true is past rest n = absurd (omega arith)
      by_test false is past rest zero = is
      by_test false is past rest (suc n) = rest n (omega arith)

  -- where one element alone passes, it is at the position of the first
  pub is_at-position : (p : A → Bool) (xs : List A) → ((i j : ℕ) → is_at p xs i ≡ true → is_at p xs j ≡ true → i ≡ j) → (n : ℕ)
      → is_at p xs n ≡ marks (position p xs) n
  is_at-position p xs alone n = by_test (nat_lt (prefix_len (λ x. not (p x)) xs) (length xs)) refl
    where
      first : ℕ
      first = prefix_len (λ x. not (p x)) xs

      at_first : is_at p xs (prefix_len (λ x. not (p x)) xs) ≡ true → (t : Bool) → is_at p xs n ≡ t → t ≡ nat_eq n (prefix_len (λ x. not (p x)) xs)
      at_first passes true is = sym (eq-eqb n (prefix_len (λ x. not (p x)) xs) (alone n (prefix_len (λ x. not (p x)) xs) is passes))
      at_first passes false is =
          sym (ne_eqb n (prefix_len (λ x. not (p x)) xs) (λ same. both_ways (is_at p xs n) is (ap (is_at p xs) same ∙ passes)))

      by_test : (t : Bool) → nat_lt (prefix_len (λ x. not (p x)) xs) (length xs) ≡ t
          → is_at p xs n ≡ marks (cond t (let o : Option ℕ = Some (prefix_len (λ x. not (p x)) xs) in o) None) n
      by_test true is =
          let below : prefix_len (λ x. not (p x)) xs < length xs = grind arith in
          at_first (first-passes p xs below) (is_at p xs n) refl
      by_test false is =
          let past : length xs ≤ prefix_len (λ x. not (p x)) xs = grind arith in
          none-passes p xs n past

  pub none-is_at : (p : A → Bool) (xs : List A) (i : ℕ) (x : A) → list_any p xs ≡ false → slice_get xs i ≡ Some x → p x ≡ false
  none-is_at p [] i x none at = absurd (cc at)
  none-is_at p (y ∷ ys) zero x none at = first (p y) (list_any p ys) none (ap p (let e : y ≡ x = cc at in e))
    where
      first : (s t : Bool) → (s || t) ≡ false → s ≡ p x → p x ≡ false
      first true t e same = absurd (cc e)
      first false t e same = sym same
  none-is_at p (y ∷ ys) (suc i) x none at = none-is_at p ys i x (or_parts (p y) (list_any p ys) none).1 at

-- ---- definitions

-- the definitions before those of a point
abbrev so_far : Program → ℕ → List Definition
so_far program n = dummies program ++ flat_map (definition_at program) (range_with_len 0 n)

so_far-more : (program : Program) (n : ℕ) → so_far program (n + 1) ≡ so_far program n ++ definition_at program n
so_far-more program n =
    ap (λ ds. dummies program ++ ds) (flat_map-range_more (definition_at program) n)
    ∙ sym (append_assoc (dummies program) (flat_map (definition_at program) (range_with_len 0 n)) (definition_at program n))

no_dummy : (point : ℕ) (xs : List ℕ) (bit : ℕ) → is_at (is_made_at point) (map (λ x. let d : Definition = (x, None) in d) xs) bit ≡ false
no_dummy point [] bit = refl
no_dummy point (x ∷ xs) zero = refl
no_dummy point (x ∷ xs) (suc bit) = no_dummy point xs bit

added-other : (point other : ℕ) (target : Option ℕ) (k : ℕ) → (point ≡ other → ⊥) → is_at (is_made_at point) (added other target) k ≡ false
added-other point other None k apart = refl
added-other point other (Some x) zero apart = ne_eqb point other apart
added-other point other (Some x) (suc k) apart = refl

-- a definition of a later point is not there yet
not_yet : (program : Program) (n point bit : ℕ) → n ≤ point → is_at (is_made_at point) (so_far program n) bit ≡ false
not_yet program zero point bit later = by_place (cases_lt bit (length (dummies program)))
  where
    by_place : (bit < length (dummies program)) ⊎ (length (dummies program) ≤ bit) → is_at (is_made_at point) (so_far program zero) bit ≡ false
    by_place (inl below) =
        is_at-left (is_made_at point) (dummies program) [] bit below ∙ no_dummy point (range_with_len 0 (length program.variable_names)) bit
    by_place (inr past) = is_at-right (is_made_at point) (dummies program) [] bit (bit - length (dummies program)) (omega arith)
not_yet program (suc n) point bit later =
    ap (λ ds. is_at (is_made_at point) ds bit) (ap (so_far program) (let e : suc n ≡ n + 1 = omega arith in e) ∙ so_far-more program n)
    ∙ by_place (cases_lt bit (length (so_far program n))) (not_yet program n point bit (omega arith))
  where
    by_place : (bit < length (so_far program n)) ⊎ (length (so_far program n) ≤ bit) → is_at (is_made_at point) (so_far program n) bit ≡ false
        → is_at (is_made_at point) (so_far program n ++ definition_at program n) bit ≡ false
    by_place (inl below) before = is_at-left (is_made_at point) (so_far program n) (definition_at program n) bit below ∙ before
    by_place (inr past) before =
        is_at-right (is_made_at point) (so_far program n) (definition_at program n) bit (bit - length (so_far program n)) (omega arith)
        ∙ added-other point n (target_at program n) (bit - length (so_far program n)) (λ e. absurd (omega arith))

-- the definition of the last point stands last
added-here : (point : ℕ) (target : Option ℕ) (before bit : ℕ) → before ≤ bit
    → is_at (is_made_at point) (added point target) (bit - before) ≡ marks (option_map (λ x. before) target) bit
added-here point None before bit past = refl
added-here point (Some x) before bit past = by_place (bit - before) refl
  where
    by_place : (k : ℕ) → bit - before ≡ k → is_at (is_made_at point) ((x, Some point) ∷ []) k ≡ nat_eq bit before
    by_place zero is = eq-eqb point point refl ∙ sym (eq-eqb bit before (omega arith))
    by_place (suc k) is = sym (ne_eqb bit before (λ e. absurd (omega arith)))

marked-below : (target : Option ℕ) (before bit : ℕ) → bit < before → false ≡ marks (option_map (λ x. before) target) bit
marked-below None before bit below = refl
marked-below (Some x) before bit below = sym (ne_eqb bit before (λ e. absurd (omega arith)))

made_by : (program : Program) (n point bit : ℕ) → point < n
    → is_at (is_made_at point) (so_far program n) bit ≡ marks (numbered program (length (so_far program point)) point) bit
made_by program zero point bit earlier = absurd (omega arith)
made_by program (suc n) point bit earlier =
    ap (λ ds. is_at (is_made_at point) ds bit) (ap (so_far program) (let e : suc n ≡ n + 1 = omega arith in e) ∙ so_far-more program n)
    ∙ by_point (cases_eq point n) (cases_lt bit (length (so_far program n))) (made_by program n point bit)
  where
    by_point : (point ≡ n) ⊎ (point ≡ n → ⊥) → (bit < length (so_far program n)) ⊎ (length (so_far program n) ≤ bit)
        → (point < n → is_at (is_made_at point) (so_far program n) bit ≡ marks (numbered program (length (so_far program point)) point) bit)
        → is_at (is_made_at point) (so_far program n ++ definition_at program n) bit
        ≡ marks (numbered program (length (so_far program point)) point) bit
    by_point (inl same) (inl below) rest =
        is_at-left (is_made_at point) (so_far program n) (definition_at program n) bit below
        ∙ not_yet program n point bit (omega arith)
        ∙ marked-below (target_at program point) (length (so_far program point)) bit (subst (λ m. bit < length (so_far program m)) (sym same) below)
    by_point (inl same) (inr past) rest =
        is_at-right (is_made_at point) (so_far program n) (definition_at program n) bit (bit - length (so_far program n)) (omega arith)
        ∙ subst (λ m. is_at (is_made_at point) (definition_at program m) (bit - length (so_far program m))
        ≡ marks (numbered program (length (so_far program point)) point) bit) same
        (added-here point (target_at program point) (length (so_far program point)) bit
        (subst (λ m. length (so_far program m) ≤ bit) (sym same) past))
    by_point (inr apart) (inl below) rest =
        is_at-left (is_made_at point) (so_far program n) (definition_at program n) bit below ∙ rest (omega arith)
    by_point (inr apart) (inr past) rest =
        is_at-right (is_made_at point) (so_far program n) (definition_at program n) bit (bit - length (so_far program n)) (omega arith)
        ∙ added-other point n (target_at program n) (bit - length (so_far program n)) apart
        ∙ sym (is_at-past (is_made_at point) (so_far program n) bit past)
        ∙ rest (omega arith)

pub definition_is_own : (program : Program) (number point bit : ℕ) → point < point_count program
    → number ≡ length program.variable_names + length (flat_map (definition_at program) (range_with_len 0 point))
    → marks (numbered program number point) bit ≡ owns program Reach point bit
definition_is_own program number point bit below is =
    let dummy_count : length (dummies program) ≡ length program.variable_names =
    length-map (range_with_len 0 (length program.variable_names)) (λ x. let d : Definition = (x, None) in d)
    ∙ length-range_with_len 0 (length program.variable_names) in
    let same : number ≡ length (so_far program point) =
    omega (arith, is, dummy_count, length-append (dummies program) (flat_map (definition_at program) (range_with_len 0 point))) in
    ap (λ m. marks (numbered program m point) bit) same ∙ sym (made_by program (point_count program) point bit below)

-- ---- expressions

-- no expression is there twice
abbrev StandOnce : List Expr → Type 0
StandOnce es = (i j : ℕ) (e : Expr) → slice_get es i ≡ Some e → slice_get es j ≡ Some e → i ≡ j

get-left : (xs ys : List Expr) (n : ℕ) → n < length xs → slice_get (xs ++ ys) n ≡ slice_get xs n
get-left [] ys n below = absurd (omega arith)
get-left (x ∷ xs) ys zero below = refl
get-left (x ∷ xs) ys (suc n) below = get-left xs ys n (omega arith)

get-last : (xs : List Expr) (y x : Expr) (n : ℕ) → length xs ≤ n → slice_get (xs ++ y ∷ []) n ≡ Some x → (n ≡ length xs) × (x ≡ y)
get-last [] y x zero past at = (refl, cc at)
get-last [] y x (suc n) past at = absurd (cc at)
get-last (z ∷ xs) y x zero past at = absurd (omega arith)
get-last (z ∷ xs) y x (suc n) past at = let (is, same) = get-last xs y x n (omega arith) at in (omega arith, same)

put-once : (known : List Expr) (e : Expr) → list_any (same_expression e) known ≡ false → StandOnce known → StandOnce (known ++ e ∷ [])
put-once known e none once i j x at_i at_j = by_place (cases_lt i (length known)) (cases_lt j (length known))
  where
    apart : (k : ℕ) → k < length known → slice_get (known ++ e ∷ []) k ≡ Some x → x ≡ e → ⊥
    apart k below at same = both_ways (same_expression e x)
        (none-is_at (same_expression e) known k x none (sym (get-left known (e ∷ []) k below) ∙ at)) (ap (same_expression e) same ∙ is_itself e)

    by_place : (i < length known) ⊎ (length known ≤ i) → (j < length known) ⊎ (length known ≤ j) → i ≡ j
    by_place (inl p) (inl q) = once i j x (sym (get-left known (e ∷ []) i p) ∙ at_i) (sym (get-left known (e ∷ []) j q) ∙ at_j)
    by_place (inl p) (inr q) = absurd (apart i p at_i (get-last known e x j q at_j).1)
    by_place (inr p) (inl q) = absurd (apart j q at_j (get-last known e x i p at_i).1)
    by_place (inr p) (inr q) = (get-last known e x i p at_i).0 ∙ sym (get-last known e x j q at_j).0

noted-once : (known : List Expr) (e : Expr) → StandOnce known → StandOnce (noted known e)
noted-once known e once = by_test (list_any (same_expression e) known) refl
  where
    by_test : (t : Bool) → list_any (same_expression e) known ≡ t → StandOnce (if t then known else known ++ e ∷ [])
    by_test true is = once
    by_test false is = put-once known e is once

all-noted-once : (known es : List Expr) → StandOnce known → StandOnce (fold noted known es)
all-noted-once known [] once = once
all-noted-once known (e ∷ es) once = all-noted-once (noted known e) es (noted-once known e once)

same-sym : (x y : Expr) → same_expression x y ≡ same_expression y x
same-sym x y = by_tests (same_expression x y) (same_expression y x) refl refl
  where
    by_tests : (s t : Bool) → same_expression x y ≡ s → same_expression y x ≡ t → s ≡ t
    by_tests true true p q = refl
    by_tests false false p q = refl
    by_tests true false p q = absurd (both_ways (same_expression y x) q (ap (λ z. same_expression z x) (sym (same_is_equal x y p)) ∙ is_itself x))
    by_tests false true p q = absurd (both_ways (same_expression x y) p (ap (λ z. same_expression z y) (sym (same_is_equal y x q)) ∙ is_itself y))

pub passing : {A : Type 0} (p : A → Bool) (o : Option A) → unwrap_or (option_map p o) false ≡ true → (x : A) × (o ≡ Some x) × (p x ≡ true)
passing p None is = absurd (cc is)
passing p (Some x) is = (x, refl, is)

same_at : (f g : Expr → Bool) → ((x : Expr) → f x ≡ g x) → (o : Option Expr) → unwrap_or (option_map f o) false ≡ unwrap_or (option_map g o) false
same_at f g same None = refl
same_at f g same (Some x) = same x

never : (o : Option Expr) → unwrap_or (option_map (λ x. false) o) false ≡ false
never None = refl
never (Some x) = refl

pub expression_is_own : (program : Program) (point bit : ℕ) → marks (evaluated_at program point) bit ≡ owns program Avail point bit
expression_is_own program point bit = by_expression (expression_at program point)
  where
    once : StandOnce (expressions program)
    once =
        all-noted-once [] (flat_map (λ point. some_expression (expression_at program point)) (points program)) (λ i j e at_i at_j. absurd (cc at_i))

    alone : (e : Expr) (i j : ℕ) → is_at (same_expression e) (expressions program) i ≡ true → is_at (same_expression e) (expressions program) j ≡ true
        → i ≡ j
    alone e i j p q =
        let (x, at_x, is_x) = passing (same_expression e) (slice_get (expressions program) i) p in
        let (y, at_y, is_y) = passing (same_expression e) (slice_get (expressions program) j) q in
        once i j e (at_x ∙ ap (λ z. let o : Option Expr = Some z in o) (sym (same_is_equal e x is_x)))
        (at_y ∙ ap (λ z. let o : Option Expr = Some z in o) (sym (same_is_equal e y is_y)))

    by_expression : (o : Option Expr) → marks (option_and_then (λ e. position (same_expression e) (expressions program)) o) bit
        ≡ unwrap_or (option_map (λ e. unwrap_or (option_map (same_expression e) o) false) (slice_get (expressions program) bit)) false
    by_expression None = sym (never (slice_get (expressions program) bit))
    by_expression (Some e) =
        sym (is_at-position (same_expression e) (expressions program) (alone e) bit)
        ∙ same_at (same_expression e) (λ x. same_expression x e) (λ x. same-sym e x) (slice_get (expressions program) bit)
