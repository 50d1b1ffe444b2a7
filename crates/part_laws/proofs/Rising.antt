-- Numbers that rise, and the lines of a program's statements.
use Rattle.std.proofs.Common.{◌≡◌, ℕ, zero, suc, ◌+◌, ◌-◌, ◌<◌, ◌≤◌, Bool, true, false, List, [], ◌∷◌, ◌++◌, length, map, flat_map, option_map}
use Rattle.std.proofs.Common.{slice_get, unwrap_or, Option, Some, None, nat_lt, if◌then◌else◌, refl, sym, ap, ◌∙◌, subst, arith}
use Rattle.tac_program.specs.Programs.{Procedure, Program}
use Rattle.tac_program.specs.declared.program.Stmt.{Stmt}
use Rattle.flow_graph.specs.Points.{place_among, size_of, statement_at}
use Rattle.flow_graph.specs.declared.place.Place.{Place}
use Rattle.flow_graph.proofs.places.PointLemmas.{statements_among}

-- numbers above one, each above those before it
abbrev pub Above : ℕ → List ℕ → Type 0
Above k [] = Unit {0}
Above k (n ∷ ns) = (k < n) × Above n ns

pub above_less : (k n : ℕ) (ns : List ℕ) → k ≤ n → Above n ns → Above k ns
above_less k n [] below above = tt
above_less k n (m ∷ ns) below (here, later) = (omega (arith, below, here), later)

-- of a list and those behind it
front_above : (k : ℕ) (xs ys : List ℕ) → Above k (xs ++ ys) → Above k xs
front_above k [] ys above = tt
front_above k (x ∷ xs) ys (here, later) = (here, front_above x xs ys later)

back_above : (k : ℕ) (xs ys : List ℕ) → Above k (xs ++ ys) → Above k ys
back_above k [] ys above = above
back_above k (x ∷ xs) ys (here, later) = above_less k x ys (omega (arith, here)) (back_above x xs ys later)

-- the line of a statement
abbrev pub line_of_stmt : Stmt → ℕ
line_of_stmt s = s.span.line

is_above : (k : ℕ) (xs : List Stmt) (i : ℕ) (s : Stmt) → Above k (map line_of_stmt xs) → slice_get xs i ≡ Some s → k < line_of_stmt s
is_above k [] i s above e = absurd (cc e)
is_above k (x ∷ xs) zero s (here, later) e =
    let same : x ≡ s = cc e in
    subst (λ (t : Stmt). k < line_of_stmt t) same here
is_above k (x ∷ xs) (suc i) s (here, later) e =
    let more : line_of_stmt x < line_of_stmt s = is_above (line_of_stmt x) xs i s later e in
    omega (arith, here, more)

behind_one : (k : ℕ) (xs : List Stmt) (ys : List ℕ) (i : ℕ) (s : Stmt) → Above k (map line_of_stmt xs ++ ys) → slice_get xs i ≡ Some s
    → Above (line_of_stmt s) ys
behind_one k [] ys i s above e = absurd (cc e)
behind_one k (x ∷ xs) ys zero s (here, later) e =
    let same : x ≡ s = cc e in
    subst (λ (t : Stmt). Above (line_of_stmt t) ys) same (back_above (line_of_stmt x) (map line_of_stmt xs) ys later)
behind_one k (x ∷ xs) ys (suc i) s (here, later) e = behind_one (line_of_stmt x) xs ys i s later e

rise_within : (k : ℕ) (xs : List Stmt) (i j : ℕ) (s t : Stmt) → Above k (map line_of_stmt xs) → i < j → slice_get xs i ≡ Some s
    → slice_get xs j ≡ Some t → line_of_stmt s < line_of_stmt t
rise_within k [] i j s t above less e f = absurd (cc e)
rise_within k (x ∷ xs) i zero s t above less e f = absurd (omega (arith, less))
rise_within k (x ∷ xs) zero (suc j) s t (here, later) less e f =
    let same : x ≡ s = cc e in
    subst (λ (u : Stmt). line_of_stmt u < line_of_stmt t) same (is_above (line_of_stmt x) xs j t later f)
rise_within k (x ∷ xs) (suc i) (suc j) s t (here, later) less e f = rise_within (line_of_stmt x) xs i j s t later (omega (arith, less)) e f

-- the lines of all statements of some procedures
abbrev pub lines_among : List Procedure → List ℕ
lines_among ps = flat_map (λ p. map line_of_stmt p.statements) ps

-- the statement at a point among some procedures
abbrev found : List Procedure → ℕ → Option Stmt
found [] point = None
found (p ∷ ps) point = if nat_lt point (size_of p) then slice_get p.statements point else found ps (point - size_of p)

place_is_later : (n : ℕ) (ps : List Procedure) (point : ℕ) → n ≤ (place_among n ps point).procedure
place_is_later n [] point = omega arith
place_is_later n (p ∷ ps) point = by_test (nat_lt point (size_of p)) refl (place_is_later (suc n) ps (point - size_of p)) where
  by_test : (b : Bool) → nat_lt point (size_of p) ≡ b → suc n ≤ (place_among (suc n) ps (point - size_of p)).procedure
      → n ≤ (place_among n (p ∷ ps) point).procedure
  by_test true test more = rw test (omega arith)
  by_test false test more = rw test (omega (arith, more))

is_found : (n : ℕ) (ps : List Procedure) (point : ℕ)
    → slice_get (statements_among ps ((place_among n ps point).procedure - n)) (place_among n ps point).place ≡ found ps point
is_found n [] point = refl
is_found n (p ∷ ps) point = by_test (nat_lt point (size_of p)) refl (is_found (suc n) ps (point - size_of p)) where
  rest : Place
  rest = place_among (suc n) ps (point - size_of p)

  by_test : (b : Bool) → nat_lt point (size_of p) ≡ b
      → slice_get (statements_among ps (rest.procedure - suc n)) rest.place ≡ found ps (point - size_of p)
      → slice_get (statements_among (p ∷ ps) ((place_among n (p ∷ ps) point).procedure - n)) (place_among n (p ∷ ps) point).place ≡ found (p ∷ ps) point
  by_test true test more =
      let first : n - n ≡ 0 = omega arith in
      rw test (ap (λ (k : ℕ). slice_get (statements_among (p ∷ ps) k) point) first)
  by_test false test more =
      let later : suc n ≤ rest.procedure = place_is_later (suc n) ps (point - size_of p) in
      let less : rest.procedure - n ≡ suc (rest.procedure - suc n) = omega (arith, later) in
      rw test (ap (λ (k : ℕ). slice_get (statements_among (p ∷ ps) k) rest.place) less ∙ more)

above_found : (k : ℕ) (ps : List Procedure) (point : ℕ) (s : Stmt) → Above k (lines_among ps) → found ps point ≡ Some s → k < line_of_stmt s
above_found k [] point s above e = absurd (cc e)
above_found k (p ∷ ps) point s above e = by_test (nat_lt point (size_of p)) refl (above_found k ps (point - size_of p) s) where
  by_test : (b : Bool) → nat_lt point (size_of p) ≡ b
      → (Above k (lines_among ps) → found ps (point - size_of p) ≡ Some s → k < line_of_stmt s) → k < line_of_stmt s
  by_test true test rest =
      let own : slice_get p.statements point ≡ Some s = (rw test refl) ∙ e in
      is_above k p.statements point s (front_above k (map line_of_stmt p.statements) (lines_among ps) above) own
  by_test false test rest =
      let own : found ps (point - size_of p) ≡ Some s = (rw test refl) ∙ e in
      rest (back_above k (map line_of_stmt p.statements) (lines_among ps) above) own

rise_found : (k : ℕ) (ps : List Procedure) (a b : ℕ) (s t : Stmt) → Above k (lines_among ps) → a < b → found ps a ≡ Some s → found ps b ≡ Some t
    → line_of_stmt s < line_of_stmt t
rise_found k [] a b s t above less e f = absurd (cc e)
rise_found k (p ∷ ps) a b s t above less e f =
    by_tests (nat_lt a (size_of p)) (nat_lt b (size_of p)) refl refl (rise_found k ps (a - size_of p) (b - size_of p) s t)
  where
    front : Above k (map line_of_stmt p.statements)
    front = front_above k (map line_of_stmt p.statements) (lines_among ps) above

    back : Above k (lines_among ps)
    back = back_above k (map line_of_stmt p.statements) (lines_among ps) above

    by_tests : (c d : Bool) → nat_lt a (size_of p) ≡ c → nat_lt b (size_of p) ≡ d
        → (Above k (lines_among ps) → a - size_of p < b - size_of p → found ps (a - size_of p) ≡ Some s → found ps (b - size_of p) ≡ Some t
        → line_of_stmt s < line_of_stmt t)
        → line_of_stmt s < line_of_stmt t
    by_tests true true ta tb rest =
        let fa : slice_get p.statements a ≡ Some s = (rw ta refl) ∙ e in
        let fb : slice_get p.statements b ≡ Some t = (rw tb refl) ∙ f in
        rise_within k p.statements a b s t front less fa fb
    by_tests true false ta tb rest =
        let fa : slice_get p.statements a ≡ Some s = (rw ta refl) ∙ e in
        let fb : found ps (b - size_of p) ≡ Some t = (rw tb refl) ∙ f in
        above_found (line_of_stmt s) ps (b - size_of p) t (behind_one k p.statements (lines_among ps) a s above fa) fb
    by_tests false true ta tb rest = absurd (grind (arith, less, ta, tb))
    by_tests false false ta tb rest =
        let fa : found ps (a - size_of p) ≡ Some s = (rw ta refl) ∙ e in
        let fb : found ps (b - size_of p) ≡ Some t = (rw tb refl) ∙ f in
        let not_less : size_of p ≤ a = grind (arith, ta) in
        rest back (omega (arith, less, not_less)) fa fb

pub statement_is_found : (program : Program) (point : ℕ) → statement_at program point ≡ found program.procedures point
statement_is_found program point =
    let place = place_among 0 program.procedures point in
    let same : place.procedure ≡ place.procedure - 0 = omega arith in
    ap (λ (k : ℕ). slice_get (statements_among program.procedures k) place.place) same ∙ is_found 0 program.procedures point

-- Where the lines of all statements rise, so do those of any two points.
pub lines_rise : (program : Program) (k a b : ℕ) (s t : Stmt) → Above k (lines_among program.procedures) → a < b → statement_at program a ≡ Some s
    → statement_at program b ≡ Some t → line_of_stmt s < line_of_stmt t
lines_rise program k a b s t above less e f =
    rise_found k program.procedures a b s t above less (sym (statement_is_found program a) ∙ e) (sym (statement_is_found program b) ∙ f)

-- numbers below one
abbrev pub AllBelow : ℕ → List ℕ → Type 0
AllBelow m [] = Unit {0}
AllBelow m (n ∷ ns) = (n < m) × AllBelow m ns

pub append_below : (m : ℕ) (xs ys : List ℕ) → AllBelow m xs → AllBelow m ys → AllBelow m (xs ++ ys)
append_below m [] ys low others = others
append_below m (x ∷ xs) ys (here, low) others = (here, append_below m xs ys low others)

front_below : (m : ℕ) (xs ys : List ℕ) → AllBelow m (xs ++ ys) → AllBelow m xs
front_below m [] ys low = tt
front_below m (x ∷ xs) ys (here, low) = (here, front_below m xs ys low)

back_below : (m : ℕ) (xs ys : List ℕ) → AllBelow m (xs ++ ys) → AllBelow m ys
back_below m [] ys low = low
back_below m (x ∷ xs) ys (here, low) = back_below m xs ys low

is_below : (m : ℕ) (xs : List Stmt) (i : ℕ) (s : Stmt) → AllBelow m (map line_of_stmt xs) → slice_get xs i ≡ Some s → line_of_stmt s < m
is_below m [] i s low e = absurd (cc e)
is_below m (x ∷ xs) zero s (here, low) e =
    let same : x ≡ s = cc e in
    subst (λ (t : Stmt). line_of_stmt t < m) same here
is_below m (x ∷ xs) (suc i) s (here, low) e = is_below m xs i s low e

below_found : (m : ℕ) (ps : List Procedure) (point : ℕ) (s : Stmt) → AllBelow m (lines_among ps) → found ps point ≡ Some s → line_of_stmt s < m
below_found m [] point s low e = absurd (cc e)
below_found m (p ∷ ps) point s low e = by_test (nat_lt point (size_of p)) refl (below_found m ps (point - size_of p) s) where
  by_test : (b : Bool) → nat_lt point (size_of p) ≡ b
      → (AllBelow m (lines_among ps) → found ps (point - size_of p) ≡ Some s → line_of_stmt s < m) → line_of_stmt s < m
  by_test true test rest =
      let own : slice_get p.statements point ≡ Some s = (rw test refl) ∙ e in
      is_below m p.statements point s (front_below m (map line_of_stmt p.statements) (lines_among ps) low) own
  by_test false test rest =
      let own : found ps (point - size_of p) ≡ Some s = (rw test refl) ∙ e in
      rest (back_below m (map line_of_stmt p.statements) (lines_among ps) low) own

-- Where the lines of all statements are below a number, so is that of a point.
pub lines_below : (program : Program) (m point : ℕ) (s : Stmt) → AllBelow m (lines_among program.procedures) → statement_at program point ≡ Some s
    → line_of_stmt s < m
lines_below program m point s low e = below_found m program.procedures point s low (sym (statement_is_found program point) ∙ e)
