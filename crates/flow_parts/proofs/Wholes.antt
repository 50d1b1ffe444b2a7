-- The remarks of all parts, point by point and kind by kind.
use Rattle.std.proofs.Common.{◌≡◌, refl, lit<, ℕ, zero, suc, ◌+◌, ◌<◌, ◌==◌, ◌&&◌, Bool, true, false, not, cond, if◌then◌else◌, List, []}
use Rattle.std.proofs.Common.{◌∷◌, ◌++◌, Option, Some, None, length, filter, flat_map, map, sym, ap, ◌∙◌, subst, arith, append-nil, eq-eqb}
use Rattle.std.proofs.Common.{option_and_then}
use Rattle.std.specs.List.{range_with_len}
use Rattle.std.proofs.lemmas.Bool.{eqb-true, ne_eqb}
use Rattle.std.proofs.lemmas.List.Elements.{filter-append}
use Rattle.flow_graph.specs.Points.{kind_at, point_count}
use Rattle.flow_graph.specs.Universes.{bits, evaluated_at}
use Rattle.flow_graph.specs.declared.analysis.Analysis.TheVariants.{Avail, Busy}
use Rattle.flow_graph.proofs.places.Standing.{stands}
use Rattle.tac_program.specs.Programs.{Program}
use Rattle.tac_program.specs.Sound.{IsSound}
use Rattle.tac_program.specs.declared.program.StmtKind.{StmtKind}
use Rattle.flow_reports.specs.Reports.{Knowledge, busy_at, computed_at, dead_at, remarks_at, remarks_when_reached, unset_at}
use Rattle.report_answers.specs.Statements.{assigned}
use Rattle.flow_reports.specs.Listed.{placed_at, remarks_of}
use Rattle.flow_reports.specs.declared.listed.PlacedRemark.{PlacedRemark}
use Rattle.flow_reports.specs.declared.remark.Remark.{Remark}
use Rattle.flow_reports.specs.declared.remark.Remark.TheVariants.{NeverReached, Unset, Computed, VeryBusy, Dead}
use Rattle.report_answers.proofs.queries.Statements.{evaluated_there}
use Rattle.report_answers.proofs.queries.Statements.{assigned_there}
use Rattle.part_texts.proofs.Rising.{Below, Rises}
use Rattle.flow_parts.specs.Cuts.{is_in_cut, is_in_part}
use Rattle.flow_parts.specs.PartLaws.{PartsAreTheReport, is_of, kind_of}
use Rattle.flow_parts.proofs.Numbers.{below_range, rises_range, whole}

-- lists that are told of others
pub filter_map : {A B : Type 0} (test : B → Bool) (tell : A → B) (xs : List A) → filter test (map tell xs) ≡ map tell (filter (λ x. test (tell x)) xs)
filter_map test tell [] = refl
filter_map test tell (x ∷ xs) = by (test (tell x)) (filter_map test tell xs)
  where
    by : (b : Bool) → filter test (map tell xs) ≡ map tell (filter (λ y. test (tell y)) xs)
        → cond b (tell x ∷ filter test (map tell xs)) (filter test (map tell xs))
        ≡ map tell (cond b (x ∷ filter (λ y. test (tell y)) xs) (filter (λ y. test (tell y)) xs))
    by true rest = ap (λ ys. tell x ∷ ys) rest
    by false rest = rest

pub map_append : {A B : Type 0} (tell : A → B) (xs ys : List A) → map tell (xs ++ ys) ≡ map tell xs ++ map tell ys
map_append tell [] ys = refl
map_append tell (x ∷ xs) ys = ap (λ zs. tell x ∷ zs) (map_append tell xs ys)

pub flat_map_map : {A B : Type 0} (tell : A → B) (f : ℕ → List A) (ks : List ℕ) → flat_map (λ k. map tell (f k)) ks ≡ map tell (flat_map f ks)
flat_map_map tell f [] = refl
flat_map_map tell f (k ∷ ks) = ap (λ ys. map tell (f k) ++ ys) (flat_map_map tell f ks) ∙ sym (map_append tell (f k) (flat_map f ks))

pub filters_meet : {A : Type 0} (p q : A → Bool) (xs : List A) → filter p (filter q xs) ≡ filter q (filter p xs)
filters_meet p q [] = refl
filters_meet p q (x ∷ xs) = by (p x) (q x) refl refl (filters_meet p q xs)
  where
    by : (a b : Bool) → p x ≡ a → q x ≡ b → filter p (filter q xs) ≡ filter q (filter p xs)
        → filter p (cond (q x) (x ∷ filter q xs) (filter q xs)) ≡ filter q (cond (p x) (x ∷ filter p xs) (filter p xs))
    by true true e f rest =
        ap (λ c. filter p (cond c (x ∷ filter q xs) (filter q xs))) f ∙ ap (λ c. cond c (x ∷ filter p (filter q xs)) (filter p (filter q xs))) e
        ∙ ap (λ ys. x ∷ ys) rest
        ∙ sym (ap (λ c. filter q (cond c (x ∷ filter p xs) (filter p xs))) e
        ∙ ap (λ c. cond c (x ∷ filter q (filter p xs)) (filter q (filter p xs))) f)
    by true false e f rest =
        ap (λ c. filter p (cond c (x ∷ filter q xs) (filter q xs))) f ∙ rest
        ∙ sym (ap (λ c. filter q (cond c (x ∷ filter p xs) (filter p xs))) e
        ∙ ap (λ c. cond c (x ∷ filter q (filter p xs)) (filter q (filter p xs))) f)
    by false true e f rest =
        ap (λ c. filter p (cond c (x ∷ filter q xs) (filter q xs))) f ∙ ap (λ c. cond c (x ∷ filter p (filter q xs)) (filter p (filter q xs))) e
        ∙ rest ∙ sym (ap (λ c. filter q (cond c (x ∷ filter p xs) (filter p xs))) e)
    by false false e f rest =
        ap (λ c. filter p (cond c (x ∷ filter q xs) (filter q xs))) f ∙ rest ∙ sym (ap (λ c. filter q (cond c (x ∷ filter p xs) (filter p xs))) e)

-- The remarks are those of all parts, part by part.
abbrev IsWhole : Program → ℕ → List Remark → Type 0
IsWhole program count remarks = flat_map (λ part. filter (is_in_part program count part) remarks) (range_with_len 1 count) ≡ remarks

none_of_none : {A : Type 0} (ks : List ℕ) → flat_map {X = ℕ} {A = A} (λ k. []) ks ≡ []
none_of_none [] = refl
none_of_none (k ∷ ks) = none_of_none ks

no_remarks : (program : Program) (count : ℕ) → IsWhole program count []
no_remarks program count = none_of_none (range_with_len 1 count)

-- those of one kind, of numbers that rise
made_whole : (program : Program) (count size : ℕ) (make : ℕ → Remark) (xs : List ℕ) → 0 < count
    → ((part x : ℕ) → is_in_part program count part (make x) ≡ is_in_cut size count part x) → Rises (λ x. x) 0 xs → Below (λ x. x) size xs
    → IsWhole program count (map make xs)
made_whole program count size make xs some same up below =
    (λ i. flat_map (λ part. filter_map (is_in_part program count part) make xs i) (range_with_len 1 count))
    ∙ flat_map_map make (λ part. filter (λ x. is_in_part program count part (make x)) xs) (range_with_len 1 count)
    ∙ ap (map make) ((λ i. flat_map (λ part. filter (λ x. same part x i) xs) (range_with_len 1 count)) ∙ whole size count xs some up below)

-- that a statement is never reached is in part 1
later_lack : (program : Program) (count from n : ℕ) → 1 < from
    → flat_map (λ part. filter (is_in_part program count part) (NeverReached ∷ [])) (range_with_len from n) ≡ []
later_lack program count from zero later = refl
later_lack program count from (suc n) later =
    ap (λ b. cond b (NeverReached ∷ []) [] ++ flat_map (λ part. filter (is_in_part program count part) (NeverReached ∷ []))
    (range_with_len (from + 1) n))
    (ne_eqb from 1 (λ same. absurd (omega (arith, same, later))))
    ∙ later_lack program count (from + 1) n (omega (arith, later))

never_whole : (program : Program) (count : ℕ) → 0 < count → IsWhole program count (NeverReached ∷ [])
never_whole program zero some = absurd (omega (arith, some))
never_whole program (suc count) some = ap (λ ys. NeverReached ∷ ys) (later_lack program (suc count) 2 count (lit< tt))

-- of the remarks of a statement those of one kind
kept_kind : (kind : ℕ) (make : ℕ → Remark) (c : ℕ) → ((x : ℕ) → kind_of (make x) ≡ c) → (xs : List ℕ)
    → filter (λ remark. kind_of remark == kind) (map make xs) ≡ (if c == kind then map make xs else [])
kept_kind kind make c is [] = by (c == kind)
  where
    by : (b : Bool) → map make [] ≡ (if b then map make [] else [])
    by true = refl
    by false = refl
kept_kind kind make c is (x ∷ xs) =
    ap (λ k. cond (k == kind) (make x ∷ filter (λ remark. kind_of remark == kind) (map make xs))
    (filter (λ remark. kind_of remark == kind) (map make xs))) (is x)
    ∙ ap (λ ys. cond (c == kind) (make x ∷ ys) ys) (kept_kind kind make c is xs) ∙ by (c == kind)
  where
    by : (b : Bool) → cond b (make x ∷ (if b then map make xs else [])) (if b then map make xs else []) ≡ (if b then make x ∷ map make xs else [])
    by true = refl
    by false = refl

apart : (c d kind : ℕ) → ¬ (c ≡ d) → (c == kind) && (d == kind) ≡ false
apart c d kind differ = by (c == kind) (d == kind) refl refl
  where
    by : (a b : Bool) → (c == kind) ≡ a → (d == kind) ≡ b → a && b ≡ false
    by true true e f = absurd (differ (eqb-true c kind e ∙ sym (eqb-true d kind f)))
    by true false e f = refl
    by false b e f = refl

-- of four lists at most one stands
one_stands : (W : List Remark → Type 0) (xs ys zs ws : List Remark) → W [] → W xs → W ys → W zs → W ws → (a b c d : Bool)
    → a && b ≡ false → a && c ≡ false → a && d ≡ false → b && c ≡ false → b && d ≡ false → c && d ≡ false
    → W ((if a then xs else []) ++ (if b then ys else []) ++ (if c then zs else []) ++ (if d then ws else []))
one_stands W xs ys zs ws none x y z w true false false false ab ac ad bc bd cd =
    subst W (sym (append-nil (xs ++ [] ++ []) ∙ append-nil (xs ++ []) ∙ append-nil xs)) x
one_stands W xs ys zs ws none x y z w false true false false ab ac ad bc bd cd = subst W (sym (append-nil (ys ++ []) ∙ append-nil ys)) y
one_stands W xs ys zs ws none x y z w false false true false ab ac ad bc bd cd = subst W (sym (append-nil zs)) z
one_stands W xs ys zs ws none x y z w false false false true ab ac ad bc bd cd = w
one_stands W xs ys zs ws none x y z w false false false false ab ac ad bc bd cd = none
one_stands W xs ys zs ws none x y z w true true c d ab ac ad bc bd cd = absurd (cc ab)
one_stands W xs ys zs ws none x y z w true false true d ab ac ad bc bd cd = absurd (cc ac)
one_stands W xs ys zs ws none x y z w true false false true ab ac ad bc bd cd = absurd (cc ad)
one_stands W xs ys zs ws none x y z w false true true d ab ac ad bc bd cd = absurd (cc bc)
one_stands W xs ys zs ws none x y z w false true false true ab ac ad bc bd cd = absurd (cc bd)
one_stands W xs ys zs ws none x y z w false false true true ab ac ad bc bd cd = absurd (cc cd)

-- a list of at most one number
single : (size bit : ℕ) (b : Bool) → bit < size → Rises (λ x. x) 0 (if b then bit ∷ [] else []) × Below (λ x. x) size (if b then bit ∷ [] else [])
single size bit true below = ((omega arith, tt), (below, tt))
single size bit false below = (tt, tt)

unset_whole : (program : Program) (known : Knowledge) (count point : ℕ) → 0 < count
    → IsWhole program count (map (λ v. Unset v) (unset_at program known point))
unset_whole program known count point some =
    made_whole program count (length program.variable_names) (λ v. Unset v) (unset_at program known point) some (λ part x. refl)
    (rises_range _ 0 0 (length program.variable_names) (omega arith)) (below_range _ _ 0 (length program.variable_names) (omega arith))

computed_whole : (program : Program) (known : Knowledge) (count point : ℕ) → 0 < count
    → IsWhole program count (map (λ e. Computed e) (computed_at program known point))
computed_whole program known count point some = by (evaluated_at program point) refl
  where
    by : (o : Option ℕ) → evaluated_at program point ≡ o
        → IsWhole program count (map (λ e. Computed e) (elim o [ Some bit ↦ if known.avail.contains point bit then bit ∷ [] else [] | None ↦ [] ]))
    by None is = no_remarks program count
    by (Some bit) is =
        let one = single (bits program Avail) bit (known.avail.contains point bit) (evaluated_there program point bit is) in
        made_whole program count (bits program Avail) (λ e. Computed e) _ some (λ part x. refl) one.0 one.1

busy_whole : (program : Program) (known : Knowledge) (count point : ℕ) → 0 < count
    → IsWhole program count (map (λ e. VeryBusy e) (busy_at program known point))
busy_whole program known count point some = by _
  where
    by : (b : Bool) → IsWhole program count
        (map (λ e. VeryBusy e) (if b then filter (known.busy.contains point) (range_with_len 0 (bits program Busy)) else []))
    by true =
        made_whole program count (bits program Busy) (λ e. VeryBusy e) _ some (λ part x. refl)
        (rises_range _ 0 0 (bits program Busy) (omega arith)) (below_range _ _ 0 (bits program Busy) (omega arith))
    by false = no_remarks program count

dead_whole : (program : Program) (known : Knowledge) (count point : ℕ) (statement : StmtKind) → IsSound program → point < point_count program
    → kind_at program point ≡ Some statement → 0 < count → IsWhole program count (map (λ v. Dead v) (dead_at program known point))
dead_whole program known count point statement sound below is some =
    subst (λ o. IsWhole program count (map (λ v. Dead v) (told (option_and_then assigned o)))) (sym is) (by (assigned statement) refl)
  where
    told : Option ℕ → List ℕ
    told (Some variable) = if not (known.doubtful (suc point)) && not (known.live.contains (suc point) variable) then variable ∷ [] else []
    told None = []

    by : (o : Option ℕ) → assigned statement ≡ o → IsWhole program count (map (λ v. Dead v) (told o))
    by None sets = no_remarks program count
    by (Some variable) sets =
        let one = single (length program.variable_names) variable (not (known.doubtful (suc point)) && not (known.live.contains (suc point) variable))
        (assigned_there program point variable statement (stands program sound point statement below is) sets) in
        made_whole program count (length program.variable_names) (λ v. Dead v) _ some (λ part x. refl) one.0 one.1

-- of what is said of a statement at a point those of one kind
reached_whole : (program : Program) (known : Knowledge) (count point kind : ℕ) (statement : StmtKind) → IsSound program → point < point_count program
    → kind_at program point ≡ Some statement → 0 < count
    → IsWhole program count (filter (λ remark. kind_of remark == kind) (remarks_when_reached program known point))
reached_whole program known count point kind statement sound below is some =
    let us : List Remark = map (λ v. Unset v) (unset_at program known point) in
    let cs : List Remark = map (λ e. Computed e) (computed_at program known point) in
    let bs : List Remark = map (λ e. VeryBusy e) (busy_at program known point) in
    let ds : List Remark = map (λ v. Dead v) (dead_at program known point) in
    let test : Remark → Bool = λ remark. kind_of remark == kind in
    let cut : filter test (us ++ cs ++ bs ++ ds) ≡ filter test us ++ filter test cs ++ filter test bs ++ filter test ds =
    filter-append test (us ++ cs ++ bs) ds ∙ ap (λ xs. xs ++ filter test ds) (filter-append test (us ++ cs) bs)
    ∙ ap (λ xs. xs ++ filter test bs ++ filter test ds) (filter-append test us cs) in
    let kept : filter test us ++ filter test cs ++ filter test bs ++ filter test ds
    ≡ (if 1 == kind then us else []) ++ (if 2 == kind then cs else []) ++ (if 3 == kind then bs else []) ++ (if 4 == kind then ds else []) =
    λ i. kept_kind kind (λ v. Unset v) 1 (λ x. refl) (unset_at program known point) i
    ++ kept_kind kind (λ e. Computed e) 2 (λ x. refl) (computed_at program known point) i
    ++ kept_kind kind (λ e. VeryBusy e) 3 (λ x. refl) (busy_at program known point) i
    ++ kept_kind kind (λ v. Dead v) 4 (λ x. refl) (dead_at program known point) i in
    subst (IsWhole program count) (sym (cut ∙ kept))
    (one_stands (IsWhole program count) us cs bs ds (no_remarks program count) (unset_whole program known count point some)
    (computed_whole program known count point some) (busy_whole program known count point some)
    (dead_whole program known count point statement sound below is some) (1 == kind) (2 == kind) (3 == kind) (4 == kind)
    (apart 1 2 kind (λ same. cc same)) (apart 1 3 kind (λ same. cc same)) (apart 1 4 kind (λ same. cc same)) (apart 2 3 kind (λ same. cc same))
    (apart 2 4 kind (λ same. cc same)) (apart 3 4 kind (λ same. cc same)))

kind_whole : (program : Program) (known : Knowledge) (count point kind : ℕ) → IsSound program → point < point_count program → 0 < count
    → IsWhole program count (filter (λ remark. kind_of remark == kind) (remarks_at program known point))
kind_whole program known count point kind sound below some = by (kind_at program point) refl (known.reach.has_path point)
  where
    never : (b : Bool) → IsWhole program count (cond b (NeverReached ∷ []) [])
    never true = never_whole program count some
    never false = no_remarks program count

    by : (o : Option StmtKind) → kind_at program point ≡ o → (reached : Bool) → IsWhole program count (filter (λ remark. kind_of remark == kind)
        (elim o [ Some statement ↦ if reached then remarks_when_reached program known point else NeverReached ∷ [] | None ↦ [] ]))
    by None is reached = no_remarks program count
    by (Some statement) is true = reached_whole program known count point kind statement sound below is some
    by (Some statement) is false = never (0 == kind)

-- the same of remarks with their points
abbrev IsWholePlaced : Program → ℕ → List PlacedRemark → Type 0
IsWholePlaced program count placed = flat_map (λ part. filter (λ p. is_in_part program count part p.remark) placed) (range_with_len 1 count) ≡ placed

placed_whole : (program : Program) (count point : ℕ) (remarks : List Remark) → IsWhole program count remarks
    → IsWholePlaced program count (placed_at point remarks)
placed_whole program count point remarks are =
    let place : Remark → PlacedRemark = λ remark. record { point = point; remark = remark } in
    (λ i. flat_map (λ part. filter_map (λ p. is_in_part program count part p.remark) place remarks i) (range_with_len 1 count))
    ∙ flat_map_map place (λ part. filter (is_in_part program count part) remarks) (range_with_len 1 count) ∙ ap (map place) are

-- the remarks at one point, and at others
at_point : (point kind : ℕ) (remarks : List Remark) → filter (is_of point kind) (placed_at point remarks)
    ≡ placed_at point (filter (λ remark. kind_of remark == kind) remarks)
at_point point kind remarks =
    let place : Remark → PlacedRemark = λ remark. record { point = point; remark = remark } in
    filter_map (is_of point kind) place remarks
    ∙ ap (λ b. map place (filter (λ remark. b && kind_of remark == kind) remarks)) (eq-eqb point point refl)

at_other : (point kind other : ℕ) (remarks : List Remark) → ¬ (other ≡ point) → filter (is_of point kind) (placed_at other remarks) ≡ []
at_other point kind other [] differ = refl
at_other point kind other (remark ∷ remarks) differ =
    ap (λ b. cond (b && kind_of remark == kind) (record { point = other; remark = remark } ∷ filter (is_of point kind) (placed_at other remarks))
    (filter (is_of point kind) (placed_at other remarks))) (ne_eqb other point differ)
    ∙ at_other point kind other remarks differ

abbrev block : Program → Knowledge → ℕ → List PlacedRemark
block program known p = placed_at p (remarks_at program known p)

later_none : (program : Program) (known : Knowledge) (point kind from n : ℕ) → point < from
    → filter (is_of point kind) (flat_map (block program known) (range_with_len from n)) ≡ []
later_none program known point kind from zero later = refl
later_none program known point kind from (suc n) later =
    filter-append (is_of point kind) (block program known from) (flat_map (block program known) (range_with_len (from + 1) n))
    ∙ ap (λ xs. xs ++ filter (is_of point kind) (flat_map (block program known) (range_with_len (from + 1) n)))
    (at_other point kind from (remarks_at program known from) (λ same. absurd (omega (arith, same, later))))
    ∙ later_none program known point kind (from + 1) n (omega (arith, later))

points_whole : (program : Program) (known : Knowledge) (count point kind from n : ℕ) → IsSound program → 0 < count → from + n ≡ point_count program
    → IsWholePlaced program count (filter (is_of point kind) (flat_map (block program known) (range_with_len from n)))
points_whole program known count point kind from zero sound some all = none_of_none (range_with_len 1 count)
points_whole program known count point kind from (suc n) sound some all =
    by (from == point) refl (points_whole program known count point kind (from + 1) n sound some (omega (arith, all)))
  where
    by : (b : Bool) → (from == point) ≡ b
        → IsWholePlaced program count (filter (is_of point kind) (flat_map (block program known) (range_with_len (from + 1) n)))
        → IsWholePlaced program count
        (filter (is_of point kind) (block program known from ++ flat_map (block program known) (range_with_len (from + 1) n)))
    by true here others =
        let same : from ≡ point = eqb-true from point here in
        let below : from < point_count program = omega (arith, all) in
        let whole_here : IsWholePlaced program count (placed_at from (filter (λ remark. kind_of remark == kind) (remarks_at program known from))) =
        placed_whole program count from _ (kind_whole program known count from kind sound below some) in
        let is : filter (is_of point kind) (block program known from ++ flat_map (block program known) (range_with_len (from + 1) n))
        ≡ placed_at from (filter (λ remark. kind_of remark == kind) (remarks_at program known from)) =
        filter-append (is_of point kind) (block program known from) (flat_map (block program known) (range_with_len (from + 1) n))
        ∙ ap (λ xs. filter (is_of point kind) (block program known from) ++ xs)
        (later_none program known point kind (from + 1) n (omega (arith, same)))
        ∙ append-nil (filter (is_of point kind) (block program known from))
        ∙ subst (λ p. filter (is_of p kind) (block program known from)
        ≡ placed_at from (filter (λ remark. kind_of remark == kind) (remarks_at program known from)))
        same (at_point from kind (remarks_at program known from)) in
        subst (IsWholePlaced program count) (sym is) whole_here
    by false other others =
        subst (IsWholePlaced program count) (sym (filter-append (is_of point kind) (block program known from)
        (flat_map (block program known) (range_with_len (from + 1) n))
        ∙ ap (λ xs. xs ++ filter (is_of point kind) (flat_map (block program known) (range_with_len (from + 1) n)))
        (at_other point kind from (remarks_at program known from) (λ same. absurd (false_true (sym other ∙ eq-eqb from point same)))))) others
      where
        false_true : ¬ (false ≡ true)
        false_true same = cc same

pub parts_are : PartsAreTheReport
parts_are program known count sound some point kind =
    (λ i. flat_map (λ part. filters_meet (is_of point kind) (λ placed. is_in_part program count part placed.remark) (remarks_of program known) i)
    (range_with_len 1 count))
    ∙ points_whole program known count point kind 0 (point_count program) sound (omega (arith, some)) (omega arith)
