-- The lines of all parts, put in order, are those of the report.
use Rattle.std.proofs.Common.{◌≡◌, refl, lit<, ℕ, zero, suc, ◌+◌, ◌*◌, ◌/◌, ◌%◌, ◌<◌, ◌≤◌, ◌==◌, ◌&&◌, Bool, true, false, cond}
use Rattle.std.proofs.Common.{List, [], ◌∷◌, ◌++◌, Option, Some, None, IsSome, filter, flat_map, map, length, get_or, rules, codes, decimal, sym, ap, ◌∙◌}
use Rattle.std.proofs.Common.{subst, arith, append-nil}
use Rattle.std.proofs.Common.{if◌then◌else◌, eq-eqb, ◌⊎◌, inl, inr}
use Rattle.std.specs.List.{range_with_len}
use Rattle.std.specs.List.{sum_by}
use Rattle.std.specs.List.Sorted.{IsPermutation}
use Rattle.std.proofs.Math.Nat.{div-add-mod, mod-lt}
use Rattle.std.proofs.lemmas.Nat.{mod-mul-add}
use Rattle.std.proofs.lemmas.List.Sums.{sum_by-cons}
use Rattle.std.proofs.lemmas.Bool.{and_parts, eqb-true, le-leb, lt-ltb, cases_lt}
use Rattle.std.proofs.lemmas.List.Folds.{flat_map-map}
use Rattle.std.proofs.lemmas.List.Sorted.{All-permutation, length_permutation, sum_by-IsPermutation}
use Rattle.std.proofs.lemmas.List.FromFn.{get_or-range_with_len, length-range_with_len}
use Rattle.flow_graph.specs.Points.{kind_at, point_count}
use Rattle.tac_program.specs.Programs.{Program}
use Rattle.tac_program.specs.Sound.{IsSound}
use Rattle.tac_program.specs.declared.program.StmtKind.{StmtKind}
use Rattle.flow_texts.specs.Tables.{line_at}
use Rattle.flow_reports.specs.Reports.{Knowledge, busy_at, computed_at, count_line, dead_at, remark_text, remarks_at, remarks_when_reached}
use Rattle.flow_reports.specs.Reports.{unset_at}
use Rattle.flow_reports.specs.Listed.{placed_at, remarks_of}
use Rattle.flow_reports.specs.declared.listed.PlacedRemark.{PlacedRemark}
use Rattle.flow_reports.specs.declared.remark.Remark.{Remark}
use Rattle.flow_reports.specs.declared.remark.Remark.TheVariants.{NeverReached, Unset, Computed, VeryBusy, Dead}
use Rattle.flow_reports.proofs.knowledge.Listed.{report_is}
use Rattle.part_texts.specs.Lines.{Line, place}
use Rattle.part_texts.specs.Orders.{in_order_by}
use Rattle.part_texts.proofs.OrderLists.{in_order_is, number_is}
use Rattle.part_texts.proofs.Rising.{Below, Rises, between, kept_below, pieces, rises_from}
use Rattle.flow_parts.specs.Cuts.{is_in_part}
use Rattle.flow_parts.specs.MergeLaws.{MergedPartsAreTheReport, counts_of, read_as}
use Rattle.flow_parts.specs.PartLaws.{is_of, kind_of}
use Rattle.flow_parts.proofs.MergeLists.{Each, Span, at_most_once, each_append, each_filter, each_more, each_passes, filter_flat, flat_flat, once}
use Rattle.flow_parts.proofs.MergeLists.{span_append}
use Rattle.flow_parts.proofs.MergeLists.{span_below, span_const, span_rises, span_weak, stands, times}
use Rattle.flow_parts.proofs.Wholes.{filters_meet, flat_map_map, map_append, parts_are}

-- how remarks are lines: in which section, by which number of their point, and by which text
pub record LineForm : Type 0 where
  pub section : ℕ
  pub number : ℕ → ℕ
  pub text_of : PlacedRemark → List ℕ

abbrev pub line_made : LineForm → ℕ → PlacedRemark → Line
line_made form part placed = record {
  mark = record { section = form.section; number = form.number placed.point; kind = kind_of placed.remark };
  part = part;
  text = form.text_of placed;
}

-- The numbers rise along the points of statements.
abbrev pub NumbersRise : LineForm → Program → Type 0
NumbersRise form program =
    (p q : ℕ) → p < q → IsSome (kind_at program p) → IsSome (kind_at program q) → form.number p < form.number q

-- the place of a remark among all lines but for its part, and in the program
abbrev pub base : LineForm → PlacedRemark → ℕ
base form placed = 5 * (4294967296 * form.section + form.number placed.point) + kind_of placed.remark

abbrev spot : PlacedRemark → ℕ
spot placed = 5 * placed.point + kind_of placed.remark

few_kinds : (remark : Remark) → kind_of remark < 5
few_kinds NeverReached = lit< tt
few_kinds (Unset variable) = lit< tt
few_kinds (Computed bit) = lit< tt
few_kinds (VeryBusy bit) = lit< tt
few_kinds (Dead variable) = lit< tt

-- those at one spot, and of them those of a part
abbrev at_spot : Program → Knowledge → ℕ → List PlacedRemark
at_spot program known j = filter (between spot j (j + 1)) (remarks_of program known)

abbrev in_part : Program → (count part : ℕ) → PlacedRemark → Bool
in_part program count part placed = is_in_part program count part placed.remark

abbrev pub lines_of : LineForm → Program → (count : ℕ) → List PlacedRemark → ℕ → List Line
lines_of form program count placed part = map (line_made form part) (filter (in_part program count part) placed)

abbrev chunk : LineForm → Program → Knowledge → ℕ → ℕ → List Line
chunk form program known count j = flat_map (lines_of form program count (at_spot program known j)) (range_with_len 1 count)

-- all lines, spot by spot and there part by part
abbrev pub all_lines : LineForm → Program → Knowledge → ℕ → List Line
all_lines form program known count = flat_map (chunk form program known count) (range_with_len 0 (5 * point_count program + 1))

-- A spot is a point and a kind.
spot_is : (j : ℕ) (placed : PlacedRemark) → between spot j (j + 1) placed ≡ is_of (j / 5) (j % 5) placed
spot_is j placed = by (between spot j (j + 1) placed) (is_of (j / 5) (j % 5) placed) refl refl
  where
    there : spot placed ≡ j → is_of (j / 5) (j % 5) placed ≡ true
    there same =
        let few : kind_of placed.remark < 5 = few_kinds placed.remark in
        let whole : 5 * (j / 5) + j % 5 ≡ j = div-add-mod j 5 in
        let rest : j % 5 < 5 = mod-lt j (lit< tt) in
        let points_same : placed.point ≡ j / 5 = omega (arith, few, whole, rest, same) in
        let kinds_same : kind_of placed.remark ≡ j % 5 = omega (arith, few, whole, rest, same) in
        (λ i. eq-eqb placed.point (j / 5) points_same i && eq-eqb (kind_of placed.remark) (j % 5) kinds_same i)

    back : is_of (j / 5) (j % 5) placed ≡ true → between spot j (j + 1) placed ≡ true
    back is =
        let both : ((placed.point == j / 5) ≡ true) × ((kind_of placed.remark == j % 5) ≡ true) = and_parts _ _ is in
        let p : placed.point ≡ j / 5 = eqb-true _ _ both.0 in
        let k : kind_of placed.remark ≡ j % 5 = eqb-true _ _ both.1 in
        let whole : 5 * (j / 5) + j % 5 ≡ j = div-add-mod j 5 in
        let same : spot placed ≡ j = omega (arith, p, k, whole) in
        (λ i. le-leb j (spot placed) (omega (arith, same)) i && lt-ltb (spot placed) (j + 1) (omega (arith, same)) i)

    false_true : ¬ (false ≡ true)
    false_true same = cc same

    by : (a b : Bool) → between spot j (j + 1) placed ≡ a → is_of (j / 5) (j % 5) placed ≡ b
        → between spot j (j + 1) placed ≡ is_of (j / 5) (j % 5) placed
    by true true e f = e ∙ sym f
    by false false e f = e ∙ sym f
    by true false e f = absurd (false_true (sym f ∙ there (number_is spot j placed e)))
    by false true e f = absurd (false_true (sym e ∙ back f))

-- The remarks at a spot are those of all parts.
spot_whole : (program : Program) (known : Knowledge) (count : ℕ) → IsSound program → 1 ≤ count → (j : ℕ)
    → flat_map (λ part. filter (in_part program count part) (at_spot program known j)) (range_with_len 1 count) ≡ at_spot program known j
spot_whole program known count sound some j =
    let same : between spot j (j + 1) ≡ is_of (j / 5) (j % 5) = λ i placed. spot_is j placed i in
    let all : List PlacedRemark = remarks_of program known in
    (λ i. flat_map (λ part. filters_meet (in_part program count part) (same i) all i) (range_with_len 1 count))
    ∙ parts_are program known count sound some (j / 5) (j % 5)
    ∙ ap (λ test. filter test all) (sym same)

-- The remarks of a report rise by their spots, each on a statement.
const_spots : (point c : ℕ) (make : ℕ → Remark) → ((x : ℕ) → kind_of (make x) ≡ c) → (xs : List ℕ)
    → Span spot (5 * point + c) (5 * point + c) (placed_at point (map make xs))
const_spots point c make is [] = omega arith
const_spots point c make is (x ∷ xs) =
    let same : 5 * point + kind_of (make x) ≡ 5 * point + c = ap (λ k. 5 * point + k) (is x) in
    (omega (arith, same), subst (λ n. Span spot n (5 * point + c) (placed_at point (map make xs))) (sym same) (const_spots point c make is xs))

reached_spots : (program : Program) (known : Knowledge) (point : ℕ)
    → Span spot (5 * point) (5 * point + 4) (placed_at point (remarks_when_reached program known point))
reached_spots program known point =
    let place_there : Remark → PlacedRemark = λ remark. record { point = point; remark = remark } in
    let us : List Remark = map (λ v. Unset v) (unset_at program known point) in
    let cs : List Remark = map (λ e. Computed e) (computed_at program known point) in
    let bs : List Remark = map (λ e. VeryBusy e) (busy_at program known point) in
    let ds : List Remark = map (λ v. Dead v) (dead_at program known point) in
    let cut : placed_at point (us ++ cs ++ bs ++ ds) ≡ placed_at point us ++ placed_at point cs ++ placed_at point bs ++ placed_at point ds =
    map_append place_there (us ++ cs ++ bs) ds ∙ ap (λ xs. xs ++ placed_at point ds) (map_append place_there (us ++ cs) bs)
    ∙ ap (λ xs. xs ++ placed_at point bs ++ placed_at point ds) (map_append place_there us cs) in
    subst (Span spot (5 * point) (5 * point + 4)) (sym cut)
    (span_append spot (5 * point) (5 * point + 3) (5 * point + 4) (placed_at point us ++ placed_at point cs ++ placed_at point bs)
    (placed_at point ds)
    (span_append spot (5 * point) (5 * point + 2) (5 * point + 3) (placed_at point us ++ placed_at point cs) (placed_at point bs)
    (span_append spot (5 * point) (5 * point + 1) (5 * point + 2) (placed_at point us) (placed_at point cs)
    (span_weak spot _ (5 * point + 1) (5 * point + 1) _ (placed_at point us) (omega arith) (omega arith)
    (const_spots point 1 (λ v. Unset v) (λ x. refl) (unset_at program known point)))
    (span_weak spot _ (5 * point + 2) (5 * point + 2) _ (placed_at point cs) (omega arith) (omega arith)
    (const_spots point 2 (λ e. Computed e) (λ x. refl) (computed_at program known point))))
    (span_weak spot _ (5 * point + 3) (5 * point + 3) _ (placed_at point bs) (omega arith) (omega arith)
    (const_spots point 3 (λ e. VeryBusy e) (λ x. refl) (busy_at program known point))))
    (span_weak spot _ (5 * point + 4) (5 * point + 4) _ (placed_at point ds) (omega arith) (omega arith)
    (const_spots point 4 (λ v. Dead v) (λ x. refl) (dead_at program known point))))

abbrev block : Program → Knowledge → ℕ → List PlacedRemark
block program known point = placed_at point (remarks_at program known point)

block_spots : (program : Program) (known : Knowledge) (point : ℕ) → Span spot (5 * point) (5 * point + 4) (block program known point)
block_spots program known point = by (kind_at program point) (known.reach.has_path point)
  where
    by : (o : Option StmtKind) (reached : Bool) → Span spot (5 * point) (5 * point + 4) (placed_at point
        (elim o [ Some statement ↦ if reached then remarks_when_reached program known point else NeverReached ∷ [] | None ↦ [] ]))
    by None reached = omega arith
    by (Some statement) true = reached_spots program known point
    by (Some statement) false = (omega arith, omega arith)

spots_rise : (program : Program) (known : Knowledge) (from n : ℕ)
    → Span spot (5 * from) (5 * (from + n)) (flat_map (block program known) (range_with_len from n))
spots_rise program known from zero = omega arith
spots_rise program known from (suc n) =
    span_append spot (5 * from) (5 * (from + 1)) (5 * (from + suc n)) (block program known from)
    (flat_map (block program known) (range_with_len (from + 1) n))
    (span_weak spot (5 * from) (5 * from) (5 * from + 4) (5 * (from + 1)) (block program known from) (omega arith) (omega arith)
    (block_spots program known from))
    (span_weak spot (5 * (from + 1)) (5 * (from + 1)) (5 * (from + 1 + n)) (5 * (from + suc n)) _ (omega arith) (omega arith)
    (spots_rise program known (from + 1) n))

abbrev IsPlaced : Program → PlacedRemark → Type 0
IsPlaced program placed = IsSome (kind_at program placed.point)

all_placed : (program : Program) (point : ℕ) → IsSome (kind_at program point) → (remarks : List Remark)
    → Each (IsPlaced program) (placed_at point remarks)
all_placed program point there [] = tt
all_placed program point there (remark ∷ remarks) = (there, all_placed program point there remarks)

block_placed : (program : Program) (known : Knowledge) (point : ℕ) → Each (IsPlaced program) (block program known point)
block_placed program known point = by (kind_at program point) refl
  where
    by : (o : Option StmtKind) → kind_at program point ≡ o → Each (IsPlaced program) (placed_at point
        (elim o [ Some statement ↦ if known.reach.has_path point then remarks_when_reached program known point else NeverReached ∷ [] | None ↦ [] ]))
    by None is = tt
    by (Some statement) is = all_placed program point (subst IsSome (sym is) some_is) _
      where
        some_is : IsSome (Some statement)
        some_is = search rules

each_placed : (program : Program) (known : Knowledge) (from n : ℕ) → Each (IsPlaced program) (flat_map (block program known) (range_with_len from n))
each_placed program known from zero = tt
each_placed program known from (suc n) =
    each_append (IsPlaced program) (block program known from) (flat_map (block program known) (range_with_len (from + 1) n))
    (block_placed program known from)
    (each_placed program known (from + 1) n)

-- all remarks, spot by spot
spots_are : (program : Program) (known : Knowledge)
    → flat_map (at_spot program known) (range_with_len 0 (5 * point_count program + 1)) ≡ remarks_of program known
spots_are program known =
    let all : List PlacedRemark = remarks_of program known in
    let span : Span spot 0 (5 * (0 + point_count program)) all = spots_rise program known 0 (point_count program) in
    let e : 0 + (5 * point_count program + 1) ≡ 5 * (0 + point_count program) + 1 = omega arith in
    pieces spot (λ j. j) (λ j. omega arith) 0 all (span_rises spot 0 _ all span) 0 (5 * point_count program + 1)
    ∙ ap (λ n. filter (between spot 0 n) all) e
    ∙ kept_below spot (5 * (0 + point_count program) + 1) all (span_below spot 0 _ all span)

same_part : (high part v : ℕ) → part < 8192 → high * 8192 + part ≡ v → part ≡ v % 8192
same_part high part v few is = sym (mod-mul-add high 8192 part few) ∙ ap (λ n. n % 8192) is

-- of one place only the lines of one part
lines_of_other : (form : LineForm) (program : Program) (count v part : ℕ) (placed : List PlacedRemark) → part < 8192 → ¬ (part ≡ v % 8192)
    → filter (between place v (v + 1)) (map (line_made form part) placed) ≡ []
lines_of_other form program count v part [] few differ = refl
lines_of_other form program count v part (p ∷ placed) few differ =
    ap (λ b. cond b (line_made form part p ∷ filter (between place v (v + 1)) (map (line_made form part) placed))
    (filter (between place v (v + 1)) (map (line_made form part) placed))) (by (between place v (v + 1) (line_made form part p)) refl)
    ∙ lines_of_other form program count v part placed few differ
  where
    by : (b : Bool) → between place v (v + 1) (line_made form part p) ≡ b → between place v (v + 1) (line_made form part p) ≡ false
    by false out = out
    by true within = absurd (differ (same_part (base form p) part v few (number_is place v (line_made form part p) within)))

-- of a place the lines of one part alone, in whatever order the parts stand
one_part : (form : LineForm) (program : Program) (count v : ℕ) (placed : List PlacedRemark) (ks : List ℕ) → Below (λ k. k) 8192 ks
    → filter (between place v (v + 1)) (flat_map (lines_of form program count placed) ks)
    ≡ times (stands (v % 8192) ks) (filter (between place v (v + 1)) (lines_of form program count placed (v % 8192)))
one_part form program count v placed ks few =
    filter_flat (between place v (v + 1)) (lines_of form program count placed) ks
    ∙ once (λ k. filter (between place v (v + 1)) (lines_of form program count placed k)) (v % 8192) 8192
    (λ k less differ. lines_of_other form program count v k (filter (in_part program count k) placed) less differ) ks few

below_from : (high : ℕ) (xs : List ℕ) → ((i d : ℕ) → i < length xs → get_or xs i d < high) → Below (λ k. k) high xs
below_from high [] all = tt
below_from high (x ∷ xs) all = (all 0 0 (omega arith), below_from high xs (λ i d below. all (suc i) d (omega (arith, below))))

range_below : (count high : ℕ) → count < high → (i d : ℕ) → i < length (range_with_len 1 count) → get_or (range_with_len 1 count) i d < high
range_below count high less i d within =
    let under : i < count = subst (λ n. i < n) (length-range_with_len 1 count) within in
    subst (λ n. n < high) (sym (get_or-range_with_len 1 count i d under)) (omega (arith, under, less))

stands_is : (m : ℕ) (xs : List ℕ) → stands m xs ≡ sum_by (λ k. if k == m then 1 else 0) xs
stands_is m [] = refl
stands_is m (x ∷ xs) = ap (λ n. (if x == m then 1 else 0) + n) (stands_is m xs) ∙ sym (sum_by-cons (λ k. if k == m then 1 else 0) x xs)

pub stands_same : (m : ℕ) (xs ys : List ℕ) → IsPermutation xs ys → stands m ys ≡ stands m xs
stands_same m xs ys moved = stands_is m ys ∙ sum_by-IsPermutation (λ k. if k == m then 1 else 0) xs ys moved ∙ sym (stands_is m xs)

none_of_none : {A : Type 0} (ks : List ℕ) → flat_map {X = ℕ} {A = A} (λ k. []) ks ≡ []
none_of_none [] = refl
none_of_none (k ∷ ks) = none_of_none ks

-- all spots of a program
abbrev spots_of : Program → List ℕ
spots_of program = range_with_len 0 (5 * point_count program + 1)

-- of a place what stands at each spot in one part
abbrev at_place : LineForm → Program → (count v : ℕ) → List PlacedRemark → List Line
at_place form program count v placed = filter (between place v (v + 1)) (lines_of form program count placed (v % 8192))

spots_at_place : (form : LineForm) (program : Program) (known : Knowledge) (count v : ℕ)
    → flat_map (λ j. at_place form program count v (at_spot program known j)) (spots_of program) ≡ at_place form program count v (remarks_of program known)
spots_at_place form program known count v =
    sym (filter_flat (between place v (v + 1)) (λ j. lines_of form program count (at_spot program known j) (v % 8192)) (spots_of program))
    ∙ ap (filter (between place v (v + 1)))
    (flat_map_map (line_made form (v % 8192)) (λ j. filter (in_part program count (v % 8192)) (at_spot program known j)) (spots_of program)
    ∙ ap (map (line_made form (v % 8192)))
    (sym (filter_flat (in_part program count (v % 8192)) (at_spot program known) (spots_of program))
    ∙ ap (filter (in_part program count (v % 8192))) (spots_are program known)))

by_count : (form : LineForm) (program : Program) (known : Knowledge) (count v c d : ℕ) → d ≡ c → (c ≡ 0) ⊎ (c ≡ 1)
    → flat_map (λ j. times c (at_place form program count v (at_spot program known j))) (spots_of program)
    ≡ times d (at_place form program count v (remarks_of program known))
by_count form program known count v c d same (inl none) =
    ap (λ n. flat_map (λ j. times n (at_place form program count v (at_spot program known j))) (spots_of program)) none
    ∙ none_of_none (spots_of program)
    ∙ ap (λ n. times n (at_place form program count v (remarks_of program known))) (sym (same ∙ none))
by_count form program known count v c d same (inr one) =
    ap (λ n. flat_map (λ j. times n (at_place form program count v (at_spot program known j))) (spots_of program)) one
    ∙ (λ i. flat_map (λ j. append-nil (at_place form program count v (at_spot program known j)) i) (spots_of program))
    ∙ spots_at_place form program known count v
    ∙ sym (append-nil (at_place form program count v (remarks_of program known)))
    ∙ ap (λ n. times n (at_place form program count v (remarks_of program known))) (sym (same ∙ one))

pieces_same : (form : LineForm) (program : Program) (known : Knowledge) (count : ℕ) (order : List ℕ) → count ≤ 4096 → IsPermutation (range_with_len 1 count) order
    → (v : ℕ)
    → filter (between place v (v + 1)) (all_lines form program known count)
    ≡ filter (between place v (v + 1)) (flat_map (lines_of form program count (remarks_of program known)) order)
pieces_same form program known count order few moved v =
    let range_few : Below (λ k. k) 8192 (range_with_len 1 count) =
    below_from 8192 (range_with_len 1 count) (range_below count 8192 (omega (arith, few))) in
    let order_few : Below (λ k. k) 8192 order =
    below_from 8192 order (All-permutation (λ k. k < 8192) (range_with_len 1 count) order moved (range_below count 8192 (omega (arith, few)))) in
    filter_flat (between place v (v + 1)) (chunk form program known count) (spots_of program)
    ∙ (λ i. flat_map (λ j. one_part form program count v (at_spot program known j) (range_with_len 1 count) range_few i) (spots_of program))
    ∙ by_count form program known count v (stands (v % 8192) (range_with_len 1 count)) (stands (v % 8192) order)
    (stands_same (v % 8192) (range_with_len 1 count) order moved) (at_most_once (v % 8192) 1 count)
    ∙ sym (one_part form program count v (remarks_of program known) order order_few)

-- the lines of one spot rise part by part
each_line : (form : LineForm) (program : Program) (b part : ℕ) (placed : List PlacedRemark) → Each (λ x. base form x ≡ b) placed
    → Each (λ line. place line ≡ b * 8192 + part) (map (line_made form part) placed)
each_line form program b part [] each = tt
each_line form program b part (x ∷ placed) each = (ap (λ n. n * 8192 + part) each.0, each_line form program b part placed each.1)

chunk_span : (form : LineForm) (program : Program) (count b : ℕ) (placed : List PlacedRemark) → Each (λ x. base form x ≡ b) placed → (a n : ℕ)
    → Span place (b * 8192 + a) (b * 8192 + (a + n)) (flat_map (lines_of form program count placed) (range_with_len a n))
chunk_span form program count b placed each a zero = omega arith
chunk_span form program count b placed each a (suc n) =
    span_append place (b * 8192 + a) (b * 8192 + (a + 1)) (b * 8192 + (a + suc n)) (lines_of form program count placed a)
    (flat_map (lines_of form program count placed) (range_with_len (a + 1) n))
    (span_weak place (b * 8192 + a) (b * 8192 + a) (b * 8192 + a) (b * 8192 + (a + 1)) (lines_of form program count placed a) (omega arith) (omega arith)
    (span_const place (b * 8192 + a) (lines_of form program count placed a)
    (each_line form program b a (filter (in_part program count a) placed) (each_filter (λ x. base form x ≡ b) (in_part program count a) placed each))))
    (span_weak place (b * 8192 + (a + 1)) (b * 8192 + (a + 1)) (b * 8192 + (a + 1 + n)) (b * 8192 + (a + suc n))
    (flat_map (lines_of form program count placed) (range_with_len (a + 1) n)) (omega arith) (omega arith)
    (chunk_span form program count b placed each (a + 1) n))

rises_append : {A : Type 0} (f : A → ℕ) (low mid : ℕ) (xs ys : List A) → Span f low mid xs → Rises f mid ys → Rises f low (xs ++ ys)
rises_append f low mid [] ys first second = rises_from f mid low ys first second
rises_append f low mid (x ∷ xs) ys first second = (first.0, rises_append f (f x) mid xs ys first.1 second)

same_base : (form : LineForm) (x y : PlacedRemark) → spot y ≡ spot x → base form y ≡ base form x
same_base form x y same =
    let k : kind_of x.remark < 5 = few_kinds x.remark in
    let l : kind_of y.remark < 5 = few_kinds y.remark in
    let points_same : y.point ≡ x.point = omega (arith, k, l, same) in
    let kinds_same : kind_of y.remark ≡ kind_of x.remark = omega (arith, k, l, same) in
    λ i. 5 * (4294967296 * form.section + form.number (points_same i)) + kinds_same i

next_base : (form : LineForm) (program : Program) → NumbersRise form program → (x y : PlacedRemark) → IsPlaced program x → IsPlaced program y → spot x < spot y
    → base form x < base form y
next_base form program rise x y there other less = by (cases_lt x.point y.point)
  where
    by : (x.point < y.point) ⊎ (y.point ≤ x.point) → base form x < base form y
    by (inl before) =
        let k : kind_of x.remark < 5 = few_kinds x.remark in
        let numbers_rise : form.number x.point < form.number y.point = rise x.point y.point before there other in
        omega (arith, k, numbers_rise)
    by (inr after) =
        let k : kind_of x.remark < 5 = few_kinds x.remark in
        let l : kind_of y.remark < 5 = few_kinds y.remark in
        let points_same : x.point ≡ y.point = omega (arith, k, l, less, after) in
        let kinds_rise : kind_of x.remark < kind_of y.remark = omega (arith, less, points_same) in
        subst (λ p. 5 * (4294967296 * form.section + form.number p) + kind_of x.remark < base form y) (sym points_same) (omega (arith, kinds_rise))

-- where no remark is at a spot, no line is
chunk_none : (form : LineForm) (program : Program) (known : Knowledge) (count j : ℕ) → at_spot program known j ≡ [] → chunk form program known count j ≡ []
chunk_none form program known count j none =
    ap (λ xs. flat_map (lines_of form program count xs) (range_with_len 1 count)) none ∙ none_of_none (range_with_len 1 count)

placed_at_spot : (program : Program) (known : Knowledge) (j : ℕ) → Each (IsPlaced program) (at_spot program known j)
placed_at_spot program known j =
    each_filter (IsPlaced program) (between spot j (j + 1)) (remarks_of program known) (each_placed program known 0 (point_count program))

spots_at_spot : (program : Program) (known : Knowledge) (j : ℕ) → Each (λ x. spot x ≡ j) (at_spot program known j)
spots_at_spot program known j =
    each_more (λ x. between spot j (j + 1) x ≡ true) (λ x. spot x ≡ j) (λ x passes. number_is spot j x passes) (at_spot program known j)
    (each_passes (between spot j (j + 1)) (remarks_of program known))

-- the lines at a spot, and those behind it
chunk_then : (form : LineForm) (program : Program) (known : Knowledge) (count : ℕ) → NumbersRise form program → count ≤ 4096 → (from low : ℕ) (others : List Line)
    → ((y : PlacedRemark) → IsPlaced program y → from ≤ spot y → low ≤ base form y * 8192)
    → ((later : ℕ) → ((y : PlacedRemark) → IsPlaced program y → from + 1 ≤ spot y → later ≤ base form y * 8192) → Rises place later others)
    → (xs : List PlacedRemark) → at_spot program known from ≡ xs → Rises place low (chunk form program known count from ++ others)
chunk_then form program known count rise few from low others least rest [] is =
    subst (λ ls. Rises place low (ls ++ others)) (sym (chunk_none form program known count from is))
    (rest low (λ y there far. least y there (omega (arith, far))))
chunk_then form program known count rise few from low others least rest (x ∷ xs) is =
    let there : Each (IsPlaced program) (x ∷ xs) = subst (Each (IsPlaced program)) is (placed_at_spot program known from) in
    let spots : Each (λ y. spot y ≡ from) (x ∷ xs) = subst (Each (λ y. spot y ≡ from)) is (spots_at_spot program known from) in
    let here : spot x ≡ from = spots.0 in
    let bases : Each (λ y. base form y ≡ base form x) (x ∷ xs) =
    each_more (λ y. spot y ≡ from) (λ y. base form y ≡ base form x) (λ y at. same_base form x y (at ∙ sym here)) (x ∷ xs) spots in
    let first : low ≤ base form x * 8192 = least x there.0 (omega (arith, here)) in
    let behind : Rises place (base form x * 8192 + (1 + count)) others =
    rest (base form x * 8192 + (1 + count)) (λ y other far.
    let more : base form x < base form y = next_base form program rise x y there.0 other (omega (arith, here, far)) in
    omega (arith, more, few)) in
    subst (λ ys. Rises place low (flat_map (lines_of form program count ys) (range_with_len 1 count) ++ others)) (sym is)
    (rises_from place (base form x * 8192 + 1) low (flat_map (lines_of form program count (x ∷ xs)) (range_with_len 1 count) ++ others)
    (omega (arith, first))
    (rises_append place (base form x * 8192 + 1) (base form x * 8192 + (1 + count))
    (flat_map (lines_of form program count (x ∷ xs)) (range_with_len 1 count))
    others (chunk_span form program count (base form x) (x ∷ xs) bases 1 count) behind))

chunks_rise : (form : LineForm) (program : Program) (known : Knowledge) (count : ℕ) → NumbersRise form program → count ≤ 4096 → (from n low : ℕ)
    → ((y : PlacedRemark) → IsPlaced program y → from ≤ spot y → low ≤ base form y * 8192)
    → Rises place low (flat_map (chunk form program known count) (range_with_len from n))
chunks_rise form program known count rise few from zero low least = tt
chunks_rise form program known count rise few from (suc n) low least =
    chunk_then form program known count rise few from low (flat_map (chunk form program known count) (range_with_len (from + 1) n)) least
    (λ later least_later. chunks_rise form program known count rise few (from + 1) n later least_later) (at_spot program known from) refl

-- the text of all lines
texts_are : (form : LineForm) (program : Program) (known : Knowledge) (count : ℕ) → IsSound program → 1 ≤ count
    → flat_map (λ (line : Line). line.text ++ codes "\n") (all_lines form program known count)
    ≡ flat_map (λ (placed : PlacedRemark). form.text_of placed ++ codes "\n") (remarks_of program known)
texts_are form program known count sound some =
    let t : Line → List ℕ = λ line. line.text ++ codes "\n" in
    let r : PlacedRemark → List ℕ = λ placed. form.text_of placed ++ codes "\n" in
    let js : List ℕ = spots_of program in
    let ks : List ℕ = range_with_len 1 count in
    flat_flat t (chunk form program known count) js
    ∙ (λ i. flat_map (λ j. flat_flat t (lines_of form program count (at_spot program known j)) ks i) js)
    ∙ (λ i. flat_map (λ j. flat_map (λ k. flat_map-map t (line_made form k) (filter (in_part program count k) (at_spot program known j)) i) ks) js)
    ∙ sym (λ i. flat_map (λ j. flat_flat r (λ k. filter (in_part program count k) (at_spot program known j)) ks i) js)
    ∙ (λ i. flat_map (λ j. flat_map r (spot_whole program known count sound some j i)) js)
    ∙ sym (flat_flat r (at_spot program known) js)
    ∙ ap (flat_map r) (spots_are program known)

-- The lines of remarks of all parts, in whatever order, put in order.
pub remarks_in_order : (form : LineForm) (program : Program) (known : Knowledge) (count : ℕ) (order : List ℕ) → NumbersRise form program → count ≤ 4096
    → IsPermutation (range_with_len 1 count) order
    → in_order_by place (flat_map (lines_of form program count (remarks_of program known)) order) ≡ all_lines form program known count
remarks_in_order form program known count order rise few moved =
    sym (in_order_is place (flat_map (lines_of form program count (remarks_of program known)) order) (all_lines form program known count)
    (chunks_rise form program known count rise few 0 (5 * point_count program + 1) 0 (λ y there far. omega arith))
    (pieces_same form program known count order few moved))

-- the lines of a report
abbrev report_form : Program → LineForm
report_form program = record {
  section = 0;
  number = line_at program;
  text_of = λ placed. decimal (line_at program placed.point) ++ codes ": " ++ remark_text program placed.remark;
}

pub merged_are : MergedPartsAreTheReport
merged_are program known digest count [] sound rise some few moved =
    absurd (let e : 0 ≡ count = length_permutation (range_with_len 1 count) [] moved ∙ length-range_with_len 1 count in omega (arith, e, some))
merged_are program known digest count (k ∷ ks) sound rise some few moved =
    ap (λ lines. counts_of program ++ codes "\n" ++ flat_map (λ (line : Line). line.text ++ codes "\n") lines)
    (ap (in_order_by place) (flat_map-map (λ p. p.lines) (read_as digest program known count) (k ∷ ks))
    ∙ remarks_in_order (report_form program) program known count (k ∷ ks) rise few moved)
    ∙ ap (λ text. count_line program ++ text) (texts_are (report_form program) program known count sound some)
    ∙ sym (report_is program known)
