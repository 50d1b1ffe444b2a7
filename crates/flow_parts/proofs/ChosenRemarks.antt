-- The remarks of a part are the same of two that know the same of its bits.
use Rattle.std.proofs.Common.{◌≡◌, ◌∙◌, ℕ, zero, suc, ◌+◌, ◌<◌, ◌≤◌, Bool, true, false, not, ◌&&◌, List, [], ◌∷◌, ◌++◌, cond, length, map, flat_map}
use Rattle.std.proofs.Common.{filter, Option, Some, None, option_and_then, option_map, unwrap_or, if◌then◌else◌, refl, sym, ap, ap₂, arith}
use Rattle.std.specs.List.{range_with_len}
use Rattle.std.proofs.lemmas.List.Concat.{flat_map-cons}
use Rattle.std.proofs.lemmas.List.Elements.{filter-append}
use Rattle.flow_graph.specs.Points.{kind_at, point_count}
use Rattle.flow_graph.specs.Transfers.{reads}
use Rattle.flow_graph.specs.Universes.{bits, evaluated_at}
use Rattle.flow_graph.specs.declared.analysis.Analysis.TheVariants.{Avail, Busy}
use Rattle.flow_graph.proofs.places.Standing.{stands}
use Rattle.tac_program.specs.Programs.{Program}
use Rattle.tac_program.specs.Sound.{IsSound}
use Rattle.tac_program.specs.declared.program.StmtKind.{StmtKind}
use Rattle.flow_texts.specs.Tables.{bits_at}
use Rattle.flow_reports.specs.Listed.{placed_at}
use Rattle.flow_reports.specs.Reports.{Knowledge, busy_at, computed_at, dead_at, remarks_at, remarks_when_reached, unset_at}
use Rattle.report_answers.specs.Statements.{assigned, is_test}
use Rattle.report_answers.specs.declared.chosen_bits.ChosenBits.{ChosenBits}
use Rattle.flow_reports.specs.declared.listed.PlacedRemark.{PlacedRemark}
use Rattle.flow_reports.specs.declared.remark.Remark.{Remark}
use Rattle.flow_reports.specs.declared.remark.Remark.TheVariants.{NeverReached, Unset, Computed, VeryBusy, Dead}
use Rattle.flow_reports.proofs.knowledge.KnownReports.{AgreeOn}
use Rattle.report_answers.proofs.queries.Statements.{next_below}
use Rattle.flow_parts.specs.Cuts.{is_in_cut, is_in_part}
use Rattle.flow_parts.specs.code.Bits.{AreOfPart}
use Rattle.flow_parts.specs.Parts.{part_remarks}

-- what is not wanted is passed over, and what is wanted stays
dropped : (wanted : ℕ → Bool) (x : ℕ) (xs : List ℕ) (b : Bool) → wanted x ≡ false → filter wanted (cond b (x ∷ xs) xs) ≡ filter wanted xs
dropped wanted x xs true off = ap (λ w. cond w (x ∷ filter wanted xs) (filter wanted xs)) off
dropped wanted x xs false off = refl

kept : (wanted : ℕ → Bool) (x : ℕ) (xs ys : List ℕ) (b : Bool) → filter wanted xs ≡ filter wanted ys
    → filter wanted (cond b (x ∷ xs) xs) ≡ filter wanted (cond b (x ∷ ys) ys)
kept wanted x xs ys true rest = ap (λ zs. cond (wanted x) (x ∷ zs) zs) rest
kept wanted x xs ys false rest = rest

one_of : (wanted : ℕ → Bool) (x : ℕ) (xs ys : List ℕ) (b c w : Bool) → wanted x ≡ w → (wanted x ≡ true → b ≡ c) → filter wanted xs ≡ filter wanted ys
    → filter wanted (cond b (x ∷ xs) xs) ≡ filter wanted (cond c (x ∷ ys) ys)
one_of wanted x xs ys b c true is same rest = ap (λ t. filter wanted (cond t (x ∷ xs) xs)) (same is) ∙ kept wanted x xs ys c rest
one_of wanted x xs ys b c false is same rest = dropped wanted x xs b is ∙ rest ∙ sym (dropped wanted x ys c is)

-- two tests that agree where it is wanted
same_chosen : (wanted p q : ℕ → Bool) (a n : ℕ) → ((k : ℕ) → a ≤ k → k < a + n → wanted k ≡ true → p k ≡ q k)
    → filter wanted (filter p (range_with_len a n)) ≡ filter wanted (filter q (range_with_len a n))
same_chosen wanted p q a zero same = refl
same_chosen wanted p q a (suc n) same =
    one_of wanted a (filter p (range_with_len (a + 1) n)) (filter q (range_with_len (a + 1) n)) (p a) (q a) (wanted a) refl
    (same a (omega arith) (omega arith))
    (same_chosen wanted p q (a + 1) n (λ k from to. same k (omega (arith, from)) (omega (arith, to))))

one_chosen : (wanted : ℕ → Bool) (x : ℕ) (b c : Bool) → (wanted x ≡ true → b ≡ c)
    → filter wanted (if b then x ∷ [] else []) ≡ filter wanted (if c then x ∷ [] else [])
one_chosen wanted x b c same = one_of wanted x [] [] b c (wanted x) refl same refl

-- a filter of what is made of numbers
filter_made : {A : Type 0} (test : A → Bool) (make : ℕ → A) (xs : List ℕ) → filter test (map make xs) ≡ map make (filter (λ x. test (make x)) xs)
filter_made test make [] = refl
filter_made test make (x ∷ xs) =
    ap (λ ys. cond (test (make x)) (make x ∷ ys) ys) (filter_made test make xs) ∙ pull (test (make x)) (filter (λ y. test (make y)) xs)
  where
    pull : (b : Bool) (ys : List ℕ) → cond b (make x ∷ map make ys) (map make ys) ≡ map make (cond b (x ∷ ys) ys)
    pull true ys = refl
    pull false ys = refl

filter_placed : (test : PlacedRemark → Bool) (point : ℕ) (rs : List Remark)
    → filter test (placed_at point rs) ≡ placed_at point (filter (λ remark. test (record { point = point; remark = remark })) rs)
filter_placed test point [] = refl
filter_placed test point (r ∷ rs) =
    ap (λ ys. cond (test (place r)) (place r ∷ ys) ys) (filter_placed test point rs) ∙ pull (test (place r)) (filter (λ remark. test (place remark)) rs)
  where
    place : Remark → PlacedRemark
    place = λ remark. record { point = point; remark = remark }

    pull : (b : Bool) (ys : List Remark) → cond b (place r ∷ placed_at point ys) (placed_at point ys) ≡ placed_at point (cond b (r ∷ ys) ys)
    pull true ys = refl
    pull false ys = refl

filter_four : (test : Remark → Bool) (a b c d : List Remark)
    → filter test (a ++ b ++ c ++ d) ≡ filter test a ++ filter test b ++ filter test c ++ filter test d
filter_four test a b c d =
    filter-append test (a ++ b ++ c) d
    ∙ ap (λ t. t ++ filter test d) (filter-append test (a ++ b) c ∙ ap (λ t. t ++ filter test c) (filter-append test a b))

made_same : (test : Remark → Bool) (make : ℕ → Remark) (xs ys : List ℕ) → filter (λ x. test (make x)) xs ≡ filter (λ x. test (make x)) ys
    → filter test (map make xs) ≡ filter test (map make ys)
made_same test make xs ys same = filter_made test make xs ∙ ap (map make) same ∙ sym (filter_made test make ys)

under : {A : Type 0} (test : A → Bool) (b : Bool) (xs ys zs : List A) → filter test xs ≡ filter test ys
    → filter test (if b then xs else zs) ≡ filter test (if b then ys else zs)
under test true xs ys zs same = same
under test false xs ys zs same = refl

abbrev computed_by : ℕ → Knowledge → Option ℕ → List ℕ
computed_by point known (Some bit) = if known.avail.contains point bit then bit ∷ [] else []
computed_by point known None = []

abbrev busy_by : Program → ℕ → Knowledge → Bool → List ℕ
busy_by program point known test = if test && not (known.doubtful point) then bits_at program Busy known.busy point else []

abbrev dead_by : ℕ → Knowledge → Option ℕ → List ℕ
dead_by point known (Some v) = if not (known.doubtful (suc point)) && not (known.live.contains (suc point) v) then v ∷ [] else []
dead_by point known None = []

module _ (program : Program) (sound : IsSound program) (count part : ℕ) (chosen : ChosenBits) (of : AreOfPart program count part chosen)
    (one other : Knowledge) (agree : AgreeOn chosen program one other) (point : ℕ) (below : point < point_count program) where
  variables : ℕ → Bool
  variables = is_in_cut (length program.variable_names) count part

  evaluated : ℕ → Bool
  evaluated = is_in_cut (bits program Avail) count part

  tested : ℕ → Bool
  tested = is_in_cut (bits program Busy) count part

  unset_test : (variable : ℕ) (b : Bool) → variables variable ≡ true → reads program point variable ≡ b
      → (reads program point variable && one.reach.contains point variable) ≡ (reads program point variable && other.reach.contains point variable)
  unfolding variables
  unset_test variable true on is = ap (λ c. reads program point variable && c) (agree.unset point variable below is (of.unset variable ∙ on))
  unset_test variable false on is = ap (λ r. r && one.reach.contains point variable) is ∙ sym (ap (λ r. r && other.reach.contains point variable) is)

  chosen_unset : filter variables (unset_at program one point) ≡ filter variables (unset_at program other point)
  chosen_unset = same_chosen variables (λ v. reads program point v && one.reach.contains point v)
      (λ v. reads program point v && other.reach.contains point v) 0 (length program.variable_names)
      (λ v low high on. unset_test v (reads program point v) on refl)

  chosen_computed_by : (o : Option ℕ) → evaluated_at program point ≡ o
      → filter evaluated (computed_by point one o) ≡ filter evaluated (computed_by point other o)
  unfolding evaluated
  chosen_computed_by None is = refl
  chosen_computed_by (Some bit) is =
      one_chosen evaluated bit (one.avail.contains point bit) (other.avail.contains point bit)
      (λ on. agree.computed point bit below is (of.computed bit ∙ on))

  chosen_computed : filter evaluated (computed_at program one point) ≡ filter evaluated (computed_at program other point)
  chosen_computed = chosen_computed_by (evaluated_at program point) refl

  chosen_busy_test : (kind : StmtKind) → kind_at program point ≡ Some kind → (t : Bool) → is_test kind ≡ t
      → filter tested (busy_by program point one t) ≡ filter tested (busy_by program point other t)
  unfolding tested
  chosen_busy_test kind at false is = refl
  chosen_busy_test kind at true is =
      ap (λ d. filter tested (if true && not d then bits_at program Busy one.busy point else [])) (agree.doubtful point below)
      ∙ under tested (true && not (other.doubtful point)) (bits_at program Busy one.busy point) (bits_at program Busy other.busy point) []
      (same_chosen tested (one.busy.contains point) (other.busy.contains point) 0 (bits program Busy)
      (λ bit low high on. agree.busy point bit kind below at is (omega (arith, high)) (of.busy bit ∙ on)))

  chosen_busy_by : (o : Option StmtKind) → kind_at program point ≡ o
      → filter tested (busy_by program point one (unwrap_or (option_map is_test o) false))
      ≡ filter tested (busy_by program point other (unwrap_or (option_map is_test o) false))
  chosen_busy_by None at = refl
  chosen_busy_by (Some kind) at = chosen_busy_test kind at (is_test kind) refl

  chosen_busy : filter tested (busy_at program one point) ≡ filter tested (busy_at program other point)
  chosen_busy = chosen_busy_by (kind_at program point) refl

  chosen_dead_sets : (kind : StmtKind) → kind_at program point ≡ Some kind → (o : Option ℕ) → assigned kind ≡ o
      → filter variables (dead_by point one o) ≡ filter variables (dead_by point other o)
  unfolding variables
  chosen_dead_sets kind at None is = refl
  chosen_dead_sets kind at (Some v) is =
      let next : suc point < point_count program = omega (arith, next_below program point kind (stands program sound point kind below at)) in
      one_chosen variables v (not (one.doubtful (suc point)) && not (one.live.contains (suc point) v))
      (not (other.doubtful (suc point)) && not (other.live.contains (suc point) v))
      (λ on. ap₂ (λ d l. not d && not l) (agree.doubtful (suc point) next) (agree.live point v kind below at is (of.dead v ∙ on)))

  chosen_dead_by : (o : Option StmtKind) → kind_at program point ≡ o
      → filter variables (dead_by point one (option_and_then assigned o)) ≡ filter variables (dead_by point other (option_and_then assigned o))
  chosen_dead_by None at = refl
  chosen_dead_by (Some kind) at = chosen_dead_sets kind at (assigned kind) refl

  chosen_dead : filter variables (dead_at program one point) ≡ filter variables (dead_at program other point)
  chosen_dead = chosen_dead_by (kind_at program point) refl

  here : Remark → Bool
  here = is_in_part program count part

  chosen_when_reached : filter here (remarks_when_reached program one point) ≡ filter here (remarks_when_reached program other point)
  unfolding here variables evaluated tested
  chosen_when_reached =
      filter_four here (map (λ x. Unset x) (unset_at program one point)) (map (λ x. Computed x) (computed_at program one point))
      (map (λ x. VeryBusy x) (busy_at program one point)) (map (λ x. Dead x) (dead_at program one point))
      ∙ (λ i. made_same here (λ x. Unset x) (unset_at program one point) (unset_at program other point) chosen_unset i
      ++ made_same here (λ x. Computed x) (computed_at program one point) (computed_at program other point) chosen_computed i
      ++ made_same here (λ x. VeryBusy x) (busy_at program one point) (busy_at program other point) chosen_busy i
      ++ made_same here (λ x. Dead x) (dead_at program one point) (dead_at program other point) chosen_dead i)
      ∙ sym
      (filter_four here (map (λ x. Unset x) (unset_at program other point)) (map (λ x. Computed x) (computed_at program other point))
      (map (λ x. VeryBusy x) (busy_at program other point)) (map (λ x. Dead x) (dead_at program other point)))

  chosen_by : (o : Option StmtKind)
      → filter here (elim o [ Some statement ↦ if one.reach.has_path point then remarks_when_reached program one point else NeverReached ∷ [] | None ↦ [] ])
      ≡ filter here (elim o [ Some statement ↦ if other.reach.has_path point then remarks_when_reached program other point else NeverReached ∷ [] | None ↦ [] ])
  chosen_by None = refl
  chosen_by (Some statement) =
      ap (λ b. filter here (if b then remarks_when_reached program one point else NeverReached ∷ [])) (agree.flags point below)
      ∙ under here (other.reach.has_path point) (remarks_when_reached program one point) (remarks_when_reached program other point) (NeverReached ∷ [])
      chosen_when_reached

  pub chosen_remarks : filter (is_in_part program count part) (remarks_at program one point)
      ≡ filter (is_in_part program count part) (remarks_at program other point)
  unfolding here
  chosen_remarks = chosen_by (kind_at program point)

same_parts : (test : PlacedRemark → Bool) (f g : ℕ → List PlacedRemark) (a n : ℕ) → ((k : ℕ) → a ≤ k → k < a + n → filter test (f k) ≡ filter test (g k))
    → filter test (flat_map f (range_with_len a n)) ≡ filter test (flat_map g (range_with_len a n))
same_parts test f g a zero same = refl
same_parts test f g a (suc n) same =
    let rest : filter test (flat_map f (range_with_len (a + 1) n)) ≡ filter test (flat_map g (range_with_len (a + 1) n)) =
    same_parts test f g (a + 1) n (λ k from to. same k (omega (arith, from)) (omega (arith, to))) in
    ap (filter test) (flat_map-cons f a (range_with_len (a + 1) n))
    ∙ filter-append test (f a) (flat_map f (range_with_len (a + 1) n))
    ∙ (λ i. same a (omega arith) (omega arith) i ++ rest i)
    ∙ sym (filter-append test (g a) (flat_map g (range_with_len (a + 1) n)))
    ∙ sym (ap (filter test) (flat_map-cons g a (range_with_len (a + 1) n)))

-- the remarks of a part are those of what is known of its bits
pub same_part : (program : Program) → IsSound program → (count part : ℕ) (chosen : ChosenBits) → AreOfPart program count part chosen
    → (one other : Knowledge) → AgreeOn chosen program one other → part_remarks program one count part ≡ part_remarks program other count part
same_part program sound count part chosen of one other agree =
    same_parts (λ placed. is_in_part program count part placed.remark) (λ point. placed_at point (remarks_at program one point))
    (λ point. placed_at point (remarks_at program other point)) 0 (point_count program)
    (λ point from to.
    filter_placed (λ placed. is_in_part program count part placed.remark) point (remarks_at program one point)
    ∙ ap (placed_at point) (chosen_remarks program sound count part chosen of one other agree point (omega (arith, to)))
    ∙ sym (filter_placed (λ placed. is_in_part program count part placed.remark) point (remarks_at program other point)))
