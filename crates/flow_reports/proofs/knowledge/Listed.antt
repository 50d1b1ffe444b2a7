-- Remarks as data, piece by piece
use Rattle.std.proofs.Common.{◌≡◌, ℕ, zero, suc, ◌+◌, ◌-◌, ◌*◌, ◌<◌, ◌≤◌, Bool, true, false, List, [], ◌∷◌, ◌++◌, min, cond, map, flat_map}
use Rattle.std.proofs.Common.{if◌then◌else◌, append-nil, append_assoc, refl, sym, ap, ◌∙◌, arith}
use Rattle.std.specs.List.{filter, range_with_len}
use Rattle.std.proofs.lemmas.Grind.{flat_map-append}
use Rattle.std.proofs.lemmas.List.{map-append}
use Rattle.std.proofs.lemmas.List.Concat.{flat_map-cons}
use Rattle.std.proofs.lemmas.List.Elements.{filter-append}
use Rattle.std.proofs.lemmas.List.Folds.{flat_map-map}
use Rattle.flow_graph.specs.Points.{point_count, points}
use Rattle.tac_program.specs.Programs.{Program}
use Rattle.tac_program.specs.Sound.{IsSound}
use Rattle.flow_texts.proofs.sets.RangeLines.{range_split}
use Rattle.flow_reports.specs.Listed.{AreRemarks, placed_at, remarks_of, report_with}
use Rattle.flow_reports.specs.Reports.{Knowledge, ListsSafely, count_line, lines_at, remark_line, remarks_at, report_of}
use Rattle.flow_reports.specs.code.Findings.{AreFindings, TellDoubtful, knowledge_of}
use Rattle.flow_reports.specs.declared.findings.Findings.{Findings}
use Rattle.flow_reports.specs.declared.listed.PlacedRemark.{PlacedRemark}
use Rattle.flow_reports.specs.declared.remark.Remark.{Remark}
use Rattle.flow_reports.proofs.knowledge.KnownReports.{Agree, agrees, same_remarks}
use Rattle.flow_reports.proofs.knowledge.SafeReports.{lists_safely}

-- remarks that are made of one number, or of none
pub map_if : {A : Type 0} (make : ℕ → A) (b : Bool) (x : ℕ) → map make (if b then x ∷ [] else []) ≡ (if b then make x ∷ [] else [])
map_if make true x = refl
map_if make false x = refl

-- remarks behind remarks
pub then_placed : (point : ℕ) (old one two : List PlacedRemark) (a b : List Remark) → one ≡ old ++ placed_at point a → two ≡ one ++ placed_at point b
    → two ≡ old ++ placed_at point (a ++ b)
then_placed point old one two a b first second =
    second
    ∙ ap (λ t. t ++ placed_at point b) first
    ∙ append_assoc old (placed_at point a) (placed_at point b)
    ∙ ap (λ t. old ++ t) (sym (map-append _ a b))

-- remarks of numbers behind those of others
pub then_made : (point : ℕ) (make : ℕ → Remark) (old one two : List PlacedRemark) (xs ys zs : List ℕ) → one ≡ old ++ placed_at point (map make xs)
    → two ≡ one ++ placed_at point (map make ys) → xs ++ ys ≡ zs → two ≡ old ++ placed_at point (map make zs)
then_made point make old one two xs ys zs first second all =
    then_placed point old one two (map make xs) (map make ys) first second
    ∙ ap (λ t. old ++ placed_at point t) (sym (map-append make xs ys) ∙ ap (map make) all)

-- the numbers of a range that pass a test
abbrev pub members : (ℕ → Bool) → ℕ → ℕ → List ℕ
members test a n = filter test (range_with_len a n)

pub members_split : (test : ℕ → Bool) (a m k : ℕ) → members test a (m + k) ≡ members test a m ++ members test (a + m) k
members_split test a m k = ap (filter test) (range_split a m k) ∙ filter-append test (range_with_len a m) (range_with_len (a + m) k)

-- a number more
pub one_more : (test : ℕ → Bool) (a n : ℕ) → members test a n ++ (if test (a + n) then (a + n) ∷ [] else []) ≡ members test a (n + 1)
one_more test a n = sym (members_split test a n 1)

none_pass : (test : ℕ → Bool) (a k : ℕ) → ((i : ℕ) → i < k → test (a + i) ≡ false) → members test a k ≡ []
none_pass test a zero fails = refl
none_pass test a (suc k) fails =
    let first : a + 0 ≡ a = omega arith in
    ap (λ t. cond t (a ∷ members test (a + 1) k) (members test (a + 1) k)) (ap test (sym first) ∙ fails 0 (omega arith))
    ∙ none_pass test (a + 1) k (λ i below. let e : a + 1 + i ≡ a + suc i = omega arith in ap test e ∙ fails (suc i) (omega arith))

-- as far as none passes they stay
pub no_more : (test : ℕ → Bool) (a b : ℕ) → a ≤ b → ((i : ℕ) → a ≤ i → i < b → test i ≡ false) → members test 0 a ≡ members test 0 b
no_more test a b less none =
    let k : ℕ = b - a in
    let all : a + k ≡ b = omega (arith, less) in
    let nothing : members test (0 + a) k ≡ [] = none_pass test (0 + a) k (λ i below. none (0 + a + i) (omega arith) (omega (arith, below, less))) in
    sym (ap (members test 0) (sym all) ∙ members_split test 0 a k ∙ ap (λ t. members test 0 a ++ t) nothing ∙ append-nil (members test 0 a))

-- a word more
pub next_word : (test : ℕ → Bool) (n w : ℕ) → 64 * w < n
    → members test 0 (min n (64 * w)) ++ members test (64 * w) (min n (64 * w + 64) - 64 * w) ≡ members test 0 (min n (64 * (w + 1)))
next_word test n w below =
    let all : min n (64 * w) ≡ 64 * w = omega arith in
    let from : 64 * w ≡ 0 + 64 * w = omega arith in
    let more : 64 * w + (min n (64 * w + 64) - 64 * w) ≡ min n (64 * (w + 1)) = omega arith in
    let k : ℕ = min n (64 * w + 64) - 64 * w in
    ap (λ m. members test 0 m ++ members test (64 * w) k) all
    ∙ ap (λ b. members test 0 (64 * w) ++ members test b k) from
    ∙ sym (members_split test 0 (64 * w) k)
    ∙ ap (members test 0) more

-- the lines of remarks are those of their points
lines_are : (program : Program) (known : Knowledge) (numbers : List ℕ)
    → flat_map (lines_at program known) numbers
    ≡ flat_map (λ (placed : PlacedRemark). remark_line program placed.point placed.remark)
    (flat_map (λ point. placed_at point (remarks_at program known point)) numbers)
lines_are program known [] = refl
lines_are program known (p ∷ ps) =
    flat_map-cons (lines_at program known) p ps
    ∙ ap (λ t. lines_at program known p ++ t) (lines_are program known ps)
    ∙ ap (λ t. t ++ flat_map line (flat_map at ps)) (sym (flat_map-map line (λ (remark : Remark). record { point = p; remark = remark }) (remarks_at program known p)))
    ∙ sym (flat_map-append line (at p) (flat_map at ps))
    ∙ ap (flat_map line) (sym (flat_map-cons at p ps))
  where
    line : PlacedRemark → List ℕ
    line = λ placed. remark_line program placed.point placed.remark

    at : ℕ → List PlacedRemark
    at = λ point. placed_at point (remarks_at program known point)

pub report_is : (program : Program) (known : Knowledge) → report_of program known ≡ report_with program (remarks_of program known)
report_is program known = ap (λ t. count_line program ++ t) (lines_are program known (points program))

-- remarks that are the same at each point of a range
same_lists : (f g : ℕ → List PlacedRemark) (a n : ℕ) → ((k : ℕ) → a ≤ k → k < a + n → f k ≡ g k)
    → flat_map f (range_with_len a n) ≡ flat_map g (range_with_len a n)
same_lists f g a zero same = refl
same_lists f g a (suc n) same =
    let rest : flat_map f (range_with_len (a + 1) n) ≡ flat_map g (range_with_len (a + 1) n) =
    same_lists f g (a + 1) n (λ k from to. same k (omega (arith, from)) (omega (arith, to))) in
    flat_map-cons f a (range_with_len (a + 1) n)
    ∙ ap (λ t. t ++ flat_map f (range_with_len (a + 1) n)) (same a (omega arith) (omega arith))
    ∙ ap (λ t. g a ++ t) rest
    ∙ sym (flat_map-cons g a (range_with_len (a + 1) n))

same_listed : (program : Program) (sound : IsSound program) (one other : Knowledge) → Agree program one other
    → remarks_of program one ≡ remarks_of program other
same_listed program sound one other agree =
    same_lists (λ point. placed_at point (remarks_at program one point)) (λ point. placed_at point (remarks_at program other point)) 0
    (point_count program)
    (λ point from below. ap (placed_at point) (same_remarks program sound one other agree point (omega (arith, below))))

-- The remarks of what was found are those of all that is known.
pub are_remarks : (found : Findings) (remarks : List PlacedRemark) → AreFindings found → TellDoubtful found.graph.now found.doubtful.items
    → remarks ≡ remarks_of found.graph.now (knowledge_of found) → AreRemarks found.graph.now remarks
are_remarks found remarks are doubts is =
    let program : Program = found.graph.now in
    let safely : ListsSafely program (report_of program (knowledge_of found)) = lists_safely found (report_of program (knowledge_of found)) are doubts refl in
    let same : remarks ≡ remarks_of program safely.known =
    is ∙ same_listed program are.sound (knowledge_of found) safely.known (agrees found are safely.known safely.is_known doubts) in
    record {
      known = safely.known;
      is_known = safely.is_known;
      are = same;
      report = report_is program safely.known ∙ ap (report_with program) (sym same);
      safe = safely.safe;
    }
