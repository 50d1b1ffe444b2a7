-- Names that are written behind a line, one after the other
use Rattle.std.proofs.Common.{◌≡◌, ℕ, zero, suc, ◌+◌, ◌<◌, Bool, true, false, List, [], ◌∷◌, ◌++◌, map, refl, sym, ap, subst, ◌∙◌, arith}
use Rattle.std.proofs.Common.{append_assoc, if◌then◌else◌, true≢false}
use Rattle.std.specs.List.{filter, range_with_len}
use Rattle.std.proofs.lemmas.List.{map-append}
use Rattle.std.proofs.lemmas.List.Elements.{filter-append}
use Rattle.flow_texts.proofs.sets.RangeLines.{range_split}
use Rattle.point_sets.specs.SetLines.{columns}
use Rattle.point_sets.specs.code.Lines.{Lays, line_behind, name_on, names_on, names_that, with_name}
use Rattle.point_sets.specs.declared.lines.Line.{Line}
use Rattle.text_pieces.specs.Pieces.{Outlet}
use Rattle.text_pieces.specs.code.Lists.{text_at}
use Rattle.text_pieces.proofs.sinks.Taking.{takes_as, takes_nothing, takes_then}

-- ---- names in two parts

names_on-append : (line : Line) (xs ys : List (List ℕ)) → names_on line xs ++ names_on (line_behind line xs) ys ≡ names_on line (xs ++ ys)
names_on-append line [] ys = refl
names_on-append line (x ∷ xs) ys =
    append_assoc (name_on line x) (names_on (with_name line x) xs) (names_on (line_behind (with_name line x) xs) ys)
    ∙ ap (λ t. name_on line x ++ t) (names_on-append (with_name line x) xs ys)

line_behind-append : (line : Line) (xs ys : List (List ℕ)) → line_behind (line_behind line xs) ys ≡ line_behind line (xs ++ ys)
line_behind-append line [] ys = refl
line_behind-append line (x ∷ xs) ys = line_behind-append (with_name line x) xs ys

pub lays-none : (line : Line) (at : Outlet) → Lays [] line at at line
lays-none line at = record { taken = takes_nothing at; is_last = refl }

lays-more : (xs ys : List (List ℕ)) (line mid last : Line) (a b d : Outlet) → Lays xs line a b mid → Lays ys mid b d last
    → Lays (xs ++ ys) line a d last
lays-more xs ys line mid last a b d one two = record {
  taken = takes_as a d (names_on line xs ++ names_on mid ys) (names_on line (xs ++ ys))
      (takes_then a b d (names_on line xs) (names_on mid ys) one.taken two.taken)
      (ap (λ m. names_on line xs ++ names_on m ys) one.is_last ∙ names_on-append line xs ys);
  is_last = two.is_last ∙ ap (λ m. line_behind m ys) one.is_last ∙ line_behind-append line xs ys;
}

-- ---- the names of numbers that pass a test

among-split : (test : ℕ → Bool) (texts : List (List ℕ)) (first m n : ℕ)
    → names_that test texts first m ++ names_that test texts (first + m) n ≡ names_that test texts first (m + n)
among-split test texts first m n =
    sym (ap (λ r. map (text_at texts) (filter test r)) (range_split first m n)
    ∙ ap (map (text_at texts)) (filter-append test (range_with_len first m) (range_with_len (first + m) n))
    ∙ map-append (text_at texts) (filter test (range_with_len first m)) (filter test (range_with_len (first + m) n)))

-- more of them
pub lays-further : (test : ℕ → Bool) (texts : List (List ℕ)) (first m n : ℕ) (line mid last : Line) (a b d : Outlet)
    → Lays (names_that test texts first m) line a b mid → Lays (names_that test texts (first + m) n) mid b d last
    → Lays (names_that test texts first (m + n)) line a d last
lays-further test texts first m n line mid last a b d one two =
    subst (λ names. Lays names line a d last) (among-split test texts first m n)
    (lays-more (names_that test texts first m) (names_that test texts (first + m) n) line mid last a b d one two)

-- none of them passes
none_passes : (test : ℕ → Bool) (texts : List (List ℕ)) (first count : ℕ) → ((k : ℕ) → k < count → test (first + k) ≡ false)
    → names_that test texts first count ≡ []
none_passes test texts first zero none = refl
none_passes test texts first (suc count) none =
    let here : test first ≡ false = subst (λ n. test n ≡ false) (omega arith) (none 0 (omega arith)) in
    let rest : List ℕ = filter test (range_with_len (first + 1) count) in
    ap (λ b. map (text_at texts) (if b then first ∷ rest else rest)) here
    ∙ none_passes test texts (first + 1) count (λ k below. subst (λ n. test n ≡ false) (omega arith) (none (suc k) (omega (arith, below))))

pub lays-no_names : (test : ℕ → Bool) (texts : List (List ℕ)) (first count : ℕ) (line : Line) (at : Outlet)
    → ((k : ℕ) → k < count → test (first + k) ≡ false) → Lays (names_that test texts first count) line at at line
lays-no_names test texts first count line at none =
    subst (λ names. Lays names line at at line) (sym (none_passes test texts first count none)) (lays-none line at)

-- a line with names is none on which the first one is still to come
behind_has : (line : Line) (names : List (List ℕ)) → line.others ≡ true → (line_behind line names).others ≡ true
behind_has line [] is = is
behind_has line (name ∷ names) is = behind_has (with_name line name) names refl

behind_starts : (line : Line) (names : List (List ℕ)) → (line.others ≡ false → line.column < columns)
    → (line_behind line names).others ≡ false → (line_behind line names).column < columns
behind_starts line [] starts is = starts is
behind_starts line (name ∷ names) starts is = absurd (true≢false (sym (behind_has (with_name line name) names refl) ∙ is))

pub still_starts : (names : List (List ℕ)) (line last : Line) (a b : Outlet) → Lays names line a b last
    → (line.others ≡ false → line.column < columns) → last.others ≡ false → last.column < columns
still_starts names line last a b lays starts =
    subst (λ (l : Line). l.others ≡ false → l.column < columns) (sym lays.is_last) (behind_starts line names starts)
