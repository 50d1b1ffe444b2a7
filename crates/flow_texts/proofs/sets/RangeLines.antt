-- Texts of the numbers of a range that pass a test, piece by piece
use Rattle.std.proofs.Common.{◌≡◌, ℕ, zero, suc, ◌+◌, ◌-◌, ◌*◌, ◌<◌, ◌≤◌, Bool, true, false, List, [], ◌∷◌, ◌++◌, min, cond, flat_map, append-nil}
use Rattle.std.proofs.Common.{refl, sym, ap, ◌∙◌, arith}
use Rattle.std.specs.List.{filter, range_with_len}
use Rattle.std.proofs.lemmas.Grind.{flat_map-append}
use Rattle.std.proofs.lemmas.List.Elements.{filter-append}
use Rattle.bit_rows.specs.Words.{has_bit}
use Rattle.bit_rows.proofs.words.WordBits.{has_bit-zero}
use Rattle.flow_texts.specs.code.Members.{texts_where}
use Rattle.text_pieces.specs.Pieces.{Outlet, Takes}
use Rattle.text_pieces.proofs.sinks.Taking.{takes_as, takes_then}

-- the text of one number that passes
pub one_text : (text_of : ℕ → List ℕ) (test : ℕ → Bool) (n : ℕ) → test n ≡ true → texts_where text_of test (n ∷ []) ≡ text_of n
one_text text_of test n passes = ap (λ b. flat_map text_of (cond b (n ∷ []) [])) passes ∙ append-nil (text_of n)

-- a range in two
pub range_split : (a m k : ℕ) → range_with_len a (m + k) ≡ range_with_len a m ++ range_with_len (a + m) k
range_split a zero k =
    let e : zero + k ≡ k = omega arith in
    let f : a ≡ a + zero = omega arith in
    ap (range_with_len a) e ∙ ap (λ b. range_with_len b k) f
range_split a (suc m) k =
    let e : suc m + k ≡ suc (m + k) = omega arith in
    let f : a + 1 + m ≡ a + suc m = omega arith in
    ap (range_with_len a) e ∙ ap (λ ns. a ∷ ns) (range_split (a + 1) m k ∙ ap (λ b. range_with_len (a + 1) m ++ range_with_len b k) f)

-- the texts of the numbers of a range that pass
abbrev pub texts_between : (ℕ → List ℕ) → (ℕ → Bool) → ℕ → ℕ → List ℕ
texts_between text_of test a n = texts_where text_of test (range_with_len a n)

pub texts_split : (text_of : ℕ → List ℕ) (test : ℕ → Bool) (a m k : ℕ)
    → texts_between text_of test a (m + k) ≡ texts_between text_of test a m ++ texts_between text_of test (a + m) k
texts_split text_of test a m k =
    ap (flat_map text_of) (ap (filter test) (range_split a m k) ∙ filter-append test (range_with_len a m) (range_with_len (a + m) k))
    ∙ flat_map-append text_of (filter test (range_with_len a m)) (filter test (range_with_len (a + m) k))

-- a word more
pub next_word : (text_of : ℕ → List ℕ) (test : ℕ → Bool) (n w : ℕ) (old one two : Outlet) → 64 * w < n
    → Takes old one (texts_between text_of test 0 (min n (64 * w)))
    → Takes one two (texts_between text_of test (64 * w) (min n (64 * w + 64) - 64 * w))
    → Takes old two (texts_between text_of test 0 (min n (64 * (w + 1))))
next_word text_of test n w old one two below before done =
    let all : min n (64 * w) ≡ 64 * w = omega arith in
    let from : 64 * w ≡ 0 + 64 * w = omega arith in
    let more : 64 * w + (min n (64 * w + 64) - 64 * w) ≡ min n (64 * (w + 1)) = omega arith in
    let k : ℕ = min n (64 * w + 64) - 64 * w in
    takes_as old two _ _ (takes_then old one two _ _ before done)
    (ap (λ m. texts_between text_of test 0 m ++ texts_between text_of test (64 * w) k) all
    ∙ ap (λ b. texts_between text_of test 0 (64 * w) ++ texts_between text_of test b k) from
    ∙ sym (texts_split text_of test 0 (64 * w) k)
    ∙ ap (λ m. texts_between text_of test 0 m) more)

-- none passes
none_pass : (test : ℕ → Bool) (a k : ℕ) → ((i : ℕ) → i < k → test (a + i) ≡ false) → filter test (range_with_len a k) ≡ []
none_pass test a zero fails = refl
none_pass test a (suc k) fails =
    let first : a + 0 ≡ a = omega arith in
    ap (λ t. cond t (a ∷ filter test (range_with_len (a + 1) k)) (filter test (range_with_len (a + 1) k)))
    (ap test (sym first) ∙ fails 0 (omega arith))
    ∙ none_pass test (a + 1) k (λ i below. let e : a + 1 + i ≡ a + suc i = omega arith in ap test e ∙ fails (suc i) (omega arith))

-- no texts where none passes
pub none_texts : (text_of : ℕ → List ℕ) (test : ℕ → Bool) (a k : ℕ) → ((i : ℕ) → i < k → test (a + i) ≡ false) → texts_between text_of test a k ≡ []
none_texts text_of test a k fails = ap (flat_map text_of) (none_pass test a k fails)

-- as far as none passes the texts stay
pub no_more : (text_of : ℕ → List ℕ) (test : ℕ → Bool) (a b : ℕ) → a ≤ b → ((i : ℕ) → a ≤ i → i < b → test i ≡ false)
    → texts_between text_of test 0 a ≡ texts_between text_of test 0 b
no_more text_of test a b less none =
    let k : ℕ = b - a in
    let all : a + k ≡ b = omega (arith, less) in
    let nothing : texts_between text_of test (0 + a) k ≡ [] =
    none_texts text_of test (0 + a) k (λ i below. none (0 + a + i) (omega arith) (omega (arith, below, less))) in
    sym (ap (texts_between text_of test 0) (sym all) ∙ texts_split text_of test 0 a k
    ∙ ap (λ t. texts_between text_of test 0 a ++ t) nothing ∙ append-nil (texts_between text_of test 0 a))

-- a number more that passes, and none behind it as far as another place
pub next_member : (text_of : ℕ → List ℕ) (test : ℕ → Bool) (a place next width : ℕ) (old one two : Outlet) → place < width → place + 1 ≤ next
    → test (a + place) ≡ true
    → ((k : ℕ) → place + 1 ≤ k → k < min width next → test (a + k) ≡ false)
    → Takes old one (texts_between text_of test a (min width place))
    → Takes one two (text_of (a + place))
    → Takes old two (texts_between text_of test a (min width next))
next_member text_of test a place next width old one two inside further passes none before done =
    let r : ℕ = min width next - (place + 1) in
    let here : min width place ≡ place = omega (arith, inside) in
    let all : place + (1 + r) ≡ min width next = omega (arith, inside, further) in
    let none_behind : texts_between text_of test (a + place + 1) r ≡ [] = none_texts text_of test (a + place + 1) r
    (λ i below. let e : a + place + 1 + i ≡ a + (place + 1 + i) = omega arith in
    ap test e ∙ none (place + 1 + i) (omega arith) (omega (arith, below))) in
    takes_as old two _ _ (takes_then old one two _ _ before done)
    (ap (λ m. texts_between text_of test a m ++ text_of (a + place)) here
    ∙ ap (λ t. texts_between text_of test a place ++ t)
    (sym (one_text text_of test (a + place) passes)
    ∙ sym (append-nil (texts_between text_of test (a + place) 1))
    ∙ ap (λ t. texts_between text_of test (a + place) 1 ++ t) (sym none_behind)
    ∙ sym (texts_split text_of test (a + place) 1 r))
    ∙ sym (texts_split text_of test a place (1 + r))
    ∙ ap (texts_between text_of test a) all)

-- a word that is 0 gives no texts
pub no_texts : (text_of : ℕ → List ℕ) (test : ℕ → Bool) (n w value : ℕ) → ((k : ℕ) → k < 64 → has_bit value k ≡ test (64 * w + k)) → value ≡ 0
    → texts_between text_of test (64 * w) (min n (64 * w + 64) - 64 * w) ≡ []
no_texts text_of test n w value is_word zero_ =
    ap (flat_map text_of)
    (none_pass test (64 * w) (min n (64 * w + 64) - 64 * w)
    (λ i below. sym (is_word i (omega (arith, below))) ∙ ap (λ v. has_bit v i) zero_ ∙ has_bit-zero i))
