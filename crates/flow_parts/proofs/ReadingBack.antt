-- The text of a part reads back as the part.
use Rattle.std.proofs.Common.{◌≡◌, refl, lit<, ℕ, zero, suc, ◌+◌, ◌/◌, ◌%◌, ◌<◌, ◌==◌, Bool, true, false, not, cond}
use Rattle.std.proofs.Common.{List, [], ◌∷◌, ◌++◌, length, take, drop, decimal}
use Rattle.std.proofs.Common.{ap, ◌∙◌, arith, if◌then◌else◌}
use Rattle.std.specs.Fmt.{digits, digits_onto, digit_glyph}
use Rattle.std.specs.List.{after_first, before_first, list_all, onto_first, position_or_len, slice_split}
use Rattle.std.proofs.Math.Nat.{mod-lt}
use Rattle.std.proofs.lemmas.Bool.{and_parts, lt-ltb, ne_eqb}
use Rattle.part_texts.specs.Lines.{is_colon, is_line_feed, is_space}
use Rattle.flow_parts.proofs.MergeLists.{Each, each_append}

-- no byte of a text passes
abbrev pub Clear : (ℕ → Bool) → List ℕ → Type 0
Clear test text = Each (λ b. test b ≡ false) text

not_true : (b : Bool) → not b ≡ true → b ≡ false
not_true true is = absurd (cc is)
not_true false is = refl

pub clear_all : (test : ℕ → Bool) (text : List ℕ) → list_all (λ b. not (test b)) text ≡ true → Clear test text
clear_all test [] all = tt
clear_all test (b ∷ text) all =
    let both : (not (test b) ≡ true) × (list_all (λ c. not (test c)) text ≡ true) = and_parts _ _ all in
    (not_true (test b) both.0, clear_all test text both.1)

pub clear_append : (test : ℕ → Bool) (xs ys : List ℕ) → Clear test xs → Clear test ys → Clear test (xs ++ ys)
clear_append test xs ys first second = each_append (λ b. test b ≡ false) xs ys first second

-- a text cut around the first byte that passes
pub split_there : (test : ℕ → Bool) (c : ℕ) → test c ≡ true → (xs ys : List ℕ) → Clear test xs
    → slice_split test (xs ++ c ∷ ys) ≡ xs ∷ slice_split test ys
split_there test c is [] ys clear = ap (λ b. cond b ([] ∷ slice_split test ys) (onto_first c (slice_split test ys))) is
split_there test c is (x ∷ xs) ys clear =
    ap (λ b. cond b ([] ∷ slice_split test (xs ++ c ∷ ys)) (onto_first x (slice_split test (xs ++ c ∷ ys)))) clear.0
    ∙ ap (onto_first x) (split_there test c is xs ys clear.1)

pub split_none : (test : ℕ → Bool) (xs : List ℕ) → Clear test xs → slice_split test xs ≡ xs ∷ []
split_none test [] clear = refl
split_none test (x ∷ xs) clear =
    ap (λ b. cond b ([] ∷ slice_split test xs) (onto_first x (slice_split test xs))) clear.0 ∙ ap (onto_first x) (split_none test xs clear.1)

first_there : (test : ℕ → Bool) (c : ℕ) → test c ≡ true → (xs ys : List ℕ) → Clear test xs → position_or_len test (xs ++ c ∷ ys) ≡ length xs
first_there test c is [] ys clear = ap (λ b. cond (not b) (1 + position_or_len test ys) 0) is
first_there test c is (x ∷ xs) ys clear =
    ap (λ b. cond (not b) (1 + position_or_len test (xs ++ c ∷ ys)) 0) clear.0
    ∙ (let rest : position_or_len test (xs ++ c ∷ ys) ≡ length xs = first_there test c is xs ys clear.1 in omega (arith, rest))

take_front : (xs ys : List ℕ) → take (length xs) (xs ++ ys) ≡ xs
take_front [] ys = refl
take_front (x ∷ xs) ys = ap (λ zs. x ∷ zs) (take_front xs ys)

drop_front : (xs : List ℕ) (c : ℕ) (ys : List ℕ) → drop (suc (length xs)) (xs ++ c ∷ ys) ≡ ys
drop_front [] c ys = refl
drop_front (x ∷ xs) c ys = drop_front xs c ys

pub before_there : (test : ℕ → Bool) (c : ℕ) → test c ≡ true → (xs ys : List ℕ) → Clear test xs → before_first test (xs ++ c ∷ ys) ≡ xs
before_there test c is xs ys clear = ap (λ n. take n (xs ++ c ∷ ys)) (first_there test c is xs ys clear) ∙ take_front xs (c ∷ ys)

pub after_there : (test : ℕ → Bool) (c : ℕ) → test c ≡ true → (xs ys : List ℕ) → Clear test xs → after_first test (xs ++ c ∷ ys) ≡ ys
after_there test c is xs ys clear =
    let e : position_or_len test (xs ++ c ∷ ys) + 1 ≡ suc (length xs) =
    (let rest : position_or_len test (xs ++ c ∷ ys) ≡ length xs = first_there test c is xs ys clear in omega (arith, rest)) in
    ap (λ n. drop n (xs ++ c ∷ ys)) e ∙ drop_front xs c ys

-- numbers are digits
glyph_is : (d : ℕ) → d < 10 → digit_glyph false d ≡ 48 + d
glyph_is d few = ap (λ b. if b then 48 + d else 87 + d) (lt-ltb d 10 few)

onto_clear : (test : ℕ → Bool) → ((d : ℕ) → d < 10 → test (48 + d) ≡ false) → (k n : ℕ) (acc : List ℕ) → Clear test acc
    → Clear test (digits_onto k 10 false n acc)
onto_clear test digit zero n acc clear = clear
onto_clear test digit (suc k) n acc clear =
    by (n / 10 == 0) (onto_clear test digit k (n / 10) (digit_glyph false (n % 10) ∷ acc) (here, clear))
  where
    here : test (digit_glyph false (n % 10)) ≡ false
    here = ap test (glyph_is (n % 10) (mod-lt n (lit< tt))) ∙ digit (n % 10) (mod-lt n (lit< tt))

    by : (b : Bool) → Clear test (digits_onto k 10 false (n / 10) (digit_glyph false (n % 10) ∷ acc))
        → Clear test (if b then digit_glyph false (n % 10) ∷ acc else digits_onto k 10 false (n / 10) (digit_glyph false (n % 10) ∷ acc))
    by true rest = (ap test (glyph_is (n % 10) (mod-lt n (lit< tt))) ∙ digit (n % 10) (mod-lt n (lit< tt)), clear)
    by false rest = rest

pub decimal_clear : (test : ℕ → Bool) → ((d : ℕ) → d < 10 → test (48 + d) ≡ false) → (n : ℕ) → Clear test (decimal n)
unfolding digits
decimal_clear test digit n = onto_clear test digit 64 n [] tt

pub decimal_lines : (n : ℕ) → Clear is_line_feed (decimal n)
decimal_lines n = decimal_clear is_line_feed (λ d few. ne_eqb (48 + d) 10 (λ same. absurd (omega (arith, same)))) n

pub decimal_spaces : (n : ℕ) → Clear is_space (decimal n)
decimal_spaces n = decimal_clear is_space (λ d few. ne_eqb (48 + d) 32 (λ same. absurd (omega (arith, same)))) n

pub decimal_colons : (n : ℕ) → Clear is_colon (decimal n)
decimal_colons n = decimal_clear is_colon (λ d few. ne_eqb (48 + d) 58 (λ same. absurd (omega (arith, same, few)))) n
