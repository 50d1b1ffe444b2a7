-- Sums over lists that change at one place, and words of which one changes.
use Rattle.std.proofs.Common.{◌≡◌, ℕ, zero, suc, ◌+◌, ◌/◌, ◌%◌, ◌^◌, ◌<◌, ◌≤◌, ◌≢◌, List, [], ◌∷◌, ◌++◌, length, get_or, set, sym, refl, ap, ◌∙◌}
use Rattle.std.proofs.Common.{arith, cond, eqb, eq-eqb, ne_eqb, max, get_or-set_other, get_or-set_same, Bool, ◌&&◌, ◌*◌}
use mathlib.Core.Logic.{dite}
use native.Mathlib.Decide.{ℕ_discrete, dec_le}
use mathlib.Core.Option.{some, some-injective, some-ne-none}
use lib.ListN.{get_elem?}
use Rattle.std.specs.Int.{bit_at}
use Rattle.std.specs.Int.Bits.{bit_or}
use Rattle.std.proofs.lemmas.Nat.{pow_below}
use Rattle.std.proofs.lemmas.Nat.Bits.{bit_at_or, bit_at-lt, bit_at-pow_same, bit_at-pow_other}
use Rattle.std.proofs.Math.Bool.{and-false}
use Rattle.slice_board.specs.Passes.{times, logged_at, logged_word, IsLogged}
use Rattle.slice_board.specs.Lawful.{total, shows_at}
use Rattle.slice_board.specs.code.Plays.{load_of}
use Rattle.slice_board.specs.declared.view.LoggedWord.{LoggedWord}
use Rattle.slice_board.specs.declared.view.Count.{Count}

module _ {A : Type 0} (g : A → ℕ) where
  pub total-append : (l m : List A) → total g (l ++ m) ≡ total g l + total g m
  total-append [] m = omega arith
  total-append (x ∷ xs) m = omega (arith, total-append xs m)

  pub total-set : (l : List A) (j : ℕ) (v w : A) → get_elem? l j ≡ some v → total g (set l j w) + g v ≡ total g l + g w
  total-set [] j v w e = absurd (some-ne-none v (sym e))
  total-set (x ∷ xs) zero v w e = omega (arith, ap g (some-injective x v e))
  total-set (x ∷ xs) (suc j) v w e = omega (arith, total-set xs j v w e)

  pub term_le : (l : List A) (j : ℕ) (v : A) → get_elem? l j ≡ some v → g v ≤ total g l
  term_le [] j v e = absurd (some-ne-none v (sym e))
  term_le (x ∷ xs) zero v e = omega (arith, ap g (some-injective x v e))
  term_le (x ∷ xs) (suc j) v e = omega (arith, term_le xs j v e)

pub times-append : (x : ℕ) (l m : List ℕ) → times x (l ++ m) ≡ times x l + times x m
times-append x [] m = omega arith
times-append x (y ∷ ys) m = omega (arith, times-append x ys m)

pub times-same : (x : ℕ) (l : List ℕ) → times x (l ++ x ∷ []) ≡ times x l + 1
times-same x l = omega (arith, times-append x l (x ∷ []), ap {B = ℕ} (λ b. cond b 1 0) (eq-eqb x x refl))

pub times-other : (x y : ℕ) (l : List ℕ) → y ≢ x → times y (l ++ x ∷ []) ≡ times y l
times-other x y l n = omega (arith, times-append y l (x ∷ []), ap {B = ℕ} (λ b. cond b 1 0) (ne_eqb x y (λ e. n (sym e))))

-- the words after a `fetch_or` of m on the word i
abbrev pub ored : List ℕ → ℕ → ℕ → List ℕ
ored ws i m = set ws i (bit_or (get_or ws i 0) m)

pub ored_here : (ws : List ℕ) (i m j : ℕ) → i < length ws → bit_at (get_or (ored ws i m) i 0) j ≡ max (bit_at (get_or ws i 0) j) (bit_at m j)
ored_here ws i m j h = ap (λ (n : ℕ). bit_at n j) (get_or-set_same ws i (bit_or (get_or ws i 0) m) 0 h) ∙ bit_at_or (get_or ws i 0) m j

pub ored_else : (ws : List ℕ) (i m k : ℕ) → k ≢ i → get_or (ored ws i m) k 0 ≡ get_or ws k 0
ored_else ws i m k n = get_or-set_other ws i k (bit_or (get_or ws i 0) m) 0 n

abbrev pub Grows : List ℕ → List ℕ → Type 0
Grows ws us = (k j : ℕ) → bit_at (get_or ws k 0) j ≡ 1 → bit_at (get_or us k 0) j ≡ 1

pub ored_grows : (ws : List ℕ) (i m : ℕ) → i < length ws → Grows ws (ored ws i m)
ored_grows ws i m h k j e = dite (ℕ_discrete k i)
    (λ same. ap (λ (n : ℕ). bit_at (get_or (ored ws i m) n 0) j) same ∙ (let b = ored_here ws i m j h in let c = bit_at-lt m j in
    let d : bit_at (get_or ws i 0) j ≡ 1 = ap (λ (n : ℕ). bit_at (get_or ws n 0) j) (sym same) ∙ e in omega arith))
    (λ n. ap (λ (x : ℕ). bit_at x j) (ored_else ws i m k n) ∙ e)

-- one bit is put: it is 1, and each other bit is as it was
pub bit_put : (ws : List ℕ) (i j : ℕ) → i < length ws → bit_at (get_or (ored ws i (2 ^ j)) i 0) j ≡ 1
bit_put ws i j h = let a = ored_here ws i (2 ^ j) j h in let b = bit_at-pow_same j in let c = bit_at-lt (get_or ws i 0) j in omega arith

pub bit_stays : (ws : List ℕ) (i j k l : ℕ) → i < length ws → (k ≡ i → l ≢ j) → bit_at (get_or (ored ws i (2 ^ j)) k 0) l ≡ bit_at (get_or ws k 0) l
bit_stays ws i j k l h n = dite (ℕ_discrete k i)
    (λ same. ap (λ (x : ℕ). bit_at (get_or (ored ws i (2 ^ j)) x 0) l) same ∙ (let a = ored_here ws i (2 ^ j) l h in
    let b = bit_at-pow_other j l (n same) in let c : bit_at (get_or (ored ws i (2 ^ j)) i 0) l ≡ bit_at (get_or ws i 0) l = omega arith in c)
    ∙ ap (λ (x : ℕ). bit_at (get_or ws x 0) l) (sym same))
    (λ ne. ap (λ (x : ℕ). bit_at x l) (ored_else ws i (2 ^ j) k ne))

-- the same number of slices has one word and one bit
pub one_bit : (x y : ℕ) → y ≢ x → y / 64 ≡ x / 64 → y % 64 ≢ x % 64
one_bit x y n e f = n (omega arith)

pub power_is : (i j : ℕ) → 2 ^ i ≡ 2 ^ j → i ≡ j
power_is i j e = dite (dec_le (suc i) j) (λ h. let a = pow_below i j h in absurd (omega arith))
    (λ n. dite (dec_le (suc j) i) (λ h. let a = pow_below j i h in absurd (omega arith)) (λ m. omega arith))

-- a slice is known by its word and its mask
pub one_slice : (x y : ℕ) → x / 64 ≡ y / 64 → 2 ^ (x % 64) ≡ 2 ^ (y % 64) → x ≡ y
one_slice x y e f = let g = power_is (x % 64) (y % 64) f in omega arith

pub logged_at-append : (p q j : ℕ) (l m : List LoggedWord) → logged_at p q j (l ++ m) ≡ logged_at p q j l + logged_at p q j m
logged_at-append p q j [] m = omega arith
logged_at-append p q j (x ∷ xs) m = omega (arith, logged_at-append p q j xs m)

-- what was marked is marked
pub marked_still : (old more : List LoggedWord) (point bit : ℕ) → IsLogged old point bit → IsLogged (old ++ more) point bit
marked_still old more point bit marked = omega (arith, marked, logged_at-append point (bit / 64) (bit % 64) old more)

pub shows_at-append : (k j : ℕ) (l m : List Count) → shows_at k j (l ++ m) ≡ shows_at k j l + shows_at k j m
shows_at-append k j [] m = omega arith
shows_at-append k j (x ∷ xs) m = omega (arith, shows_at-append k j xs m)

total_le : {A : Type 0} (f g : A → ℕ) (l : List A) → ((k : ℕ) (a : A) → get_elem? l k ≡ some a → f a ≤ g a) → total f l ≤ total g l
total_le f g [] h = omega arith
total_le f g (x ∷ xs) h = let a = h 0 x refl in let b = total_le f g xs (λ k. h (suc k)) in omega arith

pub total_lt : {A : Type 0} (f g : A → ℕ) (l : List A) → ((k : ℕ) (a : A) → get_elem? l k ≡ some a → f a ≤ g a) → (j : ℕ) (a : A)
    → get_elem? l j ≡ some a → f a < g a → total f l < total g l
total_lt f g [] h j a e lt = absurd (some-ne-none a (sym e))
total_lt f g (x ∷ xs) h zero a e lt =
    let b = total_le f g xs (λ k. h (suc k)) in
    let c = ap f (some-injective x a e) in
    let d = ap g (some-injective x a e) in
    omega arith
total_lt f g (x ∷ xs) h (suc j) a e lt = let b = total_lt f g xs (λ k. h (suc k)) j a e lt in let c = h 0 x refl in omega arith

pub logged_here : (p q m j : ℕ) (l : List LoggedWord) → logged_at p q j (l ++ logged_word p q m ∷ []) ≡ logged_at p q j l + bit_at m j
logged_here p q m j l =
    let a = logged_at-append p q j l (logged_word p q m ∷ []) in
    let b = ap {B = ℕ} (λ (b : Bool). cond b (bit_at m j) 0) (λ i. (eq-eqb p p refl i) && (eq-eqb q q refl i)) in
    omega arith

pub logged_else : (p q m p' q' j : ℕ) (l : List LoggedWord) → ¬ ((p ≡ p') × (q ≡ q'))
    → logged_at p' q' j (l ++ logged_word p q m ∷ []) ≡ logged_at p' q' j l
logged_else p q m p' q' j l n =
    let a = logged_at-append p' q' j l (logged_word p q m ∷ []) in
    let b : cond (eqb p p' && eqb q q') (bit_at m j) 0 ≡ 0 = dite (ℕ_discrete p p')
    (λ e. dite (ℕ_discrete q q') (λ f. absurd (n (e, f)))
    (λ f. ap {B = ℕ} (λ (b : Bool). cond b (bit_at m j) 0) (ap (λ (b : Bool). eqb p p' && b) (ne_eqb q q' f) ∙ and-false (eqb p p'))))
    (λ e. ap {B = ℕ} (λ (b : Bool). cond (b && eqb q q') (bit_at m j) 0) (ne_eqb p p' e)) in omega arith

pub count_here : (k m j : ℕ) (l : List Count) → shows_at k j (l ++ load_of k m ∷ []) ≡ shows_at k j l + bit_at m j
count_here k m j l =
    let a = shows_at-append k j l (load_of k m ∷ []) in
    let b = ap {B = ℕ} (λ (b : Bool). cond b (bit_at m j) 0) (eq-eqb k k refl) in
    omega arith

pub count_else : (k m k' j : ℕ) (l : List Count) → k ≢ k' → shows_at k' j (l ++ load_of k m ∷ []) ≡ shows_at k' j l
count_else k m k' j l n =
    let a = shows_at-append k' j l (load_of k m ∷ []) in
    let b = ap {B = ℕ} (λ (b : Bool). cond b (bit_at m j) 0) (ne_eqb k k' n) in
    omega arith

pub read_at : (l : List ℕ) (i r : ℕ) → get_elem? l i ≡ some r → get_or l i 0 ≡ r
read_at [] i r e = absurd (some-ne-none r (sym e))
read_at (x ∷ xs) zero r e = some-injective x r e
read_at (x ∷ xs) (suc i) r e = read_at xs i r e

-- one more element is copied, of those that stand `apart` from one another
pub copied : (l src : List ℕ) (from apart k r : ℕ) → k < length l → get_elem? src (from + k * apart) ≡ some r
    → ((m : ℕ) → m < k → get_or l m 0 ≡ get_or src (from + m * apart) 0)
    → (m : ℕ) → m < k + 1 → get_or (set l k r) m 0 ≡ get_or src (from + m * apart) 0
copied l src from apart k r h e b m lt = dite (ℕ_discrete m k)
    (λ same. ap (λ (n : ℕ). get_or (set l k r) n 0) same
    ∙ (get_or-set_same l k r 0 h ∙ (sym (read_at src (from + k * apart) r e) ∙ ap (λ (n : ℕ). get_or src (from + n * apart) 0) (sym same))))
    (λ ne. get_or-set_other l k m r 0 ne ∙ b m (omega arith))
