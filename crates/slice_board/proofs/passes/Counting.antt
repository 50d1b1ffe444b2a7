-- A count of the finished slices, one done word after the other.
use Rattle.std.proofs.Common.{◌≡◌, ℕ, zero, suc, ◌+◌, ◌-◌, ◌*◌, ◌/◌, ◌%◌, ◌<◌, ◌≤◌, min, List, [], ◌∷◌, ◌++◌, length, get_or, cond, eqb, eq-eqb, refl}
use Rattle.std.proofs.Common.{sym, ap, ◌∙◌, inl, inr, arith, append_assoc, subst}
use mathlib.Core.Logic.{dite}
use native.Mathlib.Decide.{ℕ_discrete}
use Rattle.std.specs.Int.{bit_at}
use Rattle.std.proofs.lemmas.Bool.{cases_lt}
use Rattle.std.proofs.lemmas.List.{get_or_append_left, get_or_push, length_push, append-nil}
use Rattle.std.proofs.lemmas.Nat.Bits.{bit_at-lt, bit_at-zero}
use Rattle.slice_board.specs.Passes.{PassState, IsWhole, times, loads_from}
use Rattle.slice_board.specs.Boards.{shown_below, words_for}
use Rattle.slice_board.specs.Lawful.{shows_at}
use Rattle.slice_board.specs.code.Plays.{load_of, ShowsOwn}
use Rattle.slice_board.specs.code.Closing.{ones_below, shown_in, Counted, CountedTo}
use Rattle.slice_board.specs.declared.view.Count.{Count}

loads_snoc : (first y : ℕ) (xs : List ℕ) → loads_from first (xs ++ y ∷ []) ≡ loads_from first xs ++ load_of (first + length xs) y ∷ []
loads_snoc first y [] = let e : first ≡ first + 0 = omega arith in ap (λ (k : ℕ). load_of k y ∷ []) e
loads_snoc first y (x ∷ xs) =
    let e : first + 1 + length xs ≡ first + suc (length xs) = omega arith in
    ap (λ (l : List Count). load_of first x ∷ l) (loads_snoc (first + 1) y xs)
    ∙ ap (λ (k : ℕ). load_of first x ∷ (loads_from (first + 1) xs ++ load_of k y ∷ [])) e

-- values that come after the word of a slice do not bear on it
shown_front : (values more : List ℕ) (s : ℕ) → s / 64 < length values → shown_in (values ++ more) s ≡ shown_in values s
shown_front values more s h = ap (λ (v : ℕ). bit_at v (s % 64)) (get_or_append_left values more 0 (s / 64) h)

shown_last : (values : List ℕ) (v s : ℕ) → s / 64 ≡ length values → shown_in (values ++ v ∷ []) s ≡ bit_at v (s % 64)
shown_last values v s h = ap (λ (v : ℕ). bit_at v (s % 64)) (get_or_push values v 0 (s / 64) (sym h))

shown_below-front : (n : ℕ) (values more : List ℕ) → n ≤ 64 * length values → shown_below n (values ++ more) ≡ shown_below n values
shown_below-front zero values more h = refl
shown_below-front (suc n) values more h = omega (arith, shown_below-front n values more (omega arith), shown_front values more n (omega arith))

shown_below-word : (j w : ℕ) (values : List ℕ) (v : ℕ) → length values ≡ w → j ≤ 64
    → shown_below (64 * w + j) (values ++ v ∷ []) ≡ shown_below (64 * w) values + ones_below j v
shown_below-word zero w values v size h =
    let e : 64 * w + 0 ≡ 64 * w = omega arith in
    let f = ap (λ (n : ℕ). shown_below n (values ++ v ∷ [])) e in
    omega (arith, shown_below-front (64 * w) values (v ∷ []) (omega arith))
shown_below-word (suc j) w values v size h =
    let e : 64 * w + suc j ≡ suc (64 * w + j) = omega arith in
    let f = ap (λ (n : ℕ). shown_below n (values ++ v ∷ [])) e in
    let place : (64 * w + j) % 64 ≡ j = omega arith in
    let last = shown_last values v (64 * w + j) (omega arith) ∙ ap (bit_at v) place in
    omega (arith, shown_below-word j w values v size (omega arith))

module _ {T : Type 0} where
  pub CountedTo-none : (slices : ℕ) (pass : PassState T) → CountedTo slices 0 pass pass 0
  CountedTo-none slices pass = record {
    values = [];
    each_word = refl;
    added = sym (append-nil pass.counted);
    shown = let e : min (64 * 0) slices ≡ 0 = omega arith in sym (ap (λ (n : ℕ). shown_below n []) e);
    has_finished = λ s low h. absurd (omega arith);
    lacks_held = λ s low h. absurd (omega arith);
    found_own = λ whole s low h. absurd (omega arith);
  }

  pub CountedTo-more : (slices w done d v : ℕ) (old mid new : PassState T) → CountedTo slices w old mid done
      → mid ≡ record old { counted = mid.counted } → 64 * w < slices
      → new.counted ≡ mid.counted ++ load_of w v ∷ [] → ShowsOwn slices mid.claimed mid.finished w v
      → (IsWhole mid → (s : ℕ) → s < slices → 0 < times s mid.found → 0 < times s mid.claimed) → d ≡ ones_below (min (slices - 64 * w) 64) v
      → CountedTo slices (w + 1) old new (done + d)
  CountedTo-more slices w done d v old mid new c same more added own found ones =
      let values = c.values ++ v ∷ [] in
      let size = c.each_word in
      let finished_is : (s : ℕ) → times s mid.finished ≡ times s old.finished = λ s. ap (λ (p : PassState T). times s p.finished) same in
      let claimed_is : (s : ℕ) → times s mid.claimed ≡ times s old.claimed = λ s. ap (λ (p : PassState T). times s p.claimed) same in
      record {
        values = values;
        each_word = omega (arith, length_push c.values v);
        added =
            let at : 0 + length c.values ≡ w = omega arith in
            added
            ∙ ap (λ (l : List Count). l ++ load_of w v ∷ []) c.added
            ∙ append_assoc old.counted (loads_from 0 c.values) (load_of w v ∷ [])
            ∙ ap (λ (k : ℕ). old.counted ++ (loads_from 0 c.values ++ load_of k v ∷ [])) (sym at)
            ∙ ap (λ (l : List Count). old.counted ++ l) (sym (loads_snoc 0 v c.values));
        shown =
            let j : ℕ = min (slices - 64 * w) 64 in
            let before : min (64 * w) slices ≡ 64 * w = omega arith in
            let after : min (64 * (w + 1)) slices ≡ 64 * w + j = omega arith in
            let a = ap (λ (n : ℕ). shown_below n c.values) before in
            let b = ap (λ (n : ℕ). shown_below n values) after in
            omega (arith, c.shown, shown_below-word j w c.values v size (omega arith));
        has_finished = λ s low within some. elim (cases_lt s (64 * w)) [
          | inl early ↦ shown_front c.values (v ∷ []) s (omega arith) ∙ c.has_finished s low early some
          | inr late ↦ shown_last c.values v s (omega arith) ∙ own.has_finished s low (omega arith) (omega (arith, finished_is s))
        ];
        lacks_held = λ s low within some. elim (cases_lt s (64 * w)) [
          | inl early ↦ shown_front c.values (v ∷ []) s (omega arith) ∙ c.lacks_held s low early some
          | inr late ↦ shown_last c.values v s (omega arith) ∙ own.lacks_held s low (omega arith) (omega (arith, finished_is s, claimed_is s))
        ];
        found_own =
            let P : PassState T → Type 0 = λ p. IsWhole p → (s : ℕ) → s < slices → 0 < times s p.found → 0 < times s p.claimed in
            let owns : P old = subst P same found in
            λ whole s low _. owns whole s low;
      }

  pub Counted-all : (slices w done : ℕ) (old new : PassState T) → CountedTo slices w old new done → w ≡ words_for slices → Counted slices old new done
  Counted-all slices w done old new c all = record {
    once = record {
      values = c.values;
      each_word = c.each_word ∙ all;
      added = c.added;
      shown = let e : min (64 * w) slices ≡ slices = omega arith in c.shown ∙ ap (λ (n : ℕ). shown_below n c.values) e;
    };
    has_finished = λ s low. c.has_finished s low (omega arith);
    lacks_held = λ s low. c.lacks_held s low (omega arith);
    found_own = λ whole s low. c.found_own whole s low (omega arith);
  }

-- ---- what the count says of all slices
pub shown_below-most : (n : ℕ) (values : List ℕ) → shown_below n values ≤ n
shown_below-most zero values = omega arith
shown_below-most (suc n) values = let b = bit_at-lt (get_or values (n / 64) 0) (n % 64) in let a = shown_below-most n values in omega arith

-- where as many are shown as there are, each is
pub shown_each : (n : ℕ) (values : List ℕ) → n ≤ shown_below n values → (s : ℕ) → s < n → shown_in values s ≡ 1
shown_each zero values all s h = absurd (omega arith)
shown_each (suc n) values all s h =
    let a = shown_below-most n values in
    let b = bit_at-lt (get_or values (n / 64) 0) (n % 64) in
    dite (ℕ_discrete s n) (λ e. ap (shown_in values) e ∙ omega arith) (λ other. shown_each n values (omega arith) s (omega arith))

pub shown_below-full : (n : ℕ) (values : List ℕ) → ((s : ℕ) → s < n → shown_in values s ≡ 1) → shown_below n values ≡ n
shown_below-full zero values each = refl
shown_below-full (suc n) values each = let a = shown_below-full n values (λ s h. each s (omega arith)) in let b = each n (omega arith) in omega arith

-- a load of a word has the places of its value
pub shows_at-loads : (first i j : ℕ) (values : List ℕ) → bit_at (get_or values i 0) j ≤ shows_at (first + i) j (loads_from first values)
shows_at-loads first i j [] = omega (arith, bit_at-zero j)
shows_at-loads first zero j (x ∷ xs) =
    let here : cond (eqb first (first + 0)) (bit_at x j) 0 ≡ bit_at x j =
    ap {B = ℕ} (λ b. cond b (bit_at x j) 0) (eq-eqb first (first + 0) (omega arith)) in
    omega arith
shows_at-loads first (suc i) j (x ∷ xs) =
    let e : first + 1 + i ≡ first + suc i = omega arith in
    let f = ap (λ (k : ℕ). shows_at k j (loads_from (first + 1) xs)) e in
    omega (arith, shows_at-loads (first + 1) i j xs)
