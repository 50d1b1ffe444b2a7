-- How the text of a set grows, bit by bit and word by word
use Rattle.std.proofs.Common.{◌≡◌, ℕ, zero, suc, ◌+◌, ◌-◌, ◌<◌, ◌≤◌, Bool, true, false, ◌||◌, List, [], ◌∷◌, ◌++◌, map, filter, refl, sym, ap, ◌∙◌}
use Rattle.std.proofs.Common.{subst, if◌then◌else◌, arith, append_assoc}
use Rattle.std.specs.List.{range_with_len}
use Rattle.std.specs.Prelude.{codes}
use Rattle.std.proofs.lemmas.List.{map-append}
use Rattle.std.proofs.lemmas.Grind.{flat_map-append}
use Rattle.std.proofs.lemmas.List.Elements.{filter-append}
use Rattle.std.proofs.Math.Bool.{or_assoc, or-false}
use Rattle.flow_texts.proofs.sets.RangeLines.{range_split}
use Rattle.text_pieces.specs.Pieces.{Outlet, Takes}
use Rattle.text_pieces.proofs.sinks.Taking.{takes_nothing, takes_then}
use Rattle.text_pieces.specs.code.Lists.{after, some_stand}
use Rattle.flow_texts.specs.code.Members.{Named, Wrote, members}
use Rattle.flow_texts.specs.Tables.{listed}

pub after-append : (between : List ℕ) (others : Bool) (xs ys : List (List ℕ))
    → after between others (xs ++ ys) ≡ after between others xs ++ after between (others || some_stand xs) ys
after-append between true xs ys = flat_map-append (λ text. between ++ text) xs ys
after-append between false [] ys = refl
after-append between false (x ∷ xs) ys =
    ap (λ t. x ++ t) (flat_map-append (λ text. between ++ text) xs ys) ∙ sym (append_assoc x (after between true xs) (after between true ys))

pub some_stand-append : {A : Type 0} (xs ys : List A) → some_stand (xs ++ ys) ≡ (some_stand xs || some_stand ys)
some_stand-append [] ys = refl
some_stand-append (x ∷ xs) ys = refl

pub some_stand-map : {A B : Type 0} (f : A → B) (xs : List A) → some_stand (map f xs) ≡ some_stand xs
some_stand-map f [] = refl
some_stand-map f (x ∷ xs) = refl

pub wrote-none : (between : List ℕ) (set : Named) (others : Bool) (first : ℕ) (at : Outlet) → Wrote between set others first 0 at at others
wrote-none between set others first at = record { written = by_others others; known = sym (or-false others) } where
  by_others : (b : Bool) → Takes at at (after between b [])
  by_others true = takes_nothing at
  by_others false = takes_nothing at

-- more of the members are written
pub wrote-more : (between : List ℕ) (set : Named) (others : Bool) (first m n : ℕ) (old mid new : Outlet) (any now : Bool)
    → Wrote between set others first m old mid any → Wrote between set any (first + m) n mid new now
    → Wrote between set others first (m + n) old new now
wrote-more between set others first m n old mid new any now before step =
    let split : members set first (m + n) ≡ members set first m ++ members set (first + m) n =
    ap (filter set.member) (range_split first m n) ∙ filter-append set.member (range_with_len first m) (range_with_len (first + m) n) in
    let xs = map set.named (members set first m) in
    let ys = map set.named (members set (first + m) n) in
    let some : any ≡ (others || some_stand xs) = before.known ∙ ap (λ b. others || b) (sym (some_stand-map set.named (members set first m))) in
    let texts : after between others xs ++ after between any ys ≡ after between others (map set.named (members set first (m + n))) =
    ap (λ b. after between others xs ++ after between b ys) some
    ∙ sym (after-append between others xs ys)
    ∙ ap (after between others) (sym (ap (map set.named) split ∙ map-append set.named (members set first m) (members set (first + m) n))) in
    record {
      written = subst (Takes old new) texts (takes_then old mid new (after between others xs) (after between any ys) before.written step.written);
      known =
          step.known ∙ ap (λ b. b || some_stand (members set (first + m) n)) before.known ∙ or_assoc others _ _
          ∙ ap (λ b. others || b) (sym (ap some_stand split ∙ some_stand-append (members set first m) (members set (first + m) n)));
    }

-- one number, which is no member
wrote-no_member : (between : List ℕ) (set : Named) (any : Bool) (n : ℕ) (at : Outlet) → set.member n ≡ false → Wrote between set any n 1 at at any
wrote-no_member between set any n at is =
    let none : members set n 1 ≡ [] = ap (λ b. if b then n ∷ [] else []) is in
    let start = wrote-none between set any n at in
    record {
      written = subst (Takes at at) (ap (λ xs. after between any (map set.named xs)) (sym none)) start.written;
      known = start.known ∙ ap (λ xs. any || some_stand xs) (sym none);
    }

-- numbers none of which is a member
pub wrote-no_members : (between : List ℕ) (set : Named) (any : Bool) (first count : ℕ) (at : Outlet)
    → ((k : ℕ) → k < count → set.member (first + k) ≡ false) → Wrote between set any first count at at any
wrote-no_members between set any first zero at none = wrote-none between set any first at
wrote-no_members between set any first (suc count) at none =
    let next : 1 + count ≡ suc count = omega arith in
    subst (λ many. Wrote between set any first many at at any) next (wrote-more between set any first 1 count at at at any any
    (wrote-no_member between set any first at (subst (λ n. set.member n ≡ false) (omega arith) (none 0 (omega arith))))
    (wrote-no_members between set any (first + 1) count at (λ k below. subst (λ n. set.member n ≡ false) (omega arith) (none (suc k) (omega arith)))))

pub listed-some : (texts : List (List ℕ)) → some_stand texts ≡ true → listed texts ≡ after (codes ", ") false texts
listed-some [] some = absurd (cc some)
listed-some (x ∷ xs) some = refl

pub listed-none : (texts : List (List ℕ)) → some_stand texts ≡ false → (listed texts ≡ codes "-") × (texts ≡ [])
listed-none [] none = (refl, refl)
listed-none (x ∷ xs) none = absurd (cc none)

-- texts agree on the numbers below a count
pub map-members : {A : Type 0} (f g : ℕ → A) (member : ℕ → Bool) (first count : ℕ) → ((n : ℕ) → n < first + count → f n ≡ g n)
    → map f (filter member (range_with_len first count)) ≡ map g (filter member (range_with_len first count))
map-members f g member first zero same = refl
map-members f g member first (suc count) same =
    by_test (member first) (map-members f g member (first + 1) count (λ n below. same n (omega arith))) where
      by_test : (t : Bool) → map f (filter member (range_with_len (first + 1) count)) ≡ map g (filter member (range_with_len (first + 1) count))
          → map f (if t then first ∷ filter member (range_with_len (first + 1) count) else filter member (range_with_len (first + 1) count))
          ≡ map g (if t then first ∷ filter member (range_with_len (first + 1) count) else filter member (range_with_len (first + 1) count))
      by_test true rest =
          ap (λ x. x ∷ map f (filter member (range_with_len (first + 1) count))) (same first (omega arith)) ∙ ap (λ xs. g first ∷ xs) rest
      by_test false rest = rest

-- the text of a set was taken, or nothing where the set is empty
pub set_written : (between : List ℕ) (set : Named) (count : ℕ) (old new : Outlet) (any : Bool) → between ≡ codes ", "
    → Wrote between set false 0 count old new any → any ≡ true → Takes old new (listed (map set.named (members set 0 count)))
set_written between set count old new any commas wrote is =
    let some : some_stand (map set.named (members set 0 count)) ≡ true = some_stand-map set.named (members set 0 count) ∙ sym wrote.known ∙ is in
    subst (Takes old new) (ap (λ b. after b false (map set.named (members set 0 count))) commas
    ∙ sym (listed-some (map set.named (members set 0 count)) some)) wrote.written

pub set_empty : (between : List ℕ) (set : Named) (count : ℕ) (old new : Outlet) (any : Bool)
    → Wrote between set false 0 count old new any → any ≡ false → (Takes old new []) × (listed (map set.named (members set 0 count)) ≡ codes "-")
set_empty between set count old new any wrote is =
    let no : some_stand (map set.named (members set 0 count)) ≡ false = some_stand-map set.named (members set 0 count) ∙ sym wrote.known ∙ is in
    let empty = listed-none (map set.named (members set 0 count)) no in
    (subst (Takes old new) (ap (after between false) empty.1) wrote.written, empty.0)

-- all are members
all_pass : (test : ℕ → Bool) (a k : ℕ) → ((n : ℕ) → a ≤ n → n < a + k → test n ≡ true) → filter test (range_with_len a k) ≡ range_with_len a k
all_pass test a zero each = refl
all_pass test a (suc k) each =
    ap (λ t. if t then a ∷ filter test (range_with_len (a + 1) k) else filter test (range_with_len (a + 1) k)) (each a (omega arith) (omega arith))
    ∙ ap (λ ns. a ∷ ns) (all_pass test (a + 1) k (λ n above below. each n (omega (arith, above)) (omega (arith, below))))

-- members that lie side by side, and behind them none
pub wrote-run : (between : List ℕ) (set : Named) (others : Bool) (a b c : ℕ) (old new : Outlet) (now : Bool) → a ≤ b → b ≤ c
    → ((n : ℕ) → a ≤ n → n < b → set.member n ≡ true) → ((n : ℕ) → b ≤ n → n < c → set.member n ≡ false)
    → Takes old new (after between others (map set.named (range_with_len a (b - a)))) → now ≡ (others || some_stand (range_with_len a (b - a)))
    → Wrote between set others a (c - a) old new now
wrote-run between set others a b c old new now low high inside behind taken known =
    let ends : a + (b - a) ≡ b = omega (arith, low) in
    let all : (b - a) + (c - b) ≡ c - a = omega (arith, low, high) in
    let same : range_with_len a (b - a) ≡ members set a (b - a) =
    sym (all_pass set.member a (b - a) (λ n above below. inside n above (omega (arith, below, ends)))) in
    let first : Wrote between set others a (b - a) old new now =
    record {
      written = subst (Takes old new) (ap (λ ns. after between others (map set.named ns)) same) taken;
      known = known ∙ ap (λ ns. others || some_stand ns) same;
    } in
    subst (λ k. Wrote between set others a k old new now) all
    (wrote-more between set others a (b - a) (c - b) old new new now now first
    (wrote-no_members between set now (a + (b - a)) (c - b) new (λ k below.
    behind (a + (b - a) + k) (omega (arith, ends)) (omega (arith, ends, below)))))

-- first up to one number, then up to the next
pub wrote-further : (between : List ℕ) (set : Named) (others : Bool) (a b c : ℕ) (old mid new : Outlet) (any now : Bool) → a ≤ b → b ≤ c
    → Wrote between set others a (b - a) old mid any → Wrote between set any b (c - b) mid new now → Wrote between set others a (c - a) old new now
wrote-further between set others a b c old mid new any now low high before step =
    let ends : b ≡ a + (b - a) = omega (arith, low) in
    let all : (b - a) + (c - b) ≡ c - a = omega (arith, low, high) in
    subst (λ k. Wrote between set others a k old new now) all
    (wrote-more between set others a (b - a) (c - b) old mid new any now before (subst (λ n. Wrote between set any n (c - b) mid new now) ends step))

pub wrote-first : (between : List ℕ) (set : Named) (others : Bool) (b c : ℕ) (old mid new : Outlet) (any now : Bool) → b ≤ c
    → Wrote between set others 0 b old mid any → Wrote between set any b (c - b) mid new now → Wrote between set others 0 c old new now
wrote-first between set others b c old mid new any now high before step =
    let from : b ≡ 0 + b = omega arith in
    let all : b + (c - b) ≡ c = omega (arith, high) in
    subst (λ k. Wrote between set others 0 k old new now) all
    (wrote-more between set others 0 b (c - b) old mid new any now before (subst (λ n. Wrote between set any n (c - b) mid new now) from step))
