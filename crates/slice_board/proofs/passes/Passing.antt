-- What a call knows of its pass, and what holds of the pass after a step.
use Rattle.std.proofs.Common.{◌≡◌, ◌≢◌, ℕ, zero, suc, ◌+◌, ◌-◌, ◌*◌, ◌/◌, ◌%◌, ◌^◌, ◌<◌, ◌≤◌, List, [], ◌∷◌, ◌++◌, length, Bool, false, is_some}
use Rattle.std.proofs.Common.{if◌then◌else◌, cond, eq-eqb, ne_eqb, nat_eq, sym, refl, ap, ◌∙◌, subst, arith, Option, Some, None, IsSome, IfSome}
use Rattle.std.proofs.Common.{bit_and, append_assoc}
use mathlib.Core.Logic.{dite}
use mathlib.Core.Option.{none}
use native.Mathlib.Decide.{ℕ_discrete, dec_le}
use Rattle.std.specs.Int.{bit_at}
use Rattle.std.proofs.lemmas.List.{append-nil, length-append}
use Rattle.std.proofs.lemmas.List.FromFn.{length-range_with_len}
use Rattle.std.specs.List.{range_with_len}
use Rattle.std.proofs.lemmas.Nat.{pow_pos}
use Rattle.std.proofs.lemmas.Nat.Bits.{bit_at-lt, and_pow}
use Rattle.atomic_table.specs.Table.{step}
use Rattle.atomic_table.specs.Seated.{TableId}
use Rattle.bit_rows.specs.RowTable.{RowTable}
use Rattle.bit_rows.specs.Slices.{Slices}
use Rattle.slice_board.specs.Passes.{PassState, times, held_times, either_of, joined}
use Rattle.slice_board.specs.Boards.{BoardState, slice_count, words_for, about_board, IsOf}
use Rattle.slice_board.specs.Steps.{after_claim, after_finding}
use Rattle.slice_board.specs.code.Words.{about_key}
use Rattle.slice_board.specs.code.Fields.{pass_state, IsKept, IsLaid}
use Rattle.slice_board.specs.code.Plays.{Sat, DrawTells}
use Rattle.slice_board.specs.declared.view.About.{About}
use Rattle.slice_board.specs.declared.view.View.{View}
use Rattle.slice_board.specs.declared.view.LoggedWord.{LoggedWord}
use Rattle.slice_board.specs.declared.view.Count.{Count}
use Rattle.slice_board.specs.declared.rule.Key.{Key}
use Rattle.slice_board.proofs.words.Sums.{times-append, times-same, times-other}

-- ---- a board and a pass by their fields, and by what a contract sees
abbrev pub board_state : {T : Type 0} → TableId → Key T → Slices → RowTable → BoardState T
board_state table key cut blank = record { table = table; wanted = key.wanted.value; cut = cut; blank = blank }

module _ {T : Type 0} {wants : T → ℕ → ℕ → Type 0} {table : TableId} {key : Key T} {cut : Slices} {blank : RowTable} {board : BoardState T}
    (laid : IsLaid wants table key cut blank) (board_is : board_state table key cut blank ≡ board) where
  -- what the table's key says is what a contract sees of the board
  pub same_about : about_board board ≡ about_key key
  same_about = sym (ap about_board board_is) ∙ (λ i. record { wanted = key.wanted.value; points = sym laid.points_is i; cut = sym laid.cut_is i })

  pub same_slices : slice_count board.cut ≡ slice_count (about_key key).cut
  same_slices = ap (λ (a : About T). slice_count a.cut) same_about

  pub same_points : length board.blank.flags ≡ (about_key key).points
  same_points = ap (λ (a : About T). a.points) same_about

  pub same_bits : words_for board.cut.bits ≡ words_for (about_key key).cut.bits
  same_bits = ap (λ (a : About T). words_for a.cut.bits) same_about

  pub same_table : table ≡ board.table
  same_table = ap (λ (b : BoardState T). b.table) board_is

  pub same_wanted : key.wanted.value ≡ board.wanted
  same_wanted = ap (λ (b : BoardState T). b.wanted) board_is

  module _ {seat : TableId} {v : View T} {held : Option ℕ} {next : ℕ} {pass : PassState T} (pass_is : pass_state seat v held next ≡ pass)
      (of : IsOf board pass) where
    -- its seat sits at the board's table
    pub sits : seat ≡ table
    sits = ap (λ (p : PassState T). p.table) pass_is ∙ of.table ∙ sym same_table

    -- its view knows the board
    pub knows : v.about ≡ Some (about_key key)
    knows = ap (λ (p : PassState T). p.about) pass_is ∙ of.about ∙ ap Some same_about

    pub next_below : pass.next < slice_count board.cut → next < slice_count (about_key key).cut
    next_below h = omega (arith, same_slices, ap (λ (p : PassState T). p.next) pass_is)

    -- and tries no slice that is not there
    pub next_most : IsKept (pass_state seat v held next) → pass.next ≤ slice_count board.cut
    next_most k = omega (arith, same_slices, ap (λ (p : PassState T). p.next) pass_is, k.low (about_key key) knows)

-- ---- a draw tells by the bit that it found
bit_clear : (r k j : ℕ) → k ≡ 2 ^ j → bit_and r k ≡ 0 → bit_at r j ≡ 0
bit_clear r k j is no_bits =
    let whole : bit_and r k ≡ bit_at r j * 2 ^ j = ap (bit_and r) is ∙ and_pow r j in
    let some = pow_pos j in
    let less = bit_at-lt r j in
    dite (ℕ_discrete (bit_at r j) 0) (λ e. e) (λ n.
    let one : bit_at r j ≡ 1 = omega arith in
    let is_one : bit_and r k ≡ 1 * 2 ^ j = whole ∙ ap (λ (b : ℕ). b * 2 ^ j) one in
    absurd (omega arith))

bit_set : (r k j : ℕ) → k ≡ 2 ^ j → bit_and r k ≢ 0 → bit_at r j ≡ 1
bit_set r k j is some =
    let whole : bit_and r k ≡ bit_at r j * 2 ^ j = ap (bit_and r) is ∙ and_pow r j in
    let less = bit_at-lt r j in
    dite (ℕ_discrete (bit_at r j) 0) (λ e. absurd (some (whole ∙ ap (λ (b : ℕ). b * 2 ^ j) e ∙ omega arith))) (λ n. omega arith)

module _ {T : Type 0} (slots s k r : ℕ) {old new : Sat T} (told : DrawTells (step slots (s / 64) k 0 none) old r new) (is : k ≡ 2 ^ (s % 64)) where
  pub drawn_free : bit_and r k ≡ 0 → new ≡ (after_claim s old.0, old.1)
  drawn_free clear = (told s refl is).0 (bit_clear r k (s % 64) is clear)

  pub drawn_taken : bit_and r k ≢ 0 → new ≡ (after_finding s old.0, old.1)
  drawn_taken set = (told s refl is).1 (bit_set r k (s % 64) is set)

pub if_same : {X : Type 0} (a b : ℕ) (x y : X) → a ≡ b → x ≡ (if nat_eq a b then x else y)
if_same a b x y e = ap (λ (t : Bool). if t then x else y) (sym (eq-eqb a b e))

pub if_other : {X : Type 0} (a b : ℕ) (x y : X) → a ≢ b → y ≡ (if nat_eq a b then x else y)
if_other a b x y n = ap (λ (t : Bool). if t then x else y) (sym (ne_eqb a b n))

pub is_none : (o : Option ℕ) → false ≡ is_some o → IsSome o → ⊥
is_none None no_value some = absurd (cc)
is_none (Some s) no_value some = absurd (cc)

-- ---- what holds of a pass after each kind of step
either_times : (s : ℕ) (a b : Option ℕ) → ¬ (IsSome a × IsSome b) → held_times s (either_of a b) ≡ held_times s a + held_times s b
either_times s (Some x) (Some y) one = absurd (one (cc, cc))
either_times s (Some x) None one = omega arith
either_times s None b one = omega arith

module _ {T : Type 0} where
  pub kept_marks : (p : PassState T) (posted seen : List LoggedWord) (counted : List Count) → IsKept p
      → IsKept (record p { posted = posted; seen = seen; counted = counted })
  kept_marks p posted seen counted k = record { tried = k.tried; untried = k.untried; low = k.low; holds = k.holds }

  pub kept_finish : (p : PassState T) (s : ℕ) → p.held ≡ Some s → IsKept p → IsKept (record p { finished = p.finished ++ s ∷ []; held = None })
  kept_finish p s held k = record {
    tried = k.tried;
    untried = k.untried;
    low = k.low;
    holds = λ y. omega (arith, k.holds y, times-append y p.finished (s ∷ []), ap (held_times y) held);
  }

  module _ (p : PassState T) (about : About T) (knows : p.about ≡ Some about) (more : p.next < slice_count about.cut) (k : IsKept p) where
    low_next : (known : About T) → p.about ≡ Some known → p.next + 1 ≤ slice_count known.cut
    low_next known is = let same : about ≡ known = cc in subst (λ (a : About T). p.next + 1 ≤ slice_count a.cut) same (omega arith)

    pub kept_claim : p.held ≡ None → IsKept (record p { claimed = p.claimed ++ p.next ∷ []; held = Some p.next; next = p.next + 1 })
    kept_claim free = record {
      tried = λ s h. dite (ℕ_discrete s p.next)
          (λ e. subst (λ (n : ℕ). 0 < times n (p.claimed ++ p.next ∷ []) + times n p.found) (sym e) (omega (arith, times-same p.next p.claimed)))
          (λ n. omega (arith, times-append s p.claimed (p.next ∷ []), k.tried s (omega arith)));
      untried = λ s h. times-other p.next s p.claimed (λ e. omega arith) ∙ k.untried s (omega arith);
      low = low_next;
      holds = λ s. omega (arith, times-append s p.claimed (p.next ∷ []), k.holds s, ap (held_times s) free);
    }

    pub kept_find : IsKept (record p { found = p.found ++ p.next ∷ []; next = p.next + 1 })
    kept_find = record {
      tried = λ s h. dite (ℕ_discrete s p.next)
          (λ e. subst (λ (n : ℕ). 0 < times n p.claimed + times n (p.found ++ p.next ∷ [])) (sym e) (omega (arith, times-same p.next p.found)))
          (λ n. omega (arith, times-append s p.found (p.next ∷ []), k.tried s (omega arith)));
      untried = λ s h. k.untried s (omega arith);
      low = low_next;
      holds = k.holds;
    }

  pub kept_joined : (p q : PassState T) → p.about ≡ q.about → ¬ (IsSome p.held × IsSome q.held) → IsKept p → IsKept q → IsKept (joined p q)
  kept_joined p q same one k l = record {
    tried = λ s h. let a = times-append s p.claimed q.claimed in let b = times-append s p.found q.found in
        dite (dec_le (suc s) p.next) (λ near. let c = k.tried s near in omega arith) (λ far. let c = l.tried s (omega arith) in omega arith);
    untried = λ s h. omega (arith, times-append s p.claimed q.claimed, k.untried s (omega arith), l.untried s (omega arith));
    low = λ about is. omega (arith, k.low about is, l.low about (sym same ∙ is));
    holds = λ s. omega
        (arith, times-append s p.claimed q.claimed, times-append s p.finished q.finished, k.holds s, l.holds s, either_times s p.held q.held one);
  }

  -- a slice that is held is one of the board's, and is claimed more often than it is finished
  pub held_low : (p : PassState T) (about : About T) (s : ℕ) → IsKept p → p.about ≡ Some about → p.held ≡ Some s
      → (s < slice_count about.cut) × (times s p.finished < times s p.claimed)
  held_low p about s k knows held =
      let one : held_times s p.held ≡ 1 = ap (held_times s) held ∙ ap {B = ℕ} (λ b. cond b 1 0) (eq-eqb s s refl) in
      let less : times s p.finished < times s p.claimed = omega (arith, k.holds s) in
      (dite (dec_le p.next s) (λ far. absurd (omega (arith, k.untried s far))) (λ near. omega (arith, k.low about knows)), less)

-- ---- a claim, over the draws that found slices taken
range_snoc : (a n : ℕ) → range_with_len a (n + 1) ≡ range_with_len a n ++ (a + n) ∷ []
range_snoc a zero = ap (λ (x : ℕ). x ∷ []) (omega arith)
range_snoc a (suc n) =
    let more : suc n + 1 ≡ suc (n + 1) = omega arith in
    let last : a + 1 + n ≡ a + suc n = omega arith in
    ap (range_with_len a) more ∙ ap (λ (l : List ℕ). a ∷ l) (range_snoc (a + 1) n) ∙ ap (λ (x : ℕ). a ∷ (range_with_len (a + 1) n ++ x ∷ [])) last

module _ {T : Type 0} where
  -- the pass after draws of the slices from its next up to `next`, which all found them taken
  abbrev pub found_to : PassState T → ℕ → PassState T
  found_to pass next = record pass { found = pass.found ++ range_with_len pass.next (next - pass.next); next = next }

  pub found_to-none : (pass : PassState T) → pass ≡ found_to pass pass.next
  found_to-none pass =
      let none : pass.next - pass.next ≡ 0 = omega arith in
      let same : pass.found ≡ pass.found ++ range_with_len pass.next (pass.next - pass.next) =
      sym (ap (λ (n : ℕ). pass.found ++ range_with_len pass.next n) none ∙ append-nil pass.found) in
      ap (λ (l : List ℕ). record pass { found = l }) same

  pub found_to-more : (old p : PassState T) → old.next ≤ p.next → p ≡ found_to old p.next
      → record p { found = p.found ++ p.next ∷ []; next = p.next + 1 } ≡ found_to old (p.next + 1)
  found_to-more old p from is =
      let n : ℕ = p.next in
      let count : n - old.next + 1 ≡ n + 1 - old.next = omega arith in
      let last : old.next + (n - old.next) ≡ n = omega arith in
      ap (λ (q : PassState T). record q { found = q.found ++ n ∷ []; next = n + 1 }) is
      ∙ ap (λ (l : List ℕ). record old { found = l; next = n + 1 })
      (append_assoc old.found (range_with_len old.next (n - old.next)) (n ∷ [])
      ∙ ap (λ (x : ℕ). old.found ++ (range_with_len old.next (n - old.next) ++ x ∷ [])) (sym last)
      ∙ ap (λ (l : List ℕ). old.found ++ l) (sym (range_snoc old.next (n - old.next)))
      ∙ ap (λ (k : ℕ). old.found ++ range_with_len old.next k) count)

  -- how long its lists are
  pub found_to-lengths : (old p : PassState T) → old.next ≤ p.next → p ≡ found_to old p.next
      → length p.claimed + length p.found + old.next ≡ length old.claimed + length old.found + p.next
  found_to-lengths old p from is =
      omega (
        arith,
        ap (λ (q : PassState T). length q.claimed) is,
        ap (λ (q : PassState T). length q.found) is,
        length-append old.found (range_with_len old.next (p.next - old.next)),
        length-range_with_len old.next (p.next - old.next),
      )

-- what holds of a value that is there
pub if_some : {P : ℕ → Type 0} (o : Option ℕ) → ((s : ℕ) → o ≡ Some s → P s) → IfSome o P
if_some (Some s) each = each s refl
if_some None each = tt
