-- Shares of the board: parts of 2 ^ halvings, and what they are of smaller parts.
use Rattle.std.proofs.Common.{◌≡◌, ℕ, zero, suc, ◌+◌, ◌-◌, ◌*◌, ◌/◌, ◌^◌, ◌<◌, ◌≤◌, List, [], ◌∷◌, set, arith, refl, ap, sym, ◌∙◌}
use Rattle.std.proofs.Common.{subst, mul-div_cancel, mul-pos, Result, Ok, Err, IfOk}
use mathlib.Core.Logic.{dite}
use native.Mathlib.Decide.{ℕ_discrete}
use mathlib.Core.Option.{some, some-injective, some-ne-none}
use lib.ListN.{get_elem?}
use Rattle.std.proofs.lemmas.Nat.{pow_pos, pow-add}
use Rattle.slice_board.specs.Lawful.{total}
use Rattle.slice_board.specs.Boards.{BoardState, fresh_pass}
use Rattle.slice_board.specs.Passes.{PassState, IsWhole, halved, joined}
use Rattle.slice_board.specs.Teams.{KeepsShare, HaveSameShare}
use Rattle.slice_board.proofs.words.Sums.{term_le}

-- ---- powers
pub no_parts : (share n : ℕ) → share * 2 ^ n ≡ 0 → share ≡ 0
no_parts share n e =
    dite (ℕ_discrete share 0) (λ is. is) (λ other. let a : 0 < share * 2 ^ n = mul-pos (omega arith) (pow_pos n) in absurd (omega arith))

same_parts : (m n k : ℕ) → 0 < k → m * k ≡ n * k → m ≡ n
same_parts m n k above e = sym (mul-div_cancel m above) ∙ ap (λ (p : ℕ). p / k) e ∙ mul-div_cancel n above

-- a power that is made of two
made_of : (i j k : ℕ) → i + j ≡ k → 2 ^ i * 2 ^ j ≡ 2 ^ k
made_of i j k e = sym (pow-add 2 i j) ∙ ap (λ (n : ℕ). 2 ^ n) e

pub whole_parts : (h k : ℕ) → h ≤ k → 2 ^ h * 2 ^ (k - h) ≡ 2 ^ k
whole_parts h k low = made_of h (k - h) k (omega arith)

pub halved_parts : (share h k : ℕ) → h + 1 ≤ k → share * 2 ^ (k - (h + 1)) + share * 2 ^ (k - (h + 1)) ≡ share * 2 ^ (k - h)
halved_parts share h k low = let e = ap (λ (n : ℕ). share * n) (made_of 1 (k - (h + 1)) (k - h) (omega arith)) in omega arith

pub joined_parts : (a h b j k : ℕ) → h + j ≤ k → (a * 2 ^ j + b * 2 ^ h) * 2 ^ (k - (h + j)) ≡ a * 2 ^ (k - h) + b * 2 ^ (k - j)
joined_parts a h b j k low =
    let e = ap (λ (n : ℕ). a * n) (made_of j (k - (h + j)) (k - h) (omega arith)) in
    let f = ap (λ (n : ℕ). b * n) (made_of h (k - (h + j)) (k - j) (omega arith)) in
    omega arith

-- ---- of sums of which one term is all
module _ {A : Type 0} (f g : A → ℕ) where
  total_none : (l : List A) → ((k : ℕ) (a : A) → get_elem? l k ≡ some a → g a ≡ 0 → f a ≡ 0) → total g l ≡ 0 → total f l ≡ 0
  total_none [] each none = refl
  total_none (x ∷ xs) each none =
      let a = each 0 x refl (omega arith) in
      let b = total_none xs (λ k. each (suc k)) (omega arith) in
      omega arith

  pub total_one : (l : List A) → ((k : ℕ) (a : A) → get_elem? l k ≡ some a → g a ≡ 0 → f a ≡ 0) → (j : ℕ) (a : A) → get_elem? l j ≡ some a
      → total g l ≡ g a → total f l ≡ f a
  total_one [] each j a e all = absurd (some-ne-none a (sym e))
  total_one (x ∷ xs) each zero a e all =
      let c = ap g (some-injective x a e) in
      let d = ap f (some-injective x a e) in
      let b = total_none xs (λ k. each (suc k)) (omega arith) in
      omega arith
  total_one (x ∷ xs) each (suc j) a e all =
      let c = term_le g xs j a e in
      let b = total_one xs (λ k. each (suc k)) j a e (omega arith) in
      let d = each 0 x refl (omega arith) in
      omega arith

pub set_there : {A : Type 0} (l : List A) (j : ℕ) (v w : A) → get_elem? l j ≡ some v → get_elem? (set l j w) j ≡ some w
set_there [] j v w e = absurd (some-ne-none v (sym e))
set_there (x ∷ xs) zero v w e = refl
set_there (x ∷ xs) (suc j) v w e = set_there xs j v w e

-- ---- what workers do with their shares
module _ {T : Type 0} where
  pub same_kept : (old mid new : PassState T) → HaveSameShare old mid → KeepsShare mid new → HaveSameShare old new
  same_kept old mid new same kept =
      subst (λ (a : ℕ × ℕ). old.share * 2 ^ a.1 ≡ a.0 * 2 ^ old.halvings) (λ i. (sym kept.share i, sym kept.halvings i)) same

  -- a pass is split, and what its two halves became is joined
  pub same_joined : (old mine theirs : PassState T) → HaveSameShare (halved old) mine → HaveSameShare (halved old) theirs
      → HaveSameShare old (joined mine theirs)
  same_joined old mine theirs first second =
      let a : ℕ = old.share in
      let h : ℕ = 2 ^ old.halvings in
      let m : ℕ = 2 ^ mine.halvings in
      let t : ℕ = 2 ^ theirs.halvings in
      let twice : 2 * h ≡ 2 ^ (old.halvings + 1) = made_of 1 old.halvings (old.halvings + 1) (omega arith) in
      let both : m * t ≡ 2 ^ (mine.halvings + theirs.halvings) = made_of mine.halvings theirs.halvings _ refl in
      let one : a * m ≡ mine.share * (2 * h) = first ∙ ap (λ (n : ℕ). mine.share * n) (sym twice) in
      let other : a * t ≡ theirs.share * (2 * h) = second ∙ ap (λ (n : ℕ). theirs.share * n) (sym twice) in
      let one_more = ap (λ (n : ℕ). n * t) one in
      let other_more = ap (λ (n : ℕ). n * m) other in
      let all : a * (m * t) ≡ (mine.share * t + theirs.share * m) * h = omega arith in
      ap (λ (n : ℕ). a * n) (sym both) ∙ all

  -- the pass that comes with a board has the whole of it
  pub fresh_whole : (board : BoardState T) (pass : PassState T) → pass ≡ fresh_pass board → IsWhole pass
  fresh_whole board pass same = subst IsWhole (sym same) refl

  pub whole_still : (old new : PassState T) → HaveSameShare old new → IsWhole old → IsWhole new
  whole_still old new same whole =
      same_parts new.share (2 ^ new.halvings) (2 ^ old.halvings) (pow_pos old.halvings)
      (let e = ap (λ (n : ℕ). n * 2 ^ new.halvings) whole in omega arith)

  -- the same of what may be answered
  pub whole_answer : {E : Type 0} (old : PassState T) (answered : Result (PassState T) E) → IfOk answered (HaveSameShare old)
      → IfOk answered (λ new. IsWhole old → IsWhole new)
  whole_answer old (Ok new) same = whole_still old new same
  whole_answer old (Err fault) same = tt
