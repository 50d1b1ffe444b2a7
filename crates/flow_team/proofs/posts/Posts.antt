-- What is posted of a slice, word by word and point by point.
use Rattle.std.proofs.Common.{◌≡◌, ◌↔◌, ◌∙◌, ℕ, ◌+◌, ◌*◌, ◌/◌, ◌%◌, ◌<◌, ◌≤◌, true, List, [], ◌∷◌, ◌++◌, append_assoc, sym, ap, subst, arith}
use mathlib.Core.Logic.{dite}
use native.Mathlib.Decide.{ℕ_discrete, dec_le}
use Rattle.std.proofs.lemmas.List.{append-nil}
use Rattle.std.proofs.lemmas.Nat.Bits.{bit_at-zero}
use Rattle.bit_rows.specs.Words.{has_bit}
use Rattle.slice_board.specs.Boards.{BoardState, IsOf}
use Rattle.slice_board.specs.Passes.{PassState, IsLogged, logged_word}
use Rattle.slice_board.specs.declared.view.LoggedWord.{LoggedWord}
use Rattle.slice_board.proofs.words.Calls.{one_of_bit}
use Rattle.slice_board.proofs.words.Sums.{logged_here, marked_still}
use Rattle.flow_team.specs.code.Posting.{IsPosted}
use Rattle.slice_board.specs.Teams.{PostsMore}

-- a bit of the mask that was posted last is marked
pub marked_last : (old : List LoggedWord) (point word mask bit : ℕ) → bit / 64 ≡ word → has_bit mask (bit % 64) ≡ true
    → IsLogged (old ++ logged_word point word mask ∷ []) point bit
marked_last old point word mask bit at has =
    subst (λ (w : ℕ). IsLogged (old ++ logged_word point w mask ∷ []) point bit) at
    (let e = logged_here point (bit / 64) mask (bit % 64) old in let one = one_of_bit mask (bit % 64) has in omega arith)

module _ {T : Type 0} where
  pub posts_none : (pass : PassState T) → PostsMore pass pass
  posts_none pass = record { more = []; same = ap (λ (marks : List LoggedWord). record pass { posted = marks }) (sym (append-nil pass.posted)) }

  pub posts_more : (old mid new : PassState T) → PostsMore old mid → PostsMore mid new → PostsMore old new
  posts_more old mid new before after = record {
    more = before.more ++ after.more;
    same = after.same ∙ ap (λ (pass : PassState T). record pass { posted = pass.posted ++ after.more }) before.same
        ∙ ap (λ (marks : List LoggedWord). record old { posted = marks }) (append_assoc old.posted before.more after.more);
  }

  pub of_still : (board : BoardState T) (old new : PassState T) → PostsMore old new → IsOf board old → IsOf board new
  of_still board old new posts of = subst (IsOf board) (sym posts.same) (record { table = of.table; about = of.about })

  pub posted_still : (wanted : ℕ → ℕ → Type 0) (lo hi : ℕ) (done : ℕ → ℕ → Type 0) (old new : PassState T) → PostsMore old new
      → IsPosted wanted lo hi done old.posted → IsPosted wanted lo hi done new.posted
  posted_still wanted lo hi done old new posts all point bit want low high is =
      subst (λ (pass : PassState T). IsLogged pass.posted point bit) (sym posts.same)
      (marked_still old.posted posts.more point bit (all point bit want low high is))

-- no bit of 0 is set
pub none_of_zero : (k : ℕ) → has_bit 0 k ≡ true → ⊥
none_of_zero k is = let one = one_of_bit 0 k is in let none = bit_at-zero k in omega arith

-- a word of a set has the set's bits
pub word_has : (wanted : ℕ → ℕ → Type 0) (first end point word result : ℕ)
    → ((k : ℕ) → k < 64 → (has_bit result k ≡ true) ↔ ((first ≤ 64 * word + k) × (64 * word + k < end) × wanted point (64 * word + k)))
    → (p bit : ℕ) → p ≡ point → bit / 64 ≡ word → wanted p bit → first ≤ bit → bit < end → has_bit result (bit % 64) ≡ true
word_has wanted first end point word result is p bit here at want low high =
    let whole : bit ≡ 64 * word + bit % 64 = omega (arith, at) in
    let there : wanted point (64 * word + bit % 64) = subst (λ (n : ℕ). wanted point n) whole (subst (λ (n : ℕ). wanted n bit) here want) in
    (is (bit % 64) (omega arith)).1 (omega (arith, low, whole), omega (arith, high, whole), there)

module _ {T : Type 0} (wanted : ℕ → ℕ → Type 0) (lo hi from : ℕ) (old new : PassState T) (posts : PostsMore old new) where
  -- one word more of a point
  pub words_more : (point word : ℕ) → IsPosted wanted lo hi (λ p w. (p ≡ point) × (from ≤ w) × (w < word)) old.posted
      → IsPosted wanted lo hi (λ p w. (p ≡ point) × (w ≡ word)) new.posted
      → IsPosted wanted lo hi (λ p w. (p ≡ point) × (from ≤ w) × (w < word + 1)) new.posted
  words_more point word before here p bit want low high at = dite (ℕ_discrete (bit / 64) word)
      (λ same. here p bit want low high (at.0, same))
      (λ apart. posted_still wanted lo hi (λ q w. (q ≡ point) × (from ≤ w) × (w < word)) old new posts before p bit want low high
      (at.0, at.1, omega (arith, at.2)))

  -- one point more
  pub points_more : (until point : ℕ) → IsPosted wanted lo hi (λ p w. (p < point) × (from ≤ w) × (w < until)) old.posted
      → IsPosted wanted lo hi (λ p w. (p ≡ point) × (from ≤ w) × (w < until)) new.posted
      → IsPosted wanted lo hi (λ p w. (p < point + 1) × (from ≤ w) × (w < until)) new.posted
  points_more until point before here p bit want low high at = dite (ℕ_discrete p point)
      (λ same. here p bit want low high (same, at.1, at.2))
      (λ apart. posted_still wanted lo hi (λ q w. (q < point) × (from ≤ w) × (w < until)) old new posts before p bit want low high
      (omega (arith, at.0), at.1, at.2))

  -- some words more of all points, where nothing is wanted at others
  pub groups_more : (points until : ℕ) → ((p bit : ℕ) → wanted p bit → p < points) → IsPosted wanted lo hi (λ p w. w < from) old.posted
      → IsPosted wanted lo hi (λ p w. (p < points) × (from ≤ w) × (w < until)) new.posted → IsPosted wanted lo hi (λ p w. w < until) new.posted
  groups_more points until within before here p bit want low high below = dite (dec_le from (bit / 64))
      (λ past. here p bit want low high (within p bit want, past, below))
      (λ under. posted_still wanted lo hi (λ q w. w < from) old new posts before p bit want low high (omega arith))
