-- What a statement does with the bits of a word
use Rattle.std.proofs.Common.{◌≡◌, ◌<◌, ◌+◌, ◌*◌, ◌/◌, ◌%◌, ◌^◌, ◌&&◌, ◌||◌, not, inl, inr, nat_lt, true, false, Bool, ℕ, arith, refl, sym, ◌∙◌, ap}
use Rattle.std.proofs.Common.{bit_or, bit_and, get_or}
use Rattle.std.proofs.lemmas.Bool.{cases_lt, lt-ltb, le-ltb, false≢true, or_left, false_from_ne_true}
use Rattle.bit_rows.specs.Words.{has_bit}
use Rattle.bit_rows.proofs.words.WordBits.{has_bit-or, has_bit-and, has_bit-zero}
use Rattle.flow_graph.specs.Problems.{IsWordOfTest}
use Rattle.gen_kill.specs.Selections.{IsColumnAffected, Selection, column_boundary, column_count, column_gens, column_kills}
use Rattle.flow_graph.specs.Points.{point_count}
use Rattle.gk_solve.specs.Tables.Groups.{IsGroupFrame, IsIdle}
use Rattle.gk_solve.specs.declared.group_frame.GroupFrame.{GroupFrame}
use Rattle.gk_solve.specs.Tables.Words.{place_gens, place_kills, place_boundary}

-- a word of the form tells the places of its number
pub gens_of_word : (form : Selection) (point word value k : ℕ) → k < 64
    → IsWordOfTest (column_gens form point) (column_count form) word value
    → has_bit value k ≡ place_gens form point (64 * word + k)
unfolding place_gens
gens_of_word form point word value k low is = is k low

pub kills_of_word : (form : Selection) (point word value k : ℕ) → k < 64
    → IsWordOfTest (column_kills form point) (column_count form) word value → has_bit value k ≡ place_kills form point (64 * word + k)
unfolding place_kills
kills_of_word form point word value k low is = is k low

pub boundary_of_word : (form : Selection) (word value k : ℕ) → k < 64 → IsWordOfTest (column_boundary form) (column_count form) word value
    → has_bit value k ≡ place_boundary form (64 * word + k)
unfolding place_boundary
boundary_of_word form word value k low is = is k low

-- a word of which no affected bit tells is one in which the statement is idle
pub idle_word : (form : Selection) (point words word : ℕ)
    → ((bit : ℕ) → bit < column_count form → IsColumnAffected form point bit → has_bit words (bit / 64 % 64) ≡ true)
    → has_bit words (word % 64) ≡ false → IsIdle form point word
unfolding place_gens place_kills
idle_word form point words word told clear k low = (
  never (column_gens form point (64 * word + k)) (λ below gens. told (64 * word + k) below (inl gens)),
  never (column_kills form point (64 * word + k)) (λ below kills. told (64 * word + k) below (inr kills)),
)
  where
    here : (64 * word + k) / 64 % 64 ≡ word % 64
    here = let same : (64 * word + k) / 64 ≡ word = omega (arith, low) in ap (λ n. n % 64) same

    never : (b : Bool) → (64 * word + k < column_count form → b ≡ true → has_bit words ((64 * word + k) / 64 % 64) ≡ true)
        → (nat_lt (64 * word + k) (column_count form) && b) ≡ false
    never b tells = elim (cases_lt (64 * word + k) (column_count form)) [
      | inr past ↦ ap (λ a. a && b) (le-ltb (64 * word + k) (column_count form) past)
      | inl below ↦ ap (λ a. a && b) (lt-ltb (64 * word + k) (column_count form) below)
          ∙ false_from_ne_true b (λ is. false≢true (sym clear ∙ (ap (has_bit words) (sym here) ∙ tells below is)))
    ]

-- a bit more
pub bit_before : (words word k : ℕ) → has_bit words k ≡ true → has_bit (bit_or words (1 * 2 ^ word % 2 ^ 64)) k ≡ true
bit_before words word k had = has_bit-or words (1 * 2 ^ word % 2 ^ 64) k ∙ or_left (has_bit words k) (has_bit (1 * 2 ^ word % 2 ^ 64) k) had

-- what stays the same where nothing is killed or generated
pub unkilled_same : (bit kill : Bool) → kill ≡ false → bit ≡ (bit && not kill)
unkilled_same true kill none = sym (ap not none)
unkilled_same false kill none = refl

pub ungenerated_same : (bit gen kill : Bool) → gen ≡ false → kill ≡ false → bit ≡ (gen || (bit && not kill))
ungenerated_same bit gen kill no_gen no_kill = unkilled_same bit kill no_kill ∙ ap (λ g. g || (bit && not kill)) (sym no_gen)

module _ (width : ℕ) (frame : GroupFrame) (is : IsGroupFrame width frame) (point : ℕ) (within : point < point_count frame.problem.now.program) where
  -- where the statement's words have none of the group's
  pub idle_in_group : bit_and (get_or frame.effects.now point 0) frame.mask ≡ 0 → (w : ℕ) → w < width
      → IsIdle frame.problem.now point (frame.first + w)
  idle_in_group none w inside =
      let place : ℕ = (frame.first + w) % 64 in
      let there = is.mask w inside in
      let both : (has_bit (get_or frame.effects.now point 0) place && has_bit frame.mask place) ≡ false =
      sym (has_bit-and (get_or frame.effects.now point 0) frame.mask place) ∙ (ap (λ n. has_bit n place) none ∙ has_bit-zero place) in
      is.effects.idle point (frame.first + w) within (left (has_bit (get_or frame.effects.now point 0) place) (has_bit frame.mask place) both there)
    where
      left : (a b : Bool) → (a && b) ≡ false → b ≡ true → a ≡ false
      left false b e t = refl
      left true b e t = absurd (false≢true (sym e ∙ t))
