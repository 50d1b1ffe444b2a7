-- The lawful board: what holds between any two steps, over all passes that were ever split off. One that was dropped is
-- among them; one that was given up in a join is spent, and counts through the joined pass alone.
use Rattle.std.specs.Prelude.{◌≡◌, ℕ, ◌+◌, ◌-◌, ◌*◌, ◌/◌, ◌%◌, ◌^◌, ◌<◌, ◌≤◌, List, [], ◌∷◌, min, Some, None, if◌then◌else◌, ◌==◌}
use mathlib.Core.Option.{some}
use lib.ListN.{get_elem?}
use Rattle.std.specs.Int.{bit_at}
use Rattle.slice_board.specs.declared.view.About.{About}
use Rattle.slice_board.specs.declared.view.View.{View}
use Rattle.slice_board.specs.declared.view.Count.{Count}
use Rattle.slice_board.specs.Passes.{times, logged_at}
use Rattle.slice_board.specs.Boards.{slice_count, words_for, InSlice}

-- The shared words, by number: the bits of the claim words say which slices are taken, those of the done words which are
-- finished. A point's row has a word for each 64 bits of the universe.
pub record BoardWords : Type 0 where
  pub claims : ℕ → ℕ
  pub dones : ℕ → ℕ
  pub rows : ℕ → ℕ → ℕ

-- bit s of words of 64 bits
abbrev pub bit_in : (ℕ → ℕ) → ℕ → ℕ
bit_in words s = bit_at (words (s / 64)) (s % 64)

-- how many loads of the done word have the place
abbrev pub shows_at : ℕ → ℕ → List Count → ℕ
shows_at word place [] = 0
shows_at word place (c ∷ cs) = (if c.word == word then bit_at c.bits place else 0) + shows_at word place cs

-- f of each, added up
abbrev pub total : {A : Type 0} → (A → ℕ) → List A → ℕ
total f [] = 0
total f (x ∷ xs) = f x + total f xs

module _ {T : Type 0} where
  -- how often a slice stands in the claims of all passes
  abbrev pub claims_of : ℕ → List (View T) → ℕ
  claims_of s = total (λ v. times s v.claimed)

  -- how often it stands in what all passes finished
  abbrev pub finishes_of : ℕ → List (View T) → ℕ
  finishes_of s = total (λ v. times s v.finished)

  -- how many marks that some pass posted on a point's word have the place
  abbrev pub posts_of : ℕ → ℕ → ℕ → List (View T) → ℕ
  posts_of point word place = total (λ v. logged_at point word place v.posted)

  -- how many halvings all passes have
  abbrev pub halvings_of : List (View T) → ℕ
  halvings_of = total (λ v. v.halvings)

  -- how many of the board's 2 ^ k parts all passes have
  abbrev pub parts_of : ℕ → List (View T) → ℕ
  parts_of k = total (λ v. v.share * 2 ^ (k - v.halvings))

  module _ (wants : T → ℕ → ℕ → Type 0) (about : About T) where
    -- what one pass knows is so
    pub record IsTrueOf (words : BoardWords) (v : View T) : Type 0 where
      -- Unless it is spent, it knows the board.
      pub board : (known : About T) → v.about ≡ Some known → known ≡ about
      -- Without a share of the board it is spent: it knows no board, and claimed nothing.
      pub spent : v.share ≡ 0 → (v.about ≡ None) × (v.claimed ≡ [])
      -- It finished only what it claimed.
      pub own : (s : ℕ) → times s v.finished ≤ times s v.claimed
      -- The claim bit of a slice that it found is set.
      pub found : (s : ℕ) → 0 < times s v.found → bit_in words.claims s ≡ 1
      -- What it saw lies within its word.
      pub seen : (point word place : ℕ) → point < about.points → word < words_for about.cut.bits
          → 0 < logged_at point word place v.seen → bit_at (words.rows point word) place ≡ 1
      -- What it counted lies within its word.
      pub counted : (word place : ℕ) → word < words_for (slice_count about.cut)
          → 0 < shows_at word place v.counted → bit_at (words.dones word) place ≡ 1

    pub record Lawful (words : BoardWords) (views : List (View T)) : Type 0 where
      -- 1. What is claimed are slices, and no slice is claimed twice.
      pub below : (s : ℕ) → slice_count about.cut ≤ s → claims_of s views ≡ 0
      pub once : (s : ℕ) → claims_of s views ≤ 1
      -- 2. A claim bit is set exactly where its slice is claimed.
      pub claimed : (s : ℕ) → s < slice_count about.cut → claims_of s views ≡ bit_in words.claims s
      -- 3. Each word of a row is the union of the masks that were posted there, and has nothing that is not wanted.
      pub posted : (point word place : ℕ) → point < about.points → word < words_for about.cut.bits
          → min 1 (posts_of point word place views) ≡ bit_at (words.rows point word) place
      pub within : (point word place : ℕ) → point < about.points → word < words_for about.cut.bits
          → bit_at (words.rows point word) place ≡ 1 → wants about.wanted point (64 * word + place)
      -- 4. What each pass found, saw and counted lies within the words, and it finished only what it claimed.
      pub known : (id : ℕ) (v : View T) → get_elem? views id ≡ some v → IsTrueOf words v
      -- 5. A done bit is set exactly where its slice is finished, and then all that is wanted of the slice is in the rows.
      pub finished : (s : ℕ) → s < slice_count about.cut → finishes_of s views ≡ bit_in words.dones s
      pub complete : (s : ℕ) → s < slice_count about.cut → bit_in words.dones s ≡ 1
          → (point bit : ℕ) → point < about.points → wants about.wanted point bit → InSlice about.cut s bit
          → bit_at (words.rows point (bit / 64)) (bit % 64) ≡ 1
      -- 6. No bit of a claim or done word is set at or beyond the number of slices.
      pub padding : (s : ℕ) → slice_count about.cut ≤ s → s / 64 < words_for (slice_count about.cut)
          → (bit_in words.claims s ≡ 0) × (bit_in words.dones s ≡ 0)
      -- 7. All passes together have the whole board, in parts that are small enough for each share to be so many of them.
      pub whole : (k : ℕ) → halvings_of views ≤ k → parts_of k views ≡ 2 ^ k
