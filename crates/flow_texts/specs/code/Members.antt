-- Which of some texts are written, in a row.
use Rattle.std.specs.Prelude.{◌≡◌, ℕ, Bool, ◌||◌, List, map, filter, flat_map}
use Rattle.std.specs.List.{range_with_len}
use Rattle.text_pieces.specs.Pieces.{Outlet, Takes}
use Rattle.text_pieces.specs.code.Lists.{after, some_stand, text_at}

-- what each number is called, and which numbers are in a set
pub record Named : Type 0 where
  pub named : ℕ → List ℕ
  pub member : ℕ → Bool

-- the members among so many numbers from the first on
abbrev pub members : Named → ℕ → ℕ → List ℕ
members set first count = filter set.member (range_with_len first count)

-- The texts of the members among some numbers were taken, with something between them, and whether any text stands now.
pub record Wrote (between : List ℕ) (set : Named) (others : Bool) (first count : ℕ) (old new : Outlet) (any : Bool) : Type 0 where
  pub written : Takes old new (after between others (map set.named (members set first count)))
  pub known : any ≡ (others || some_stand (members set first count))

-- the texts whose numbers are in a set
abbrev pub chosen : List (List ℕ) → (ℕ → Bool) → Named
chosen texts member = record { named = text_at texts; member = member }

-- the texts that the numbers have which pass a test
abbrev pub texts_where : (ℕ → List ℕ) → (ℕ → Bool) → List ℕ → List ℕ
texts_where text_of test numbers = flat_map text_of (filter test numbers)
