-- What each kind of step changes of the pass that makes it. A step is made with one pass and changes that pass alone.
use Rattle.std.specs.Prelude.{ℕ, ◌+◌, ◌*◌, ◌^◌, [], ◌∷◌, ◌++◌, Option, Some, None}
use Rattle.slice_board.specs.declared.view.About.{About}
use Rattle.slice_board.specs.declared.view.View.{View}
use Rattle.slice_board.specs.declared.view.LoggedWord.{LoggedWord}
use Rattle.slice_board.specs.declared.view.Count.{Count}

module _ {T : Type 0} where
  -- A draw sets one claim bit. Where the bit was clear, the slice is claimed.
  abbrev pub after_claim : ℕ → View T → View T
  after_claim s v = record v { claimed = v.claimed ++ s ∷ [] }

  -- Where it was set, the slice was found taken.
  abbrev pub after_finding : ℕ → View T → View T
  after_finding s v = record v { found = v.found ++ s ∷ [] }

  -- A post sets the bits of a mask in a word of a point's row.
  abbrev pub after_post : LoggedWord → View T → View T
  after_post m v = record v { posted = v.posted ++ m ∷ [] }

  -- Finishing sets one done bit.
  abbrev pub after_finish : ℕ → View T → View T
  after_finish s v = record v { finished = v.finished ++ s ∷ [] }

  -- A look loads a word of a point's row.
  abbrev pub after_look : LoggedWord → View T → View T
  after_look m v = record v { seen = v.seen ++ m ∷ [] }

  -- A count loads a done word.
  abbrev pub after_count : Count → View T → View T
  after_count c v = record v { counted = v.counted ++ c ∷ [] }

  -- A pass with empty lists.
  abbrev pub fresh_view : Option (About T) → ℕ → ℕ → View T
  fresh_view about share halvings = record {
    about = about;
    claimed = [];
    finished = [];
    posted = [];
    seen = [];
    found = [];
    counted = [];
    share = share;
    halvings = halvings;
  }

  -- The first pass has the whole board.
  abbrev pub first_view : About T → View T
  first_view about = fresh_view (Some about) 1 0

  -- A split adds a pass with empty lists, and gives each of the two half of the old one's share.
  abbrev pub halved_view : View T → View T
  halved_view v = record v { halvings = v.halvings + 1 }

  abbrev pub split_view : View T → View T
  split_view v = fresh_view v.about v.share (v.halvings + 1)

  -- A join gives one pass the lists and shares of both, and leaves the other spent: it knows no board, its lists are empty, and it has no share.
  abbrev pub joined_view : View T → View T → View T
  joined_view v w = record v {
    claimed = v.claimed ++ w.claimed;
    finished = v.finished ++ w.finished;
    posted = v.posted ++ w.posted;
    seen = v.seen ++ w.seen;
    found = v.found ++ w.found;
    counted = v.counted ++ w.counted;
    share = v.share * 2 ^ w.halvings + w.share * 2 ^ v.halvings;
    halvings = v.halvings + w.halvings;
  }

  abbrev pub spent_view : View T
  spent_view = fresh_view None 0 0
