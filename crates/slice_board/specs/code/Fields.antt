-- How the fields of a pass and of a board stand for what contracts see.
use Rattle.std.specs.Prelude.{◌≡◌, ℕ, ◌+◌, ◌^◌, ◌<◌, ◌≤◌, length, Option, Some}
use Rattle.atomic_table.specs.Seated.{TableId}
use Rattle.bit_rows.specs.RowTable.{RowTable, blank_table}
use Rattle.bit_rows.specs.Slices.{Slices}
use Rattle.slice_board.specs.declared.view.About.{About}
use Rattle.slice_board.specs.declared.view.View.{View}
use Rattle.slice_board.specs.declared.rule.Key.{Key}
use Rattle.slice_board.specs.Passes.{PassState, times, HoldsUnfinished}
use Rattle.slice_board.specs.Boards.{slice_count}
use Rattle.slice_board.specs.code.Words.{about_key, word_count}

module _ {T : Type 0} where
  -- a pass with this view
  abbrev pub pass_state : TableId → View T → Option ℕ → ℕ → PassState T
  pass_state table v held next = record {
    table = table;
    about = v.about;
    claimed = v.claimed;
    finished = v.finished;
    posted = v.posted;
    seen = v.seen;
    found = v.found;
    counted = v.counted;
    share = v.share;
    halvings = v.halvings;
    held = held;
    next = next;
  }

  -- what holds of every pass, whatever its board
  pub record IsKept (pass : PassState T) : Type 0 where
    -- Each slice below the next was tried, and none from there on.
    pub tried : (s : ℕ) → s < pass.next → 0 < times s pass.claimed + times s pass.found
    pub untried : (s : ℕ) → pass.next ≤ s → times s pass.claimed ≡ 0
    pub low : (about : About T) → pass.about ≡ Some about → pass.next ≤ slice_count about.cut
    pub holds : HoldsUnfinished pass

  -- what holds of a board's fields: its key, its words, and that its rows are blank
  pub record IsLaid (wants : T → ℕ → ℕ → Type 0) (table : TableId) (key : Key T) (cut : Slices) (blank : RowTable) : Type 0 where
    pub cut_is : key.cut.value ≡ cut
    pub points_is : key.points ≡ length blank.flags
    pub few : length blank.flags < 2 ^ 32
    pub wide : table.words ≡ word_count (about_key key)
    pub no_slots : table.slots ≡ 0
    pub blank_is : blank ≡ blank_table blank.flags 0 cut.bits
    pub within : (point bit : ℕ) → wants key.wanted.value point bit → (point < length blank.flags) × (bit < cut.bits)
