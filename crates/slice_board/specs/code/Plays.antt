-- What each step on the table tells: of the step, the seat before, the number found and the seat after.
use Rattle.std.specs.Prelude.{◌≡◌, ℕ, ◌+◌, ◌*◌, ◌/◌, ◌%◌, ◌^◌, ◌<◌, ◌≤◌, List, Some}
use Rattle.std.specs.Int.{bit_at}
use Rattle.atomic_table.specs.Table.{Me, Step}
use Rattle.slice_board.specs.declared.view.About.{About}
use Rattle.slice_board.specs.declared.view.View.{View}
use Rattle.slice_board.specs.declared.view.Count.{Count}
use Rattle.slice_board.specs.Passes.{times, logged_at, logged_word}
use Rattle.slice_board.specs.Boards.{slice_count, words_for}
use Rattle.slice_board.specs.Steps.{after_claim, after_finding, after_post, after_finish, after_look, after_count}
use Rattle.slice_board.specs.code.Words.{tally_words, done_place, row_place}

abbrev pub Sat : Type 0 → Type 0
Sat T = Me (Unit {0}) (View T)

abbrev pub load_of : ℕ → ℕ → Count
load_of word value = record { word = word; bits = value }

-- the value of a done word has what a pass with these lists finished, and not what it holds
pub record ShowsOwn (slices : ℕ) (claimed finished : List ℕ) (word value : ℕ) : Type 0 where
  pub has_finished : (s : ℕ) → s < slices → s / 64 ≡ word → 0 < times s finished → bit_at value (s % 64) ≡ 1
  pub lacks_held : (s : ℕ) → s < slices → s / 64 ≡ word → times s finished < times s claimed → bit_at value (s % 64) ≡ 0

-- A pass with the whole board claimed each slice that it found taken: no other pass has claimed one.
abbrev pub FoundOwn : ℕ → ℕ → ℕ → List ℕ → List ℕ → Type 0
FoundOwn slices share halvings claimed found = share ≡ 2 ^ halvings → (s : ℕ) → s < slices → 0 < times s found → 0 < times s claimed

module _ {T : Type 0} where
  -- the slice is claimed where its bit was clear, and else found
  abbrev pub DrawTells : Step (Unit {0}) → Sat T → ℕ → Sat T → Type 0
  DrawTells step old value new = (s : ℕ) → step.word ≡ s / 64 → step.first ≡ 2 ^ (s % 64)
      → (bit_at value (s % 64) ≡ 0 → new ≡ (after_claim s old.0, old.1)) × (bit_at value (s % 64) ≡ 1 → new ≡ (after_finding s old.0, old.1))

  abbrev pub FinishTells : Step (Unit {0}) → Sat T → ℕ → Sat T → Type 0
  FinishTells step old value new = (about : About T) → old.0.about ≡ Some about
      → (s : ℕ) → step.word ≡ done_place about (s / 64) → step.first ≡ 2 ^ (s % 64) → new ≡ (after_finish s old.0, old.1)

  abbrev pub PostTells : Step (Unit {0}) → Sat T → ℕ → Sat T → Type 0
  PostTells step old value new = (about : About T) → old.0.about ≡ Some about
      → (point word : ℕ) → point < about.points → step.word ≡ row_place about point word
      → new ≡ (after_post (logged_word point word step.first) old.0, old.1)

  -- the value has all that the pass posted or saw there, and nothing that is not wanted
  abbrev pub LookTells : (T → ℕ → ℕ → Type 0) → Step (Unit {0}) → Sat T → ℕ → Sat T → Type 0
  LookTells wants step old value new = (about : About T) → old.0.about ≡ Some about
      → (point word : ℕ) → point < about.points → word < words_for about.cut.bits → step.word ≡ row_place about point word
      → (new ≡ (after_look (logged_word point word value) old.0, old.1))
      × ((place : ℕ) → 0 < logged_at point word place old.0.posted → bit_at value place ≡ 1)
      × ((place : ℕ) → 0 < logged_at point word place old.0.seen → bit_at value place ≡ 1)
      × ((place : ℕ) → bit_at value place ≡ 1 → wants about.wanted point (64 * word + place))

  abbrev pub CountTells : Step (Unit {0}) → Sat T → ℕ → Sat T → Type 0
  CountTells step old value new = (about : About T) → old.0.about ≡ Some about
      → (word : ℕ) → word < tally_words about → step.word ≡ done_place about word
      → (new ≡ (after_count (load_of word value) old.0, old.1))
      × ShowsOwn (slice_count about.cut) old.0.claimed old.0.finished word value
      × FoundOwn (slice_count about.cut) old.0.share old.0.halvings old.0.claimed old.0.found

  -- A load after a join, which changes nothing, shows that the claims of the pass have no slice twice.
  abbrev pub CheckTells : Step (Unit {0}) → Sat T → ℕ → Sat T → Type 0
  CheckTells step old value new = (new ≡ old) × ((s : ℕ) → times s old.0.claimed ≤ 1)
