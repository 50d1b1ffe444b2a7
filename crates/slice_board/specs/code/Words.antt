-- How a board's words lie in its table: the claim words, the done words, then the rows of all points, and one more word,
-- so that there is one on which a split or a join can step. Of the rows the first words of all points come first, side by
-- side, then their second words, and so on: who posts one word at each point in order goes through the table in order.
use Rattle.std.specs.Prelude.{ℕ, ◌+◌, ◌*◌, ◌≡◌, List, length, slice_index}
use Rattle.atomic_table.specs.Table.{State}
use Rattle.slice_board.specs.declared.view.About.{About}
use Rattle.slice_board.specs.declared.view.View.{View}
use Rattle.slice_board.specs.declared.rule.Key.{Key}
use Rattle.slice_board.specs.Boards.{slice_count, words_for}
use Rattle.slice_board.specs.Lawful.{BoardWords, Lawful}

module _ {T : Type 0} where
  -- what the table's key says
  abbrev pub about_key : Key T → About T
  about_key key = record { wanted = key.wanted.value; points = key.points; cut = key.cut.value }

  -- how many claim words there are, and as many done words
  abbrev pub tally_words : About T → ℕ
  tally_words about = words_for (slice_count about.cut)

  -- where the done word of a number stands
  abbrev pub done_place : About T → ℕ → ℕ
  done_place about word = tally_words about + word

  -- where the word of a point's row stands
  abbrev pub row_place : About T → ℕ → ℕ → ℕ
  row_place about point word = 2 * tally_words about + (word * about.points + point)

  -- how many words the table has
  abbrev pub word_count : About T → ℕ
  word_count about = 2 * tally_words about + about.points * words_for about.cut.bits + 1

  abbrev pub board_words : About T → List ℕ → BoardWords
  board_words about words = record {
    claims = λ word. slice_index words word;
    dones = λ word. slice_index words (done_place about word);
    rows = λ point word. slice_index words (row_place about point word);
  }

  -- the rule of the table: it has these words, and the board is lawful
  pub record LawfulTable (wants : T → ℕ → ℕ → Type 0) (about : About T) (s : State (Unit {0}) (View T)) : Type 0 where
    pub wide : length s.words ≡ word_count about
    pub lawful : Lawful wants about (board_words about s.words) s.views
