-- The tables of a slice, of three widths.
use Rattle.std.specs.Prelude.{◌≡◌, ◌<◌, ◌≤◌, ◌+◌, ◌*◌, ◌/◌, ℕ, List, length, map}
use Rattle.gk_solve.specs.Solved.{words_at_once, words_between}
use Rattle.gk_solve.specs.declared.word_tables.Tables.{Tables}
use Rattle.gk_solve.specs.declared.word_tables.Tables.TheVariants.{One, Four, Eight}

-- how many words are solved at once
abbrev pub width_of : Tables → ℕ
width_of (One tables) = 1
width_of (Four tables) = 4
width_of (Eight tables) = 8

-- of how many points they are, and of how many procedures
abbrev pub points_of : Tables → ℕ
points_of (One tables) = length tables.points.items
points_of (Four tables) = length tables.points.items
points_of (Eight tables) = length tables.points.items

abbrev pub procedures_of : Tables → ℕ
procedures_of (One tables) = length tables.procedures.items
procedures_of (Four tables) = length tables.procedures.items
procedures_of (Eight tables) = length tables.procedures.items

-- the solved words of each point: they stand in the place of what is generated
abbrev pub generated_words : Tables → List (List ℕ)
generated_words (One tables) = map (λ summary. summary.generated) tables.points.items
generated_words (Four tables) = map (λ summary. summary.generated) tables.points.items
generated_words (Eight tables) = map (λ summary. summary.generated) tables.points.items

-- They have a place for each point and procedure, and as many words at once as a slice of these bits solves, or fewer where it has no second.
pub record AreTablesOf (points procedures lo hi : ℕ) (tables : Tables) : Type 0 where
  pub points_are : points_of tables ≡ points
  pub procedures_are : procedures_of tables ≡ procedures
  pub most : width_of tables ≤ words_at_once points (words_between lo hi)
  pub whole : width_of tables < words_at_once points (words_between lo hi) → hi ≤ 64 * (lo / 64) + 64
