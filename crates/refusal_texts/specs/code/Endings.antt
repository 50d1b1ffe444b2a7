-- What the end of a sentence stands for.
use Rattle.std.specs.Prelude.{ℕ, List, [], decimal}
use Rattle.tac_lines.specs.code.Views.{keyword_text}
use Rattle.refusal_texts.specs.RefusalTexts.{quoted_part}
use Rattle.refusal_texts.specs.declared.sentences.Ending.{Ending}
use Rattle.refusal_texts.specs.declared.sentences.Ending.TheVariants as ending

abbrev pub ending_text : Ending → List ℕ
ending_text ending.Nothing = []
ending_text (ending.Word k) = quoted_part (keyword_text k)
ending_text (ending.Number count) = decimal count
