-- What comes of files with the parts of a report, or of lines of JSON.
use Rattle.std.specs.Prelude.{ℕ, List, [], ◌∷◌, ◌++◌, Option, None, Some, Result, Ok, Err, bytes_eq, codes, decimal, slice_index_or, if◌then◌else◌}
use Rattle.part_texts.specs.Merges.{merged}
use Rattle.part_texts.specs.declared.fault.MergeFault.{MergeFault}
use Rattle.part_texts.specs.declared.fault.MergeFault.TheVariants.{InText, Missing}
use Rattle.part_texts.specs.declared.fault.PartFault.{PartFault}
use Rattle.part_texts.specs.declared.fault.PartFault.TheVariants.{CutShort, Double, NoPart, OtherCount, OtherForm, OtherProgram}
use Rattle.view_commands.specs.Lines.{escaped}

-- The names behind `tacview --merge`; None where the words are others.
abbrev pub files_to_merge : List (List ℕ) → Option (List (List ℕ))
files_to_merge (program ∷ word ∷ files) = if bytes_eq word (codes "--merge") then Some files else None
files_to_merge _ = None

-- why a file is none of the parts
abbrev pub fault_words : PartFault → List ℕ
fault_words NoPart = codes "is no part of a report"
fault_words CutShort = codes "is cut short"
fault_words OtherForm = codes "is a part in another form than the first"
fault_words OtherProgram = codes "is a part of another program's report"
fault_words OtherCount = codes "is one of another number of parts"
fault_words Double = codes "is a part that a file before it is"

-- `tacview: FILE: WORDS`
abbrev pub file_line : List ℕ → List ℕ → List ℕ
file_line name words = codes "tacview" ++ (codes ": " ++ escaped name ++ (codes ": " ++ words ++ codes "\n"))

-- The line of what is wrong, by the names of the files.
abbrev pub merge_line : List (List ℕ) → MergeFault → List ℕ
merge_line names (InText text fault) = file_line (slice_index_or names text []) (fault_words fault)
merge_line names (Missing part) = codes "tacview" ++ (codes ": no file is part " ++ decimal part ++ codes "\n")

-- What the texts of files make, or the line of what is wrong.
abbrev pub merged_files : (names texts : List (List ℕ)) → Result (List ℕ) (List ℕ)
merged_files names texts = elim (merged texts) [ Ok report ↦ Ok report | Err fault ↦ Err (merge_line names fault) ]
