-- What parts make: the report, or lines of JSON.
use Rattle.std.specs.Prelude.{ℕ, ◌++◌, Bool, List, [], ◌∷◌, Option, Some, None, Result, Ok, Err, length, ◌==◌, ◌&&◌, not, flat_map, bytes_eq, codes}
use Rattle.std.specs.Prelude.{if◌then◌else◌}
use Rattle.std.specs.List.{find, list_any, range_with_len}
use Rattle.part_texts.specs.Lines.{place}
use Rattle.part_texts.specs.Orders.{in_order_by}
use Rattle.part_texts.specs.Parts.{Part, is_same_form, read_part}
use Rattle.part_texts.specs.declared.fault.MergeFault.{MergeFault}
use Rattle.part_texts.specs.declared.fault.MergeFault.TheVariants.{InText, Missing}
use Rattle.part_texts.specs.declared.fault.PartFault.{PartFault}
use Rattle.part_texts.specs.declared.fault.PartFault.TheVariants.{Double, OtherCount, OtherForm, OtherProgram}

-- some part has this number
abbrev pub is_there : List Part → ℕ → Bool
is_there parts k = list_any (λ p. p.heading.part == k) parts

-- Why a part does not go with those before it: it is in the other form, of another program, or one of another number of parts, or is there
-- already.
abbrev pub against : List Part → Part → Option PartFault
against [] part = None
against (first ∷ others) part =
    if not (is_same_form part.heading.form first.heading.form) then Some OtherForm
    else if not (bytes_eq part.heading.digest first.heading.digest && bytes_eq part.counts first.counts) then Some OtherProgram
    else if not (part.heading.count == first.heading.count) then Some OtherCount
    else if is_there (first ∷ others) part.heading.part then Some Double
    else None

abbrev pub unless_fault : Part → Option PartFault → Result Part PartFault
unless_fault part None = Ok part
unless_fault part (Some fault) = Err fault

abbrev pub accepted : List Part → List ℕ → Result Part PartFault
accepted before text = elim (read_part text) [ Ok part ↦ unless_fault part (against before part) | Err fault ↦ Err fault ]

-- The parts of the texts, behind those of the texts before, or the first fault.
abbrev pub joined : List Part → List (List ℕ) → Result (List Part) MergeFault
joined before [] = Ok before
joined before (text ∷ others) =
    elim (accepted before text) [ Ok part ↦ joined (before ++ part ∷ []) others | Err fault ↦ Err (InText (length before) fault) ]

-- of how many parts they are: with none there is to be one
abbrev pub parts_of : List Part → ℕ
parts_of [] = 1
parts_of (first ∷ others) = first.heading.count

-- the first number that no part has
abbrev pub missing : List Part → Option ℕ
missing parts = find (λ k. not (is_there parts k)) (range_with_len 1 (parts_of parts))

-- The first line of what is in parts once, and behind it the lines of all parts by their places.
abbrev pub report_of_parts : List Part → List ℕ
report_of_parts [] = []
report_of_parts (first ∷ others) =
    first.counts ++ codes "\n" ++ flat_map (λ line. line.text ++ codes "\n") (in_order_by place (flat_map (λ p. p.lines) (first ∷ others)))

abbrev pub unless_missing : List Part → Option ℕ → Result (List ℕ) MergeFault
unless_missing parts None = Ok (report_of_parts parts)
unless_missing parts (Some k) = Err (Missing k)

-- The texts are parts 1 to n of one report, each once, in whatever order: the report, or the lines of JSON. Else the first fault.
abbrev pub merged : List (List ℕ) → Result (List ℕ) MergeFault
merged texts = elim (joined [] texts) [ Ok parts ↦ unless_missing parts (missing parts) | Err fault ↦ Err fault ]
