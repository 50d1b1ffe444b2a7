-- Which part of a report is asked for, of how many.
use Rattle.std.specs.Prelude.{ℕ, ◌==◌, ◌&&◌, Bool, List, [], ◌∷◌, Option, Some, None, option_and_then, nat_le, if◌then◌else◌}
use Rattle.std.specs.List.{slice_split}
use Rattle.part_texts.specs.Lines.{read_number}
use Rattle.part_texts.specs.declared.share.Share.{Share}

-- how many parts a report may have
abbrev pub most_parts : ℕ
most_parts = 4096

-- Which part, from 1 on, of how many.
abbrev pub share_from : ℕ → ℕ → Option (ℕ × ℕ)
share_from part count = if nat_le 1 part && (nat_le part count && nat_le count most_parts) then Some (part, count) else None

abbrev pub is_slash : ℕ → Bool
is_slash b = b == 47

-- `K/N`, as a part is asked for, out of what stands between slashes
abbrev pub share_of : List (List ℕ) → Option (ℕ × ℕ)
share_of (part ∷ count ∷ []) = option_and_then (λ k. option_and_then (share_from k) (read_number most_parts count)) (read_number most_parts part)
share_of _ = None

abbrev pub read_share : List ℕ → Option (ℕ × ℕ)
read_share text = share_of (slice_split is_slash text)

-- what the code's value stands for
abbrev pub some_share : Option Share → Option (ℕ × ℕ)
some_share (Some share) = Some (share.part, share.count)
some_share None = None
