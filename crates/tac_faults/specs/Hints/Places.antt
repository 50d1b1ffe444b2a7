-- What stands at a place of a line.
use Rattle.std.specs.Prelude.{ℕ, ◌+◌, Bool, false, List, [], Some, None, drop, slice_get, nat_le, nat_lt}
use Rattle.std.specs.List.{prefix_len}
use Rattle.tac_lines.specs.Forms.{Slot, fills}
use Rattle.tac_lines.specs.Tokens.{Token, Word, name, number, fixed}
use Rattle.tac_faults.specs.declared.slips.Bytes.{Bytes}

abbrev pub bytes : ℕ → ℕ → Bytes
bytes start stop = record { start = start; stop = stop }

-- The bytes from the place on that are all of one kind: where they end.
abbrev pub run_stop : (ℕ → Bool) → List ℕ → ℕ → ℕ
run_stop is_kind text place = place + prefix_len is_kind (drop place text)

abbrev pub is_not_ascii : ℕ → Bool
is_not_ascii b = nat_le 128 b

-- Whether the n-th token may stand in such a place of a form; where it is, or 0 and 0; and how it is spelled, where it is a name.
abbrev pub stands : Slot → List Token → ℕ → Bool
stands slot ts n = elim (slice_get ts n) [ None ↦ false | Some t ↦ fills slot t.word ]

abbrev pub bytes_at : List Token → ℕ → Bytes
bytes_at ts n = elim (slice_get ts n) [ None ↦ bytes 0 0 | Some t ↦ bytes t.start t.stop ]

abbrev pub name_of : Word → List ℕ
name_of (name s) = s
name_of (number n) = []
name_of (fixed s) = []

abbrev pub name_at : List Token → ℕ → List ℕ
name_at ts n = elim (slice_get ts n) [ None ↦ [] | Some t ↦ name_of t.word ]

-- How many tokens start before a place.
abbrev pub count_before : List Token → ℕ → ℕ
count_before ts place = prefix_len (λ t. nat_lt t.start place) ts
