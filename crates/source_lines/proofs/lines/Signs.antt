-- Bytes between quotes, one byte more
use Rattle.std.proofs.Common.{◌≡◌, ◌∙◌, ℕ, ◌+◌, ◌/◌, ◌%◌, ◌<◌, Bool, true, List, [], ◌∷◌, ◌++◌, codes, flat_map, get_or, length, take, if◌then◌else◌}
use Rattle.std.proofs.Common.{sym, ap, ap₂, append-nil}
use Rattle.std.proofs.lemmas.Grind.{flat_map-append}
use Rattle.std.proofs.lemmas.List.{take_more}
use Rattle.text_pieces.specs.Strings.{escaped, escaped_byte}
use Rattle.text_pieces.proofs.sinks.Escapes.{escaped_more}
use Rattle.source_lines.specs.SourceLines.{byte_text, hex_digit, is_sign}

pub bytes_more : (bytes : List ℕ) (i : ℕ) → i < length bytes
    → flat_map byte_text (take i bytes) ++ byte_text (get_or bytes i 0) ≡ flat_map byte_text (take (i + 1) bytes)
bytes_more bytes i below =
    ap (λ t. flat_map byte_text (take i bytes) ++ t) (sym (append-nil (byte_text (get_or bytes i 0))))
    ∙ sym (flat_map-append byte_text (take i bytes) (get_or bytes i 0 ∷ []))
    ∙ ap (flat_map byte_text) (sym (take_more bytes i 0 below))

-- what stands for a byte, by whether it is a sign
abbrev pub text_by : ℕ → Bool → List ℕ
text_by b sign = if sign then escaped_byte b else codes "\\u00" ++ hex_digit (b / 16) ∷ hex_digit (b % 16) ∷ []

pub signs_more : (bytes : List ℕ) (i : ℕ) → i < length bytes → is_sign (get_or bytes i 0) ≡ true
    → flat_map byte_text (take i bytes) ≡ escaped (take i bytes) → flat_map byte_text (take (i + 1) bytes) ≡ escaped (take (i + 1) bytes)
signs_more bytes i below sign before =
    sym (bytes_more bytes i below)
    ∙ ap₂ (λ (a b : List ℕ). a ++ b) before (ap (text_by (get_or bytes i 0)) sign)
    ∙ escaped_more bytes i below
