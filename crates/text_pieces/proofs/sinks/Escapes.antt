-- Escaped texts, piece by piece
use Rattle.std.proofs.Common.{◌≡◌, ℕ, ◌+◌, ◌<◌, Bool, true, false, ◌||◌, ◌==◌, List, [], ◌∷◌, ◌++◌, length, take, get_or, cond, codes, if◌then◌else◌}
use Rattle.std.proofs.Common.{refl, sym, ap, ap₂, ◌∙◌, append-nil}
use Rattle.std.proofs.lemmas.Grind.{flat_map-append}
use Rattle.std.proofs.lemmas.List.{take_more}
use Rattle.text_pieces.specs.Pieces.{Outlet, Takes}
use Rattle.text_pieces.proofs.sinks.Taking.{takes_as, takes_then}
use Rattle.text_pieces.specs.Strings.{escaped, escaped_byte}

pub escaped-append : (first second : List ℕ) → escaped (first ++ second) ≡ escaped first ++ escaped second
escaped-append first second = flat_map-append escaped_byte first second

-- two texts that were taken between quotes
pub shows_then : (text more : List ℕ) (first second third : Outlet) → Takes first second (escaped text) → Takes second third (escaped more)
    → Takes first third (escaped (text ++ more))
shows_then text more first second third one two = takes_as _ _ _ _ (takes_then _ _ _ _ _ one two) (sym (escaped-append text more))

-- a byte more
pub escaped_more : (bytes : List ℕ) (i : ℕ) → i < length bytes
    → escaped (take i bytes) ++ escaped_byte (get_or bytes i 0) ≡ escaped (take (i + 1) bytes)
escaped_more bytes i below =
    ap (λ t. escaped (take i bytes) ++ t) (sym (append-nil (escaped_byte (get_or bytes i 0))))
    ∙ sym (escaped-append (take i bytes) (get_or bytes i 0 ∷ []))
    ∙ ap escaped (sym (take_more bytes i 0 below))

-- a byte that needs no backslash
pub plain_more : (bytes : List ℕ) (i : ℕ) → i < length bytes → (get_or bytes i 0 == 34 || get_or bytes i 0 == 92) ≡ false
    → escaped (take i bytes) ≡ take i bytes → escaped (take (i + 1) bytes) ≡ take (i + 1) bytes
plain_more bytes i below plain before =
    sym (escaped_more bytes i below)
    ∙ ap₂ (λ a b. a ++ b) before (ap (λ t. cond t (92 ∷ get_or bytes i 0 ∷ []) (get_or bytes i 0 ∷ [])) plain)
    ∙ sym (take_more bytes i 0 below)

-- what stands between two callees needs no backslash
pub escaped_if : (others : Bool) → (if others then codes " | " else []) ≡ escaped (if others then codes " | " else [])
escaped_if true = refl
escaped_if false = refl
