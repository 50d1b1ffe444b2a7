-- Lines that are safe, byte by byte
use Rattle.std.proofs.Common.{◌≡◌, ℕ, ◌+◌, ◌<◌, false, ◌==◌, List, [], ◌∷◌, ◌++◌, length, take, get_or, cond, codes, sym, ap, ap₂, ◌∙◌, append-nil}
use Rattle.std.proofs.lemmas.Grind.{flat_map-append}
use Rattle.std.proofs.lemmas.List.{take_more}
use Rattle.page_texts.specs.Pages.{safe, safe_byte}

-- a byte more
pub safe_more : (bytes : List ℕ) (i : ℕ) → i < length bytes
    → safe (take i bytes) ++ safe_byte (get_or bytes i 0) ≡ safe (take (i + 1) bytes)
safe_more bytes i below =
    ap (λ t. safe (take i bytes) ++ t) (sym (append-nil (safe_byte (get_or bytes i 0))))
    ∙ sym (flat_map-append safe_byte (take i bytes) (get_or bytes i 0 ∷ []))
    ∙ ap safe (sym (take_more bytes i 0 below))

-- a byte that stands for itself
pub plain_more : (bytes : List ℕ) (i : ℕ) → i < length bytes → (get_or bytes i 0 == 60) ≡ false
    → safe (take i bytes) ≡ take i bytes → safe (take (i + 1) bytes) ≡ take (i + 1) bytes
plain_more bytes i below plain before =
    sym (safe_more bytes i below)
    ∙ ap₂ (λ a b. a ++ b) before (ap (λ t. cond t (codes "\\u003c") (get_or bytes i 0 ∷ [])) plain)
    ∙ sym (take_more bytes i 0 below)
