-- A buffer whose beginning is filled piece by piece.
use Rattle.std.proofs.Common.{◌≡◌, ℕ, ◌+◌, ◌-◌, ◌≤◌, List, ◌++◌, length, take, drop, ap, ap₂, sym, ◌∙◌, le_refl, drop_at, length-take-le, arith}
use Rattle.std.proofs.lemmas.List.{take_rest}
use Rattle.std.proofs.lemmas.Slice.{take-put_mid_below}
use borrow.Rule.Slice.PartMut.{put_mid, post_of}
use lib.Seq.{take-add, take-append-le}
use Rattle.std.proofs.Math.Seq.{take-append_seam}

-- After a write to the part from a on, the beginning is what stood before a and what was written there.
pub take_filled : (a k n : ℕ) (xs ys : List ℕ) → a ≤ length xs → n ≤ length ys → take (a + n) (put_mid a k xs ys) ≡ take a xs ++ take n ys
take_filled a k n xs ys within fits =
    let after = post_of a k xs in
    take-add a n (put_mid a k xs ys)
    ∙ ap₂ (λ u v. u ++ v) (take-put_mid_below a k xs ys a (le_refl _) within)
    (ap (take n) (drop_at (take a xs) (ys ++ after) a (length-take-le a xs within)) ∙ take-append-le n ys after fits)

-- The same, where the buffer is what a vector of so many elements holds.
pub take_written : (a k n len : ℕ) (xs ys old : List ℕ) → xs ≡ old → len ≡ length old → length (put_mid a k xs ys) ≡ length xs → a ≤ length xs
    → n ≤ length ys
    → take (a + n) (take len (put_mid a k xs ys ++ drop (length (put_mid a k xs ys)) old)) ≡ take a old ++ take n ys
take_written a k n len xs ys old is long same within fits =
    let rest = drop (length (put_mid a k xs ys)) old in
    ap (λ m. take (a + n) (take m (put_mid a k xs ys ++ rest))) (long ∙ ap length (sym is) ∙ sym same)
    ∙ ap (take (a + n)) (take-append_seam (put_mid a k xs ys) rest)
    ∙ take_filled a k n xs ys within fits
    ∙ ap (λ l. take a l ++ take n ys) is

-- A beginning, and a beginning of the rest.
pub take_further : (a n : ℕ) (xs : List ℕ) → take a xs ++ take n (take (length xs - a) (drop a xs)) ≡ take (a + n) xs
take_further a n xs = ap (λ u. take a xs ++ take n u) (take_rest xs a) ∙ sym (take-add a n xs)

-- A beginning, and so many more.
pub take_next : (a n : ℕ) (xs : List ℕ) → take a xs ++ take (a + n - a) (drop a xs) ≡ take (a + n) xs
take_next a n xs =
    let same : a + n - a ≡ n = omega arith in
    ap (λ m. take a xs ++ take m (drop a xs)) same ∙ sym (take-add a n xs)
