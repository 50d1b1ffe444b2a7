-- A list that was lent out of a vector and written over as a whole.
use Rattle.std.proofs.Common.{◌≡◌, ℕ, ◌++◌, List, length, take, drop, ap, ◌∙◌}
use Rattle.std.proofs.Math.Seq.{take-append_seam}

-- what is read of it is what was written
pub read_back : {A : Type 0} (n : ℕ) (new old : List A) → n ≡ length new → take n (new ++ drop (length new) old) ≡ new
read_back n new old is = ap (λ k. take k (new ++ drop (length new) old)) is ∙ take-append_seam new (drop (length new) old)
