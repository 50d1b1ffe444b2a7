-- The words of a slice: the bits within it, and the solution at a point
use Rattle.std.proofs.Common.{◌≡◌, ◌<◌, ◌≤◌, ◌+◌, ◌*◌, ◌↔◌, inl, inr, ◌&&◌, length, get_or, true, Bool, ℕ, List, [], arith, sym, ◌∙◌, ap}
use Rattle.std.proofs.Common.{nat_le, nat_lt, take, drop, ◌++◌}
use Rattle.std.proofs.lemmas.Grind.{common_steps}
use Rattle.std.proofs.lemmas.Bool.{lt-ltb, ltb-true, le-leb, leb-true, and_parts, and_from}
use Rattle.bit_rows.specs.Words.{has_bit}
use Rattle.flow_links.specs.Shapes.{directed_shape}
use Rattle.summary_equations.specs.Equations.{IsInSolution}
use Rattle.gk_solve.specs.Tables.Brought.{AreExactBrought}
use Rattle.gk_solve.specs.Tables.Groups.{AreCompleteSummaries, AreSoundSummaries, IsGroupFrame, group_of, summary_at}
use Rattle.gk_solve.specs.Tables.Solutions.{AreInSlice, IsSolutionAt}
use Rattle.gk_solve.specs.declared.group_frame.GroupFrame.{GroupFrame}
use Rattle.gk_solve.specs.declared.summary.Summary.{Summary}

-- a place that is 1 where a bit is at least the first limit and below the second
pub within_bit : (bit : Bool) (n lo hi : ℕ) → bit ≡ (nat_le lo n && nat_lt n hi) → (bit ≡ true) ↔ ((lo ≤ n) × (n < hi))
within_bit bit n lo hi is = (
  λ has. let parts = and_parts (nat_le lo n) (nat_lt n hi) (sym is ∙ has) in (leb-true lo n parts.0, ltb-true n hi parts.1),
  λ h. is ∙ and_from (nat_le lo n) (nat_lt n hi) (le-leb lo n h.0) (lt-ltb n hi h.1),
)

-- the solution at a point, from exact tables
module _ (width : ℕ) (frame : GroupFrame) (is : IsGroupFrame width frame) {W : ℕ} (table : List (Summary W)) (brought : List (List ℕ))
    (sound : AreSoundSummaries (group_of frame width) table) (complete : AreCompleteSummaries (group_of frame width) table)
    (exact : AreExactBrought (group_of frame width) brought) where
  pub solution_is : (x : ℕ) (lo hi : ℕ) (within row solution : List ℕ) (here : Summary W) → here ≡ summary_at table x
      → row ≡ get_or brought ((directed_shape frame.links.now).procedure_of x) [] → AreInSlice width frame.first lo hi within
      → IsSolutionAt (group_of frame width) frame.paths.now x here.preserved here.generated row within solution
      → (w k : ℕ) → w < width → k < 64 → (has_bit (get_or solution w 0) k ≡ true)
      ↔ ((lo ≤ 64 * (frame.first + w) + k) × (64 * (frame.first + w) + k < hi)
      × IsInSolution (directed_shape frame.links.now) ((group_of frame width).transfer w k) x)
  solution_is x lo hi within row solution here read read_row inside is_solution w k below low = (
    λ has.
        let parts = (is_solution w k below).0 has in
        let flag = (is.paths x).0 parts.0 in
        let range = (inside w k below low).0 parts.1 in (
          range.0,
          range.1,
          (
            flag,
            elim parts.2 [
              | inl generated ↦ inl ((sound w below).1 x k low (sym (ap (λ (s : Summary W). has_bit (get_or s.generated w 0) k) read) ∙ generated))
              | inr both ↦ inr (
                (exact w ((directed_shape frame.links.now).procedure_of x) k below low).0
                    (sym (ap (λ (r : List ℕ). has_bit (get_or r w 0) k) read_row) ∙ both.0),
                (sound w below).0 x k low (sym (ap (λ (s : Summary W). has_bit (get_or s.preserved w 0) k) read) ∙ both.1),
              )
            ],
          ),
        ),
    λ in_slice.
        let solved = in_slice.2 in
        (is_solution w k below).1 (
          (is.paths x).1 solved.0,
          (inside w k below low).1 (in_slice.0, in_slice.1),
          elim solved.1 [
            | inl generated ↦ inl (ap (λ (s : Summary W). has_bit (get_or s.generated w 0) k) read ∙ (complete w x k below low solved.0).1 generated)
            | inr both ↦ inr (
              ap (λ (r : List ℕ). has_bit (get_or r w 0) k) read_row
                  ∙ (exact w ((directed_shape frame.links.now).procedure_of x) k below low).1 both.0,
              ap (λ (s : Summary W). has_bit (get_or s.preserved w 0) k) read ∙ (complete w x k below low solved.0).0 both.1,
            )
          ],
        ),
  )

-- a list written over as a whole
pub written_over : {A : Type 0} (len : ℕ) (new old : List A) → len ≡ length old → length new ≡ length old
    → take len (new ++ drop (length new) old) ≡ new
written_over len new old is_len same = grind (arith, common_steps)
