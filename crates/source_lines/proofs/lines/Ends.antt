-- A line is its content and its end
use Rattle.std.proofs.Common.{◌≡◌, ◌∙◌, inl, inr, ℕ, ◌==◌, Bool, true, false, List, [], ◌∷◌, ◌++◌, reverse, refl, sym, ap, append-nil, append_assoc}
use Rattle.std.proofs.Common.{if◌then◌else◌, arith}
use Rattle.std.proofs.lemmas.List.{reverse-append, reverse-reverse}
use Rattle.source_lines.specs.SourceLines.{without_line_end, without_return}
use Rattle.source_lines.specs.SourceLaws.{IsLineEnd, SourcesJoin}
use Rattle.tac_lines.proofs.lines.Lines.{lines_join}

reverse_onto : (b : ℕ) (bs : List ℕ) → reverse (b ∷ bs) ≡ reverse bs ++ b ∷ []
reverse_onto b bs = reverse-append (b ∷ []) bs

-- what stands before a line feed, and a carriage return before it
returned : (bs : List ℕ) → (end : List ℕ) × IsLineEnd end × (reverse bs ++ 10 ∷ [] ≡ reverse (without_return bs) ++ end)
returned [] = (10 ∷ [], inr (inl refl), refl)
returned (b ∷ bs) = by_test (b == 13) refl
  where
    by_test : (t : Bool) → (b == 13) ≡ t
        → (end : List ℕ) × IsLineEnd end × (reverse (b ∷ bs) ++ 10 ∷ [] ≡ reverse (if t then bs else b ∷ bs) ++ end)
    by_test true is =
        let same : b ≡ 13 = grind arith in (
          13 ∷ 10 ∷ [],
          inr (inr refl),
          ap (λ (t : List ℕ). t ++ 10 ∷ []) (reverse_onto b bs) ∙ append_assoc (reverse bs) (b ∷ []) (10 ∷ [])
              ∙ ap (λ n. reverse bs ++ n ∷ 10 ∷ []) same,
        )
    by_test false is = (10 ∷ [], inr (inl refl), refl)

ended : (bs : List ℕ) → (end : List ℕ) × IsLineEnd end × (reverse bs ≡ reverse (without_line_end bs) ++ end)
ended [] = ([], inl refl, refl)
ended (b ∷ bs) = by_test (b == 10) refl
  where
    by_test : (t : Bool) → (b == 10) ≡ t
        → (end : List ℕ) × IsLineEnd end × (reverse (b ∷ bs) ≡ reverse (if t then without_return bs else b ∷ bs) ++ end)
    by_test true is =
        let same : b ≡ 10 = grind arith in
        let (end, ends, rest) = returned bs in
        (end, ends, reverse_onto b bs ∙ ap (λ n. reverse bs ++ n ∷ []) same ∙ rest)
    by_test false is = ([], inl refl, sym (append-nil (reverse (b ∷ bs))))

pub sources_join : SourcesJoin
sources_join = (
  λ line.
      let (end, ends, is) = ended (reverse line) in
      (end, ends, sym (reverse-reverse line) ∙ is),
  lines_join,
)
