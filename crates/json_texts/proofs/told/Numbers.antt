-- Numbers of bits as texts
use Rattle.std.proofs.Common.{◌≡◌, ℕ, zero, suc, ◌+◌, ◌<◌, ◌≤◌, Bool, List, ◌∷◌, map, filter, codes, decimal}
use Rattle.std.proofs.Common.{length, refl, ap, ap₂, subst, ◌∙◌, arith}
use Rattle.std.specs.List.{range_with_len}
use Rattle.flow_graph.specs.Universes.{bits}
use Rattle.flow_graph.specs.declared.analysis.Analysis.{Analysis}
use Rattle.flow_texts.proofs.sets.ListTexts.{map-members}
use Rattle.flow_views.specs.Json.{array}
use Rattle.flow_views.specs.code.Names.{numbered}
use Rattle.flow_views.specs.declared.names.NameForm.{NameForm}
use Rattle.flow_views.specs.declared.names.NameForm.TheVariants.{Quoted}
use Rattle.flow_views.proofs.facts.Tables.{has_number}
use Rattle.json_texts.specs.Changes.{numbers_in}
use Rattle.tac_program.specs.Programs.{Program}
use Rattle.text_pieces.specs.code.Blocks.{HoldsTexts, SeparatedTexts}
use Rattle.text_pieces.specs.code.Lists.{text_at}

-- the numbers of an analysis's bits in a set, read from the block of all numbers
pub numbers_told : (program : Program) (analysis : Analysis) (form : NameForm) (numbers : SeparatedTexts) (set : ℕ → Bool) (count : ℕ) → form ≡ Quoted
    → HoldsTexts (codes ",") decimal (numbered form program) numbers → count ≡ bits program analysis
    → array (map (text_at numbers.texts) (filter set (range_with_len 0 count))) ≡ numbers_in program analysis set
numbers_told program analysis form numbers set count quotes held is =
    let all : HoldsTexts (codes ",") decimal (numbered Quoted program) numbers =
    subst (λ (f : NameForm). HoldsTexts (codes ",") decimal (numbered f program) numbers) quotes held in
    ap (λ n. array (map (text_at numbers.texts) (filter set (range_with_len 0 n)))) is
    ∙ ap array (map-members (text_at numbers.texts) decimal set 0 (bits program analysis)
    (λ n below. all.texts.each n (omega (arith, below, has_number program analysis))))

-- there is a number for each bit
pub enough_numbers : (program : Program) (analysis : Analysis) (form : NameForm) (numbers : SeparatedTexts) → form ≡ Quoted
    → HoldsTexts (codes ",") decimal (numbered form program) numbers → bits program analysis ≤ length numbers.texts
enough_numbers program analysis form numbers quotes held =
    omega (arith, held.texts.same_count, ap (λ (f : NameForm). numbered f program) quotes, has_number program analysis)

-- texts that agree on the numbers of a range
pub same_map : {A : Type 0} (f g : ℕ → A) (first n : ℕ) → ((k : ℕ) → k < first + n → f k ≡ g k)
    → map f (range_with_len first n) ≡ map g (range_with_len first n)
same_map f g first zero same = refl
same_map {A} f g first (suc n) same =
    ap₂ (λ (x : A) (xs : List A). x ∷ xs) (same first (omega arith)) (same_map f g (first + 1) n (λ k below. same k (omega (arith, below))))
