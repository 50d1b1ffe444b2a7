-- Gen and kill of a may form, from the bits that a statement owns and those that it touches
use Rattle.std.proofs.Common.{◌≡◌, ℕ, ◌+◌, ◌*◌, ◌<◌, ◌≤◌, ◌⊎◌, Bool, true, false, not, ◌&&◌, Option, Some, None, option_map, slice_get}
use Rattle.std.proofs.Common.{unwrap_or, nat_eq, nat_lt, bit_and, inl, inr, refl, sym, ap, ap₂, ◌∙◌, arith}
use Rattle.std.proofs.lemmas.Bool.{cases_lt, and_right}
use Rattle.bit_rows.specs.Words.{has_bit}
use Rattle.bit_rows.proofs.words.WordBits.{has_bit-and}
use Rattle.tac_program.specs.Programs.{Program}
use Rattle.gen_kill.specs.code.Effects.{gen_from, kill_from, owns, touches}
use Rattle.flow_graph.specs.Problems.{IsWordOfTest, may_gens, may_kills}
use Rattle.flow_graph.specs.Transfers.{has_operand, is_made_at}
use Rattle.flow_graph.specs.Universes.{Definition, bits, definitions, expression_at, expressions}
use Rattle.flow_graph.specs.declared.analysis.Analysis.TheVariants.{Reach, Live, Avail, Busy}
use Rattle.flow_graph.specs.declared.analysis.Analysis.{Analysis}
use Rattle.flow_graph.specs.declared.expression.Expr.{Expr}
use Rattle.flow_graph.specs.Universes.{same_expression, target_at}
use Rattle.gen_kill.proofs.bits.SetWords.{nat_eq-sym}

-- ---- definitions: what is written and is no own one is killed
reach_kills : (d : Option Definition) (point : ℕ) (target : Option ℕ)
    → unwrap_or (option_map (λ d. unwrap_or (option_map (nat_eq d.0) target) false && not (is_made_at point d)) d) false
    ≡ (unwrap_or (option_map (λ x. unwrap_or (option_map (λ (d : Definition). nat_eq x d.0) d) false) target) false
    && not (unwrap_or (option_map (is_made_at point) d) false))
reach_kills None point None = refl
reach_kills None point (Some x) = refl
reach_kills (Some d) point None = refl
reach_kills (Some d) point (Some x) = ap (λ t. t && not (is_made_at point d)) (nat_eq-sym d.0 x)

-- ---- variables
live_kills : (bit : ℕ) (target : Option ℕ)
    → unwrap_or (option_map (nat_eq bit) target) false ≡ unwrap_or (option_map (λ x. nat_eq x bit) target) false
live_kills bit None = refl
live_kills bit (Some x) = nat_eq-sym bit x

-- ---- expressions, in the complement
avail_gens : (own touched : Bool) → (touched && not (own && not touched)) ≡ touched
avail_gens true true = refl
avail_gens true false = refl
avail_gens false true = refl
avail_gens false false = refl

busy_gens : (own touched : Bool) → ((touched && not own) && not own) ≡ (touched && not own)
busy_gens true true = refl
busy_gens true false = refl
busy_gens false true = refl
busy_gens false false = refl

touched_none : (target : Option ℕ) → unwrap_or (option_map (λ (x : ℕ). false) target) false ≡ false
touched_none None = refl
touched_none (Some x) = refl

touched_some : (e : Expr) (target : Option ℕ)
    → unwrap_or (option_map (λ x. unwrap_or (option_map (λ e. has_operand e x) (let o : Option Expr = Some e in o)) false) target) false
    ≡ unwrap_or (option_map (has_operand e) target) false
touched_some e None = refl
touched_some e (Some x) = refl

module _ (own : Expr → Bool) (target : Option ℕ) where
  abbrev touched : Option Expr → Bool
  touched e = unwrap_or (option_map (λ x. unwrap_or (option_map (λ e. has_operand e x) e) false) target) false

  abbrev owned : Option Expr → Bool
  owned e = unwrap_or (option_map own e) false

  abbrev touches_it : Expr → Bool
  touches_it e = unwrap_or (option_map (has_operand e) target) false

  avail_may_gens : (e : Option Expr)
      → (unwrap_or (option_map touches_it e) false && not (unwrap_or (option_map (λ e. own e && not (touches_it e)) e) false)) ≡ touched e
  avail_may_gens None = sym (touched_none target)
  avail_may_gens (Some e) = avail_gens (own e) (touches_it e) ∙ sym (touched_some e target)

  avail_may_kills : (e : Option Expr) → unwrap_or (option_map (λ e. own e && not (touches_it e)) e) false ≡ (owned e && not (touched e))
  avail_may_kills None = refl
  avail_may_kills (Some e) = ap (λ t. own e && not t) (sym (touched_some e target))

  busy_may_gens : (e : Option Expr)
      → (unwrap_or (option_map (λ e. touches_it e && not (own e)) e) false && not (owned e)) ≡ (touched e && not (owned e))
  busy_may_gens None = ap (λ t. t && true) (sym (touched_none target))
  busy_may_gens (Some e) = busy_gens (own e) (touches_it e) ∙ ap (λ t. t && not (own e)) (sym (touched_some e target))

pub may_gens_are : (program : Program) (analysis : Analysis) (point bit : ℕ)
    → may_gens (record { program = program; analysis = analysis }) point bit
    ≡ gen_from analysis (owns program analysis point bit) (touches program analysis point bit)
may_gens_are program Reach point bit = refl
may_gens_are program Live point bit = refl
may_gens_are program Avail point bit =
    avail_may_gens (λ e. unwrap_or (option_map (same_expression e) (expression_at program point)) false) (target_at program point)
    (slice_get (expressions program) bit)
may_gens_are program Busy point bit =
    busy_may_gens (λ e. unwrap_or (option_map (same_expression e) (expression_at program point)) false) (target_at program point)
    (slice_get (expressions program) bit)

pub may_kills_are : (program : Program) (analysis : Analysis) (point bit : ℕ)
    → may_kills (record { program = program; analysis = analysis }) point bit
    ≡ kill_from analysis (owns program analysis point bit) (touches program analysis point bit)
may_kills_are program Reach point bit = reach_kills (slice_get (definitions program) bit) point (target_at program point)
may_kills_are program Live point bit = live_kills bit (target_at program point)
may_kills_are program Avail point bit =
    avail_may_kills (λ e. unwrap_or (option_map (same_expression e) (expression_at program point)) false) (target_at program point)
    (slice_get (expressions program) bit)
may_kills_are program Busy point bit = refl

-- a word of a set, of its words without the limit and of the limit
pub is_word : (test : ℕ → Bool) (bits word value full : ℕ)
    → ((k : ℕ) → k < 64 → 64 * word + k < bits → has_bit value k ≡ test (64 * word + k))
    → ((k : ℕ) → k < 64 → has_bit full k ≡ nat_lt (64 * word + k) bits)
    → IsWordOfTest test bits word (bit_and value full)
is_word test bits word value full values limit k within =
    has_bit-and value full k ∙ ap (λ t. has_bit value k && t) (limit k within) ∙ by_place (cases_lt (64 * word + k) bits)
  where
    by_place : (64 * word + k < bits) ⊎ (bits ≤ 64 * word + k)
        → (has_bit value k && nat_lt (64 * word + k) bits) ≡ (nat_lt (64 * word + k) bits && test (64 * word + k))
    by_place (inl below) =
        let is : nat_lt (64 * word + k) bits ≡ true = grind arith in
        ap₂ ◌&&◌ (values k within below) is ∙ swapped (test (64 * word + k)) ∙ ap (λ t. t && test (64 * word + k)) (sym is)
      where
        swapped : (t : Bool) → (t && true) ≡ (true && t)
        swapped true = refl
        swapped false = refl
    by_place (inr past) =
        let is : nat_lt (64 * word + k) bits ≡ false = grind arith in
        and_right (has_bit value k) (nat_lt (64 * word + k) bits) is ∙ ap (λ t. t && test (64 * word + k)) (sym is)
