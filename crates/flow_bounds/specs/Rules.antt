-- What follows by rules over cells, each of which has a word of 64 bits.
--
-- A rule gives a cell those bits that two others have. What follows is what is given, what the rules give, and nothing else: the least
-- words that have what is given and are closed under the rules (Kildall 1973; Horn clauses: Reps, Horwitz, Sagiv 1995).
use Rattle.std.specs.Prelude.{◌≡◌, ◌<◌, ℕ, true, List, Some, slice_get, slice_index}
use Rattle.bit_rows.specs.Words.{has_bit}
use Rattle.flow_bounds.specs.declared.rule.Rule.{Rule}

-- a cell's word has the bit
abbrev pub HasBit : List ℕ → ℕ → ℕ → Type 0
HasBit words cell bit = has_bit (slice_index words cell) bit ≡ true

-- the rule is one of these
abbrev pub IsRuleAt : List Rule → ℕ → Rule → Type 0
IsRuleAt rules i rule = slice_get rules i ≡ Some rule

-- what is given follows, and what a rule gives of what follows
pub data Follows (rules : List Rule) (given : List ℕ) : ℕ → ℕ → Type 0 where
  is_given : (cell bit : ℕ) → HasBit given cell bit → Follows rules given cell bit
  follows_by : (i : ℕ) (rule : Rule) (bit : ℕ) → IsRuleAt rules i rule → Follows rules given rule.first bit → Follows rules given rule.second bit
      → has_bit rule.mask bit ≡ true → Follows rules given rule.to bit

-- The words are closed under a rule, and under all of them.
abbrev pub IsClosedUnder : List ℕ → Rule → Type 0
IsClosedUnder words rule = (bit : ℕ) → HasBit words rule.first bit → HasBit words rule.second bit → has_bit rule.mask bit ≡ true → HasBit words rule.to bit

abbrev pub AreClosed : List Rule → List ℕ → Type 0
AreClosed rules words = (i : ℕ) (rule : Rule) → IsRuleAt rules i rule → IsClosedUnder words rule

-- The rules are of so many cells.
pub record IsRuleOf (cells : ℕ) (rule : Rule) : Type 0 where
  pub to : rule.to < cells
  pub first : rule.first < cells
  pub second : rule.second < cells

abbrev pub AreRulesOf : ℕ → List Rule → Type 0
AreRulesOf cells rules = (i : ℕ) (rule : Rule) → IsRuleAt rules i rule → IsRuleOf cells rule
