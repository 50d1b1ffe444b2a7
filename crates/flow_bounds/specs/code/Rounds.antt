-- How far words are on their way.
use Rattle.std.specs.Prelude.{◌≡◌, ◌<◌, ℕ, List, length}
use Rattle.flow_bounds.specs.Rules.{Follows, HasBit, IsClosedUnder, IsRuleAt}
use Rattle.flow_bounds.specs.declared.rule.Rule.{Rule}

-- No bit is taken back, and there are as many words.
pub record Grow (old new : List ℕ) : Type 0 where
  pub count : length new ≡ length old
  pub bits : (x k : ℕ) → HasBit old x k → HasBit new x k

-- Each bit of the words follows.
pub record AreWithin (rules : List Rule) (given words : List ℕ) : Type 0 where
  pub follows : (cell bit : ℕ) → HasBit words cell bit → Follows rules given cell bit

-- They are closed under the rules before one.
abbrev pub AreClosedTo : List ℕ → List Rule → ℕ → Type 0
AreClosedTo words rules until = (i : ℕ) (rule : Rule) → i < until → IsRuleAt rules i rule → IsClosedUnder words rule
