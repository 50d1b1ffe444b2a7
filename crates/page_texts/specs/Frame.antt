-- The frame around the lines: what the constants of the crate have. Who uses it needs none of its bytes.
use Rattle.std.specs.Prelude.{ℕ, List, ◌++◌}
use Rattle.page_texts.specs.declared.body.TheConstants.{BODY}
use Rattle.page_texts.specs.declared.script_facts.TheConstants.{SCRIPT_FACTS}
use Rattle.page_texts.specs.declared.script_keys.TheConstants.{SCRIPT_KEYS}
use Rattle.page_texts.specs.declared.script_layout.TheConstants.{SCRIPT_LAYOUT}
use Rattle.page_texts.specs.declared.script_lines.TheConstants.{SCRIPT_LINES}
use Rattle.page_texts.specs.declared.script_panes.TheConstants.{SCRIPT_PANES}
use Rattle.page_texts.specs.declared.script_rows.TheConstants.{SCRIPT_ROWS}
use Rattle.page_texts.specs.declared.script_steps.TheConstants.{SCRIPT_STEPS}
use Rattle.page_texts.specs.declared.style.TheConstants.{STYLE}

unfoldable pub style : List ℕ
style = STYLE.now

unfoldable pub body : List ℕ
body = BODY.now

unfoldable pub script_lines : List ℕ
script_lines = SCRIPT_LINES.now

unfoldable pub script_facts : List ℕ
script_facts = SCRIPT_FACTS.now

unfoldable pub script_layout : List ℕ
script_layout = SCRIPT_LAYOUT.now

unfoldable pub script_rows : List ℕ
script_rows = SCRIPT_ROWS.now

unfoldable pub script_panes : List ℕ
script_panes = SCRIPT_PANES.now

unfoldable pub script_steps : List ℕ
script_steps = SCRIPT_STEPS.now

unfoldable pub script_keys : List ℕ
script_keys = SCRIPT_KEYS.now

-- up to the element with the lines
abbrev pub before : List ℕ
before = style ++ body

-- from the end of that element on
abbrev pub behind : List ℕ
behind = script_lines ++ script_facts ++ script_layout ++ script_rows ++ script_panes ++ script_steps ++ script_keys
