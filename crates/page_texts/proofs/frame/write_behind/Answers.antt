use Rattle.text_pieces.proofs.sinks.Taking.{takes_as, takes_then}
use Rattle.page_texts.proofs.frame.write_behind.Goals as goal

pub returns : goal.returns
returns g c =
    let lines = takes_as _ _ _ _ c.write.ensures c.script_lines.ensures in
    let facts = takes_then _ _ _ _ _ lines (takes_as _ _ _ _ c.write-2.ensures c.script_facts.ensures) in
    let layout = takes_then _ _ _ _ _ facts (takes_as _ _ _ _ c.write-3.ensures c.script_layout.ensures) in
    let rows = takes_then _ _ _ _ _ layout (takes_as _ _ _ _ c.write-4.ensures c.script_rows.ensures) in
    let panes = takes_then _ _ _ _ _ rows (takes_as _ _ _ _ c.write-5.ensures c.script_panes.ensures) in
    let steps = takes_then _ _ _ _ _ panes (takes_as _ _ _ _ c.write-6.ensures c.script_steps.ensures) in
    takes_then _ _ _ _ _ steps (takes_as _ _ _ _ c.write-7.ensures c.script_keys.ensures)
