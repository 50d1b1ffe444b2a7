use Rattle.std.proofs.Common.{◌∙◌, ◌+◌, ◌++◌, List, ℕ, ap, append_assoc, flat_map}
use Rattle.std.specs.List.{range_with_len}
use Rattle.flow_rounds.specs.code.Frames.{iteration_of}
use Rattle.flow_steps.specs.StepTexts.{round_line, start_line}
use Rattle.flow_steps.proofs.told.Same.{same_start}
use Rattle.flow_steps.proofs.lines.push_analysis.Goals as goal

pub returns : goal.returns
returns c =
    let rounds = c.in_ok-push_rounds.ensures in
    let start = c.in_ok-push_start.ensures ∙ ap (λ (t : List ℕ). c.args.text.now.items ++ t)
    (same_start c.args.frame.now c.in_ok-columns.columns c.in_ok-columns.ensures c.requires) in
    record {
      last = rounds.last;
      is_last = rounds.is_last;
      is_text = rounds.is_text
          ∙ ap (λ (t : List ℕ). t ++ flat_map (round_line (iteration_of c.args.frame.now)) (range_with_len 0 (rounds.last + 1))) start
          ∙ append_assoc c.args.text.now.items (start_line (iteration_of c.args.frame.now))
          (flat_map (round_line (iteration_of c.args.frame.now)) (range_with_len 0 (rounds.last + 1)));
    }
