use Rattle.std.proofs.Common.{List, ℕ, subst}
use Rattle.tac_program.specs.Programs.{Program}
use Rattle.flow_views.specs.code.ViewProgram.{AreShown, known_of}
use Rattle.block_dots.specs.BlockDots.{IsBlockDot, block_dot_of}
use Rattle.flow_views.specs.declared.view_program.ViewProgram.{ViewProgram}
use Rattle.flow_views.specs.declared.view.View.{View}
use Rattle.flow_views.proofs.facts.Known.{all_of, all_of_is, known_agrees, known_all}
use Rattle.block_dots.proofs.texts.SameBlocks.{same_block_dot}
use Rattle.block_dots.proofs.picture.BlockDotText.of.Goals as goal

pub returns : goal.returns
returns c =
    let shown : ViewProgram = c.in_ok-shown.shown in
    let are : AreShown shown = c.in_ok-shown.ensures.shown in
    let program : Program = shown.found.graph.now in
    let text : List ℕ = block_dot_of program (known_of shown) shown.view in
    subst (λ (p : Program). IsBlockDot p c.args.view text) c.in_ok-shown.ensures.program
    (subst (λ (v : View). IsBlockDot program v text) c.in_ok-shown.ensures.view
    record {
      known = all_of shown are;
      is_known = all_of_is shown are;
      is_text = same_block_dot program are.found.sound (known_of shown) (all_of shown are) (known_agrees shown are) shown.view.facts
          shown.view.procedure shown.view.look are.procedure (known_all shown are);
    })
