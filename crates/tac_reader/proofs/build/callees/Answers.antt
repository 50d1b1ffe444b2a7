use Rattle.std.proofs.Common.{◌≡◌, ◌≤◌, ◌∙◌, ◌++◌, length, map, ap, sym, arith}
use Rattle.std.proofs.lemmas.List.{length-map}
use Rattle.tac_program.specs.Programs.{number_of}
use Rattle.tac_lines.specs.Forms.{callees_of}
use Rattle.tac_lines.specs.Tokens.{spelling_of}
use Rattle.tac_lines.specs.code.Views.{token_view, tokens_view}
use Rattle.tac_lines.proofs.forms.CalleeCounts.{most_callees}
use Rattle.tac_reader.proofs.build.callees.Goals as goal

pub loop-token-init : goal.loop-token-init
loop-token-init c =
    let text = c.args.text.now in
    let items = c.deref-token-items.result.now in
    let called = callees_of (tokens_view text c.args.statement.tokens.now) in
    let all : tokens_view text items ≡ called = ap (tokens_view text) c.deref-token-items.ensures.value ∙ c.in_ok-cells.ensures.appended text
    ∙ ap (λ xs. tokens_view text xs ++ called) c.clear.ensures.items in
    let sizes : length (tokens_view text items) ≡ length items = length-map items (token_view text) in
    let most : length called ≤ 8 = most_callees (tokens_view text c.args.statement.tokens.now) in
    record {
      count = ap length c.new-callees.ensures;
      few = omega (arith, sym sizes ∙ ap length all, most);
      rest = ap (λ ns. ns ++ map (λ t. number_of c.args.procedures.now (spelling_of t)) (tokens_view text items)) c.new-callees.ensures
          ∙ ap (map (λ t. number_of c.args.procedures.now (spelling_of t))) all;
    }
