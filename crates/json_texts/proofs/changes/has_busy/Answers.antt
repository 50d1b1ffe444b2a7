use Rattle.std.proofs.Common.{◌≡◌, ◌∙◌, ℕ, Bool, ◌&&◌, filter, ap, sym}
use Rattle.std.specs.List.{range_with_len}
use Rattle.flow_graph.specs.Universes.{bits}
use Rattle.flow_graph.specs.declared.analysis.Analysis.{Analysis}
use Rattle.flow_graph.specs.declared.analysis.Analysis.TheVariants.{Busy}
use Rattle.flow_reports.specs.Reports.{Knowledge}
use Rattle.flow_team.specs.Tables.{facts_of}
use Rattle.flow_texts.specs.Tables.{bits_at}
use Rattle.flow_views.specs.Views.{known_facts}
use Rattle.flow_views.specs.code.ViewProgram.{known_of}
use Rattle.tac_program.specs.Programs.{Program}
use Rattle.text_pieces.specs.code.Lists.{some_stand}
use Rattle.json_texts.proofs.changes.has_busy.Goals as goal

pub returns-then-tells_busy : goal.returns-then-tells_busy
returns-then-tells_busy c =
    let program : Program = c.args.shown.now.found.graph.now in
    let known : Knowledge = known_of c.args.shown.now in
    let point : ℕ = c.args.point in
    let told : ℕ → Bool = (facts_of c.args.table.now).contains point in
    let same : told ≡ known.busy.contains point =
    (c.requires.table.tells point c.requires.shows).set ∙ ap (λ (a : Analysis). (known_facts known a).contains point) c.requires.busy in
    let some : c.has_some.result ≡ some_stand (bits_at program Busy known.busy point) =
    c.has_some.ensures ∙ ap (λ (n : ℕ). some_stand (filter told (range_with_len 0 n))) c.bits-bits.ensures.count
    ∙ ap (λ (set : ℕ → Bool). some_stand (filter set (range_with_len 0 (bits program Busy)))) same in
    some ∙ sym (ap (λ (b : Bool). b && some_stand (bits_at program Busy known.busy point)) (sym c.tells_busy.ensures ∙ c.if-tells_busy.true))
