-- The sets of a block meet the textbook's equation
use Rattle.std.proofs.Common.{◌≡◌, ◌∙◌, ℕ, zero, suc, ◌+◌, ◌-◌, ◌<◌, ◌≤◌, Bool, true, false, not, ◌&&◌, ◌||◌, List, Contains, if◌then◌else◌}
use Rattle.std.proofs.Common.{refl, sym, ap, subst, arith}
use Rattle.std.specs.List.{list_all, list_any, range_with_len}
use Rattle.tac_program.specs.Programs.{Program}
use Rattle.tac_program.specs.Sound.{IsSound}
use Rattle.flow_graph.specs.Analyses.{is_backward}
use Rattle.flow_graph.specs.Edges.{edges_from}
use Rattle.flow_graph.specs.Paths.{target_of}
use Rattle.flow_graph.specs.declared.edge.Edge.{Edge}
use Rattle.flow_graph.specs.Points.{point_count}
use Rattle.flow_graph.specs.Universes.{bits}
use Rattle.flow_graph.specs.declared.analysis.Analysis.{Analysis}
use Rattle.flow_graph.specs.declared.analysis.Analysis.TheVariants.{Reach, Live, Avail, Busy}
use Rattle.flow_graph.proofs.graphs.GraphLaws.{edges_join_points}
use Rattle.flow_reports.specs.Reports.{IsKnowledge, Knowledge}
use Rattle.flow_team.specs.Tables.{AreFacts, Facts}
use Rattle.flow_views.specs.Views.{known_facts}
use Rattle.point_sets.specs.Sets.{behind, has_behind, passes}
use Rattle.block_dots.specs.Blocks.{block_end, block_last, block_points, goes_on, is_leader}
use Rattle.block_dots.specs.BlockSets.{exposed_down, exposed_up, kills_some}
use Rattle.block_dots.specs.Laws.{BlocksMeetEquations, equation, passed_down, passed_up}
use Rattle.block_dots.proofs.control.Equations.{every_backward, every_forward, goes_on_before, listed_there, path_beyond, path_on}
use Rattle.block_dots.proofs.control.Equations.{plain_edges, some_backward, some_forward}
use Rattle.block_dots.proofs.points.Bounds.{all_behind, block_below, block_bounds, goes_on_there}
use Rattle.block_dots.proofs.sets.Exposed.{statements_compose}

are_known : (program : Program) (known : Knowledge) → IsKnowledge program known → (analysis : Analysis) → AreFacts program analysis
    (known_facts known analysis)
are_known program known is Reach = is.reach
are_known program known is Live = is.live
are_known program known is Avail = is.avail
are_known program known is Busy = is.busy

-- a path of a point goes on to the next one of its block
path_next : (program : Program) → IsSound program → (analysis : Analysis) (facts : Facts) → AreFacts program analysis facts
    → (point : ℕ) → suc point < point_count program → is_leader program (suc point) ≡ false → has_behind program point ≡ true
    → facts.has_path point ≡ true → facts.has_path (suc point) ≡ true
path_next program sound Reach facts are point below follows own has =
    (are.paths (suc point) below).1 (path_on program sound point below follows ((are.paths point (omega (arith, below))).0 has))
path_next program sound Live facts are point below follows own has =
    let here : point < point_count program = omega (arith, below) in
    (are.paths (suc point) below).1 (path_beyond program sound point here own (goes_on_before program point follows) ((are.paths point here).0 has))
path_next program sound Avail facts are point below follows own has =
    (are.paths (suc point) below).1 (path_on program sound point below follows ((are.paths point (omega (arith, below))).0 has))
path_next program sound Busy facts are point below follows own has =
    let here : point < point_count program = omega (arith, below) in
    (are.paths (suc point) below).1 (path_beyond program sound point here own (goes_on_before program point follows) ((are.paths point here).0 has))

module _ (program : Program) (sound : IsSound program) (bit : ℕ) where
  -- what stands behind a statement, where the next point goes on its block
  next_forward : (analysis : Analysis) → is_backward analysis ≡ false → (facts : Facts) → AreFacts program analysis facts
      → bit < bits program analysis
      → (point : ℕ) → suc point < point_count program → is_leader program (suc point) ≡ false → facts.has_path point ≡ true
      → facts.contains (suc point) bit ≡ passes program analysis point bit (facts.contains point bit)
  next_forward Reach is facts are there point below follows has =
      let here : point < point_count program = omega (arith, below) in
      some_forward program sound point below follows Reach bit ((are.paths point here).0 has) (facts.contains point bit)
      (facts.contains (suc point) bit)
      (are.sets point bit here there) (are.sets (suc point) bit below there)
  next_forward Live is facts are there point below follows has = absurd (cc is)
  next_forward Avail is facts are there point below follows has =
      let here : point < point_count program = omega (arith, below) in
      every_forward program sound point below follows Avail bit ((are.paths point here).0 has) (facts.contains point bit)
      (facts.contains (suc point) bit)
      (are.sets point bit here there) (are.sets (suc point) bit below there)
  next_forward Busy is facts are there point below follows has = absurd (cc is)

  passed_forward : (analysis : Analysis) → is_backward analysis ≡ false → (facts : Facts) (point : ℕ) → facts.has_path point ≡ true
      → behind program analysis facts point bit ≡ passes program analysis point bit (facts.contains point bit)
  passed_forward Reach is facts point has =
      ap (λ (b : Bool). if b then passes program Reach point bit (facts.contains point bit) else facts.contains point bit) has
  passed_forward Live is facts point has = absurd (cc is)
  passed_forward Avail is facts point has =
      ap (λ (b : Bool). if b then passes program Avail point bit (facts.contains point bit) else facts.contains point bit) has
  passed_forward Busy is facts point has = absurd (cc is)

  -- what stands before a statement that is no call
  target_below : (point : ℕ) → point < point_count program → (edge : Edge) → Contains (edges_from program point) edge
      → target_of edge < point_count program
  target_below point below edge among = (edges_join_points program sound edge (listed_there program point edge below among)).target

  before_backward : (analysis : Analysis) → is_backward analysis ≡ true → (facts : Facts) → AreFacts program analysis facts
      → bit < bits program analysis
      → (point : ℕ) → point < point_count program → has_behind program point ≡ true → facts.has_path point ≡ true
      → facts.contains point bit ≡ passes program analysis point bit (behind program analysis facts point bit)
  before_backward Reach is facts are there point below own has = absurd (cc is)
  before_backward Live is facts are there point below own has =
      some_backward program sound point below own Live bit ((are.paths point below).0 has) (λ p. facts.contains p bit)
      (are.sets point bit below there)
      (λ edge among. are.sets (target_of edge) bit (target_below point below edge among) there)
  before_backward Avail is facts are there point below own has = absurd (cc is)
  before_backward Busy is facts are there point below own has =
      every_backward program sound point below own Busy bit ((are.paths point below).0 has) (λ p. facts.contains p bit)
      (are.sets point bit below there)
      (λ edge among. are.sets (target_of edge) bit (target_below point below edge among) there)

  alone_or : (b : Bool) → (b || false) ≡ b
  alone_or true = refl
  alone_or false = refl

  alone_and : (b : Bool) → (b && true) ≡ b
  alone_and true = refl
  alone_and false = refl

  behind_plain : (analysis : Analysis) → is_backward analysis ≡ true → (facts : Facts) (point : ℕ) → goes_on program point ≡ true
      → behind program analysis facts point bit ≡ facts.contains (suc point) bit
  behind_plain Reach is facts point plain = absurd (cc is)
  behind_plain Live is facts point plain =
      ap (λ (es : List Edge). list_any (λ edge. facts.contains (target_of edge) bit) es) (plain_edges program point plain)
      ∙ alone_or (facts.contains (suc point) bit)
  behind_plain Avail is facts point plain = absurd (cc is)
  behind_plain Busy is facts point plain =
      ap (λ (es : List Edge). list_all (λ edge. facts.contains (target_of edge) bit) es) (plain_edges program point plain)
      ∙ alone_and (facts.contains (suc point) bit)

  -- along statements in a row
  module _ (analysis : Analysis) (contains : ℕ → Bool) where
    down_chain : (first n : ℕ)
        → ((point : ℕ) → first ≤ point → point < first + n → contains (suc point) ≡ passes program analysis point bit (contains point))
        → passed_down program analysis (range_with_len first (suc n)) bit (contains first)
        ≡ passes program analysis (first + n) bit (contains (first + n))
    down_chain first zero step =
        let same : first ≡ first + zero = omega arith in
        ap (λ (p : ℕ). passes program analysis p bit (contains p)) same
    down_chain first (suc n) step =
        let next : suc first ≡ first + 1 = omega arith in
        let far : first + 1 + n ≡ first + suc n = omega arith in
        ap (passed_down program analysis (range_with_len (first + 1) (suc n)) bit)
        (sym (step first (omega arith) (omega arith)) ∙ ap contains next)
        ∙ down_chain (first + 1) n (λ point from to. step point (omega (arith, from)) (omega (arith, to)))
        ∙ ap (λ (p : ℕ). passes program analysis p bit (contains p)) far

    up_chain : (first n : ℕ) (value : Bool)
        → ((point : ℕ) → first ≤ point → point < first + n → contains point ≡ passes program analysis point bit (contains (suc point)))
        → contains (first + n) ≡ passes program analysis (first + n) bit value
        → passed_up program analysis (range_with_len first (suc n)) bit value ≡ contains first
    up_chain first zero value step last =
        let same : first + zero ≡ first = omega arith in
        sym (subst (λ (p : ℕ). contains p ≡ passes program analysis p bit value) same last)
    up_chain first (suc n) value step last =
        let next : first + 1 ≡ suc first = omega arith in
        let far : first + suc n ≡ first + 1 + n = omega arith in
        ap (passes program analysis first bit)
        (up_chain (first + 1) n value (λ point from to. step point (omega (arith, from)) (omega (arith, to)))
        (subst (λ (p : ℕ). contains p ≡ passes program analysis p bit value) far last)
        ∙ ap contains next)
        ∙ sym (step first (omega arith) (omega arith))

  -- a block
  module _ (analysis : Analysis) (known : Knowledge) (is_known : IsKnowledge program known) (leader : ℕ) (below : leader < point_count program)
      (own : has_behind program leader ≡ true) (there : bit < bits program analysis)
      (begins : (known_facts known analysis).has_path leader ≡ true) where
    abbrev facts : Facts
    facts = known_facts known analysis

    bounds : leader < block_end program leader
    bounds = (block_bounds program leader below).0

    inner : ℕ
    inner = block_end program leader - leader - 1

    reaches : leader + inner ≡ block_last program leader
    unfolding inner
    reaches = omega (arith, bounds)

    many : block_end program leader - leader ≡ suc inner
    unfolding inner
    many = omega (arith, bounds)

    point_below : (point : ℕ) → point < block_end program leader → point < point_count program
    point_below point to = omega (arith, to, block_below program leader below)

    no_leader : (point : ℕ) → leader < point → point < block_end program leader → is_leader program point ≡ false
    no_leader point from to = ap not (goes_on_there program leader point below from to)

    behind_own : (point : ℕ) → leader ≤ point → point < block_end program leader → has_behind program point ≡ true
    behind_own point from to = all_behind program leader below own point from to

    -- a path of the first point goes through all
    paths_on : (n : ℕ) → leader + n < block_end program leader → facts.has_path (leader + n) ≡ true
    paths_on zero to =
        let same : leader ≡ leader + zero = omega arith in
        subst (λ (p : ℕ). facts.has_path p ≡ true) same begins
    paths_on (suc n) to =
        let point : ℕ = leader + n in
        let next : suc point ≡ leader + suc n = omega arith in
        let inside : suc point < block_end program leader = omega (arith, to) in
        let follows : is_leader program (suc point) ≡ false = no_leader (suc point) (omega arith) inside in
        subst (λ (p : ℕ). facts.has_path p ≡ true) next
        (path_next program sound analysis facts (are_known program known is_known analysis) point (point_below (suc point) inside) follows
        (behind_own point (omega arith) (omega (arith, inside))) (paths_on n (omega (arith, to))))

    path_at : (point : ℕ) → leader ≤ point → point < block_end program leader → facts.has_path point ≡ true
    path_at point from to =
        let same : leader + (point - leader) ≡ point = omega (arith, from) in
        subst (λ (p : ℕ). facts.has_path p ≡ true) same (paths_on (point - leader) (omega (arith, from, to)))

    forwards : is_backward analysis ≡ false → behind program analysis facts (block_last program leader) bit
        ≡ (exposed_down program analysis (block_points program leader) bit
        || (facts.contains leader bit && not (kills_some program analysis (block_points program leader) bit)))
    forwards is =
        let last : ℕ = block_last program leader in
        passed_forward analysis is facts last (path_at last (omega (arith, bounds)) (omega (arith, bounds)))
        ∙ ap (λ (p : ℕ). passes program analysis p bit (facts.contains p bit)) (sym reaches)
        ∙ sym (down_chain analysis (λ p. facts.contains p bit) leader inner
        (λ point from to. next_forward analysis is facts (are_known program known is_known analysis) there point
        (point_below (suc point) (omega (arith, to, reaches, bounds)))
        (no_leader (suc point) (omega (arith, from)) (omega (arith, to, reaches, bounds)))
        (path_at point from (omega (arith, to, reaches, bounds)))))
        ∙ ap (λ (n : ℕ). passed_down program analysis (range_with_len leader n) bit (facts.contains leader bit)) (sym many)
        ∙ (statements_compose program analysis (block_points program leader) bit (facts.contains leader bit)).0

    backwards : is_backward analysis ≡ true → facts.contains leader bit
        ≡ (exposed_up program analysis (block_points program leader) bit
        || (behind program analysis facts (block_last program leader) bit && not (kills_some program analysis (block_points program leader) bit)))
    backwards is =
        let last : ℕ = block_last program leader in
        let value : Bool = behind program analysis facts last bit in
        let last_is : facts.contains last bit ≡ passes program analysis last bit value =
        before_backward analysis is facts (are_known program known is_known analysis) there last (point_below last (omega (arith, bounds)))
        (behind_own last (omega (arith, bounds)) (omega (arith, bounds))) (path_at last (omega (arith, bounds)) (omega (arith, bounds))) in
        sym (up_chain analysis (λ p. facts.contains p bit) leader inner value
        (λ point from to.
        let inside : suc point < block_end program leader = omega (arith, to, reaches, bounds) in
        before_backward analysis is facts (are_known program known is_known analysis) there point (point_below point (omega (arith, inside)))
        (behind_own point from (omega (arith, inside))) (path_at point from (omega (arith, inside)))
        ∙ ap (passes program analysis point bit)
        (behind_plain analysis is facts point (goes_on_before program point (no_leader (suc point) (omega (arith, from)) inside))))
        (subst (λ (p : ℕ). facts.contains p bit ≡ passes program analysis p bit value) (sym reaches) last_is))
        ∙ ap (λ (n : ℕ). passed_up program analysis (range_with_len leader n) bit value) (sym many)
        ∙ (statements_compose program analysis (block_points program leader) bit value).1

    by_direction : (b : Bool) → is_backward analysis ≡ b → equation b program analysis known leader bit
    by_direction true is =
        backwards is
        ∙ ap (λ (b : Bool). (if b then exposed_up program analysis (block_points program leader) bit
        else exposed_down program analysis (block_points program leader) bit)
        || (behind program analysis facts (block_last program leader) bit && not (kills_some program analysis (block_points program leader) bit)))
        (sym is)
    by_direction false is =
        forwards is
        ∙ ap (λ (b : Bool). (if b then exposed_up program analysis (block_points program leader) bit
        else exposed_down program analysis (block_points program leader) bit)
        || (facts.contains leader bit && not (kills_some program analysis (block_points program leader) bit))) (sym is)

pub blocks_meet_equations : BlocksMeetEquations
blocks_meet_equations program analysis known leader bit sound is_known below leads own there begins =
    by_direction program sound bit analysis known is_known leader below own there begins (is_backward analysis) refl
