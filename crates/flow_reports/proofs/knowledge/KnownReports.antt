-- What a report reads of the facts: answers to that make the report of all that is known.
use Rattle.std.proofs.Common.{◌≡◌, ◌↔◌, ◌⊎◌, ◌∙◌, ℕ, zero, suc, ◌+◌, ◌*◌, ◌/◌, ◌<◌, ◌≤◌, Bool, true, false, not, ◌&&◌, List, [], ◌∷◌, ◌++◌, length, map}
use Rattle.std.proofs.Common.{flat_map, cond, Option, Some, None, option_and_then, option_map, position, unwrap_or, slice_get, slice_index}
use Rattle.std.proofs.Common.{slice_index_or, if◌then◌else◌}
use Rattle.std.proofs.Common.{inl, inr, refl, sym, ap, ap₂, subst, arith}
use Rattle.std.specs.List.{filter, list_any, range_with_len}
use Rattle.std.proofs.lemmas.List.Concat.{flat_map-cons}
use Rattle.std.proofs.lemmas.Option.{slice_get-get_or}
use Rattle.std.proofs.lemmas.Bool.Decides.{same_from_decides}
use Rattle.flow_graph.specs.Analyses.{IsInTable}
use Rattle.flow_graph.specs.Points.{kind_at, point_count}
use Rattle.flow_graph.specs.Transfers.{names_variable, operands_of, reads}
use Rattle.flow_graph.specs.Universes.{bits, evaluated_at, expression_of, expressions, same_expression}
use Rattle.flow_graph.specs.declared.analysis.Analysis.{Analysis}
use Rattle.flow_graph.specs.declared.analysis.Analysis.TheVariants.{Reach, Live, Avail, Busy}
use Rattle.flow_graph.proofs.places.Standing.{stands}
use Rattle.summary_equations.proofs.tables.ProgramTables.{tables_are_decided}
use Rattle.tac_program.specs.Programs.{Program}
use Rattle.tac_program.specs.Sound.{IsSound}
use Rattle.tac_program.specs.declared.program.StmtKind.{StmtKind}
use Rattle.flow_team.specs.Tables.{AreFacts, Facts}
use Rattle.flow_reports.specs.Reports.{IsKnowledge, Knowledge, busy_at, computed_at, count_line, dead_at, lines_at, remark_line}
use Rattle.report_answers.specs.Statements.{assigned, is_test}
use Rattle.flow_reports.specs.Reports.{remarks_at, remarks_when_reached, report_of, unset_at}
use Rattle.flow_texts.specs.Tables.{bits_at}
use Rattle.report_answers.specs.code.Busy.{IsBusy}
use Rattle.report_answers.specs.code.Chosen.{blank_query, wanted_query, wants, wants_word}
use Rattle.flow_reports.specs.code.Findings.{AreChosenFindings, AreFindings, TellDoubtful, knowledge_of}
use Rattle.report_answers.specs.code.Reported.{AreQueriedAt, TellChosen, no_places}
use Rattle.report_answers.specs.code.Answered.{query_for, facts_in}
use Rattle.report_answers.specs.declared.chosen_bits.ChosenBits.{ChosenBits}
use Rattle.report_answers.specs.declared.chosen_bits.ChosenBits.TheVariants as choice
use Rattle.flow_reports.specs.declared.findings.Findings.{Findings}
use Rattle.flow_reports.specs.declared.remark.Remark.TheVariants.{NeverReached, Unset, Computed, VeryBusy, Dead}
use Rattle.report_answers.specs.declared.report_queries.PointQueries.{PointQueries}
use Rattle.report_answers.proofs.queries.Statements.{assigned_there, evaluated_there, next_below, read_there, variables_have_dummies}
use Rattle.report_answers.proofs.queries.Answered.{bit_known}
use Rattle.report_answers.proofs.busy.Lists.{busy_known}

-- which of two it is
is_left : {A B : Type 0} → A ⊎ B → Bool
is_left (inl a) = true
is_left (inr b) = false

answered : {A : Type 0} (decided : A ⊎ (¬ A)) → (is_left decided ≡ true) ↔ A
unfolding is_left
answered (inl a) = (λ is. a, λ has. refl)
answered (inr none) = (λ is. absurd (cc is), λ has. absurd (none has))

-- the facts of an analysis of a sound program, by what decides them
pub decided_facts : (program : Program) → IsSound program → Analysis → Facts
decided_facts program sound analysis = record {
  has_path = λ point. is_left (tables_are_decided program analysis point 0 sound).0;
  contains = λ point bit. is_left (tables_are_decided program analysis point bit sound).1;
}

decided_facts_are : (program : Program) (sound : IsSound program) (analysis : Analysis)
    → AreFacts program analysis (decided_facts program sound analysis)
unfolding decided_facts is_left
decided_facts_are program sound analysis = record {
  paths = λ point below. answered (tables_are_decided program analysis point 0 sound).0;
  sets = λ point bit below within. answered (tables_are_decided program analysis point bit sound).1;
}

same_filter : (p q : ℕ → Bool) (a n : ℕ) → ((k : ℕ) → a ≤ k → k < a + n → p k ≡ q k) → filter p (range_with_len a n) ≡ filter q (range_with_len a n)
same_filter p q a zero same = refl
same_filter p q a (suc n) same =
    let rest : filter p (range_with_len (a + 1) n) ≡ filter q (range_with_len (a + 1) n) =
    same_filter p q (a + 1) n (λ k from to. same k (omega (arith, from)) (omega (arith, to))) in
    ap (λ b. cond b (a ∷ filter p (range_with_len (a + 1) n)) (filter p (range_with_len (a + 1) n))) (same a (omega arith) (omega arith))
    ∙ ap (λ ks. cond (q a) (a ∷ ks) ks) rest

-- texts that are the same at each number of a range
pub same_texts : (f g : ℕ → List ℕ) (a n : ℕ) → ((k : ℕ) → a ≤ k → k < a + n → f k ≡ g k)
    → flat_map f (range_with_len a n) ≡ flat_map g (range_with_len a n)
same_texts f g a zero same = refl
same_texts f g a (suc n) same =
    let rest : flat_map f (range_with_len (a + 1) n) ≡ flat_map g (range_with_len (a + 1) n) =
    same_texts f g (a + 1) n (λ k from to. same k (omega (arith, from)) (omega (arith, to))) in
    flat_map-cons f a (range_with_len (a + 1) n)
    ∙ ap (λ t. t ++ flat_map f (range_with_len (a + 1) n)) (same a (omega arith) (omega arith))
    ∙ ap (λ t. g a ++ t) rest
    ∙ sym (flat_map-cons g a (range_with_len (a + 1) n))

-- two that know the same of what a report reads
pub record Agree (program : Program) (one other : Knowledge) : Type 0 where
  pub flags : (point : ℕ) → point < point_count program → one.reach.has_path point ≡ other.reach.has_path point
  pub unset : (point variable : ℕ) → point < point_count program → reads program point variable ≡ true
      → one.reach.contains point variable ≡ other.reach.contains point variable
  pub computed : (point bit : ℕ) → point < point_count program → evaluated_at program point ≡ Some bit
      → one.avail.contains point bit ≡ other.avail.contains point bit
  pub busy : (point bit : ℕ) (kind : StmtKind) → point < point_count program → kind_at program point ≡ Some kind → is_test kind ≡ true
      → bit < bits program Busy
      → one.busy.contains point bit ≡ other.busy.contains point bit
  pub live : (point variable : ℕ) (kind : StmtKind) → point < point_count program → kind_at program point ≡ Some kind → assigned kind ≡ Some variable
      → one.live.contains (suc point) variable ≡ other.live.contains (suc point) variable
  pub doubtful : (point : ℕ) → point < point_count program → one.doubtful point ≡ other.doubtful point

-- two that know the same of what a report reads of chosen bits
pub record AgreeOn (chosen : ChosenBits) (program : Program) (one other : Knowledge) : Type 0 where
  pub flags : (point : ℕ) → point < point_count program → one.reach.has_path point ≡ other.reach.has_path point
  pub unset : (point variable : ℕ) → point < point_count program → reads program point variable ≡ true → wants chosen Reach variable ≡ true
      → one.reach.contains point variable ≡ other.reach.contains point variable
  pub computed : (point bit : ℕ) → point < point_count program → evaluated_at program point ≡ Some bit → wants chosen Avail bit ≡ true
      → one.avail.contains point bit ≡ other.avail.contains point bit
  pub busy : (point bit : ℕ) (kind : StmtKind) → point < point_count program → kind_at program point ≡ Some kind → is_test kind ≡ true
      → bit < bits program Busy → wants chosen Busy bit ≡ true
      → one.busy.contains point bit ≡ other.busy.contains point bit
  pub live : (point variable : ℕ) (kind : StmtKind) → point < point_count program → kind_at program point ≡ Some kind → assigned kind ≡ Some variable
      → wants chosen Live variable ≡ true
      → one.live.contains (suc point) variable ≡ other.live.contains (suc point) variable
  pub doubtful : (point : ℕ) → point < point_count program → one.doubtful point ≡ other.doubtful point

-- where all are chosen it is what a report reads
agree_on_all : (chosen : ChosenBits) (program : Program) (one other : Knowledge) → chosen ≡ choice.All → AgreeOn chosen program one other
    → Agree program one other
agree_on_all chosen program one other all agree =
    let on : (analysis : Analysis) (bit : ℕ) → wants chosen analysis bit ≡ true = λ analysis bit. ap (λ (c : ChosenBits). wants c analysis bit) all in
    record {
      flags = agree.flags;
      unset = λ point variable below reading. agree.unset point variable below reading (on Reach variable);
      computed = λ point bit below evaluated. agree.computed point bit below evaluated (on Avail bit);
      busy = λ point bit kind below at test there. agree.busy point bit kind below at test there (on Busy bit);
      live = λ point variable kind below at sets. agree.live point variable kind below at sets (on Live variable);
      doubtful = agree.doubtful;
    }

abbrev computed_by : ℕ → Knowledge → Option ℕ → List ℕ
computed_by point known (Some bit) = if known.avail.contains point bit then bit ∷ [] else []
computed_by point known None = []

abbrev busy_by : Program → ℕ → Knowledge → Bool → List ℕ
busy_by program point known test = if test && not (known.doubtful point) then bits_at program Busy known.busy point else []

abbrev dead_by : ℕ → Knowledge → Option ℕ → List ℕ
dead_by point known (Some v) = if not (known.doubtful (suc point)) && not (known.live.contains (suc point) v) then v ∷ [] else []
dead_by point known None = []

module _ (program : Program) (sound : IsSound program) (one other : Knowledge) (agree : Agree program one other) (point : ℕ)
    (below : point < point_count program) where
  unset_test : (variable : ℕ) (b : Bool) → reads program point variable ≡ b
      → (reads program point variable && one.reach.contains point variable) ≡ (reads program point variable && other.reach.contains point variable)
  unset_test variable true is = ap (λ c. reads program point variable && c) (agree.unset point variable below is)
  unset_test variable false is = ap (λ r. r && one.reach.contains point variable) is ∙ sym (ap (λ r. r && other.reach.contains point variable) is)

  pub same_unset : unset_at program one point ≡ unset_at program other point
  same_unset = same_filter (λ v. reads program point v && one.reach.contains point v) (λ v. reads program point v && other.reach.contains point v) 0
      (length program.variable_names)
      (λ v low high. unset_test v (reads program point v) refl)

  same_computed_by : (o : Option ℕ) → evaluated_at program point ≡ o → computed_by point one o ≡ computed_by point other o
  same_computed_by None is = refl
  same_computed_by (Some bit) is = ap (λ b. if b then bit ∷ [] else []) (agree.computed point bit below is)

  same_computed : computed_at program one point ≡ computed_at program other point
  same_computed = same_computed_by (evaluated_at program point) refl

  same_busy_test : (kind : StmtKind) → kind_at program point ≡ Some kind → (t : Bool) → is_test kind ≡ t
      → busy_by program point one t ≡ busy_by program point other t
  same_busy_test kind at false is = refl
  same_busy_test kind at true is =
      ap₂ (λ d xs. if true && not d then xs else []) (agree.doubtful point below)
      (same_filter (one.busy.contains point) (other.busy.contains point) 0 (bits program Busy)
      (λ bit low high. agree.busy point bit kind below at is (omega (arith, high))))

  same_busy_by : (o : Option StmtKind) → kind_at program point ≡ o
      → busy_by program point one (unwrap_or (option_map is_test o) false) ≡ busy_by program point other (unwrap_or (option_map is_test o) false)
  same_busy_by None at = refl
  same_busy_by (Some kind) at = same_busy_test kind at (is_test kind) refl

  same_busy : busy_at program one point ≡ busy_at program other point
  same_busy = same_busy_by (kind_at program point) refl

  same_dead_sets : (kind : StmtKind) → kind_at program point ≡ Some kind → (o : Option ℕ) → assigned kind ≡ o
      → dead_by point one o ≡ dead_by point other o
  same_dead_sets kind at None is = refl
  same_dead_sets kind at (Some v) is =
      let next : suc point < point_count program = omega (arith, next_below program point kind (stands program sound point kind below at)) in
      ap₂ (λ d l. if not d && not l then v ∷ [] else []) (agree.doubtful (suc point) next) (agree.live point v kind below at is)

  same_dead_by : (o : Option StmtKind) → kind_at program point ≡ o
      → dead_by point one (option_and_then assigned o) ≡ dead_by point other (option_and_then assigned o)
  same_dead_by None at = refl
  same_dead_by (Some kind) at = same_dead_sets kind at (assigned kind) refl

  pub same_dead : dead_at program one point ≡ dead_at program other point
  same_dead = same_dead_by (kind_at program point) refl

  same_when_reached : remarks_when_reached program one point ≡ remarks_when_reached program other point
  same_when_reached = λ i.
      map (λ variable. Unset variable) (same_unset i) ++ map (λ bit. Computed bit) (same_computed i)
      ++ map (λ bit. VeryBusy bit) (same_busy i) ++ map (λ variable. Dead variable) (same_dead i)

  -- the remarks of a point are the same
  pub same_remarks : remarks_at program one point ≡ remarks_at program other point
  same_remarks = λ i. elim (kind_at program point) [
    | Some statement ↦ if agree.flags point below i then same_when_reached i else NeverReached ∷ []
    | None ↦ []
  ]

-- and so is the report
pub same_report : (program : Program) (sound : IsSound program) (one other : Knowledge) → Agree program one other
    → report_of program one ≡ report_of program other
same_report program sound one other agree =
    ap (λ t. count_line program ++ t)
    (same_texts (lines_at program one) (lines_at program other) 0 (point_count program)
    (λ point from below. ap (flat_map (remark_line program point)) (same_remarks program sound one other agree point (omega (arith, below)))))

-- a truth that is told within bounds
within : {P : Type 0} (b : Bool) (bit limit : ℕ) → bit < limit → (b ≡ true) ↔ ((bit < limit) × P) → (b ≡ true) ↔ P
within b bit limit below is = ((λ has. (is.0 has).1), (λ p. is.1 (below, p)))

-- where no statement stands no expression is evaluated
none_evaluated : (program : Program) (point bit : ℕ) → kind_at program point ≡ None → ¬ (evaluated_at program point ≡ Some bit)
none_evaluated program point bit at is =
    cc (sym is ∙ ap (λ o. option_and_then (λ e. position (same_expression e) (expressions program)) (option_and_then expression_of o)) at)

-- findings of all bits are findings of what is chosen
pub chosen_findings : (found : Findings) → AreFindings found → AreChosenFindings found
chosen_findings found are = record {
  sound = are.sound;
  few = are.few;
  answers = subst (λ (chosen : ChosenBits). TellChosen chosen found.graph.now found.answers.now) (sym are.answers.same_bits) are.answers;
  doubts = are.doubts;
  expressions = are.expressions;
}

-- where the queries of a statement stand
queried_at : (found : Findings) → AreChosenFindings found → (point : ℕ) → point < point_count found.graph.now → (kind : StmtKind)
    → kind_at found.graph.now point ≡ Some kind
    → (places : PointQueries)
    × AreQueriedAt found.answers.now.chosen found.graph.now found.answers.now.replies.queries found.answers.now.tests places point kind
queried_at found are point below kind at =
    let places = slice_index_or found.answers.now.places point no_places in
    let there = slice_get-get_or found.answers.now.places point no_places (omega (arith, below, are.answers.count)) in
    (places, are.answers.queried point places kind there at)

-- what is told of a test's very busy expressions
pub busy_in : (found : Findings) → AreChosenFindings found → (point : ℕ) (kind : StmtKind) → point < point_count found.graph.now
    → kind_at found.graph.now point ≡ Some kind → is_test kind ≡ true → (bit : ℕ)
    → ((knowledge_of found).busy.contains point bit ≡ true) ↔ IsBusy found.answers.now.chosen found.graph.now point bit
busy_in found are point kind below at test bit =
    let places = slice_index_or found.answers.now.places point no_places in
    let there = slice_get-get_or found.answers.now.places point no_places (omega (arith, below, are.answers.count)) in
    let busy = found.answers.now.busy in
    let first : ℕ = slice_index busy.firsts places.test in
    busy_known found.answers.now.chosen found.graph.now point busy.words 0 first first bit (omega arith) (omega arith)
    (are.answers.busy places.test point ((are.answers.queried point places kind there at).test test))

-- of the bits of a word that is wanted it is whether they are in the table
pub busy_in_word : (found : Findings) → AreChosenFindings found → (point : ℕ) (kind : StmtKind) → point < point_count found.graph.now
    → kind_at found.graph.now point ≡ Some kind → is_test kind ≡ true → (word k : ℕ) → k < 64
    → wants_word found.answers.now.chosen Busy word ≡ true
    → ((knowledge_of found).busy.contains point (64 * word + k) ≡ true)
    ↔ ((64 * word + k < bits found.graph.now Busy) × IsInTable found.graph.now Busy point (64 * word + k))
busy_in_word found are point kind below at test word k small asked =
    let told = busy_in found are point kind below at test (64 * word + k) in
    let place : (64 * word + k) / 64 ≡ word = omega (arith, small) in
    let on : wants found.answers.now.chosen Busy (64 * word + k) ≡ true = ap (wants_word found.answers.now.chosen Busy) place ∙ asked in (
      (λ has. let is = told.0 has in (is.1, is.2)),
      (λ is. told.1 (on, is.0, is.1)),
    )

module _ (found : Findings) (are : AreChosenFindings found) (known : Knowledge) (is : IsKnowledge found.graph.now known) where
  -- a bit that was asked for is known
  same_bit : (analysis : Analysis) (facts : Facts) → AreFacts found.graph.now analysis facts → (point bit q : ℕ) → point < point_count found.graph.now
      → bit < bits found.graph.now analysis → wants found.answers.now.chosen analysis bit ≡ true
      → slice_get found.answers.now.replies.queries q ≡ Some (wanted_query found.answers.now.chosen analysis point bit)
      → (facts_in found.answers.now.replies analysis).contains point bit ≡ facts.contains point bit
  same_bit analysis facts facts_are point bit q below there on queried =
      let asked : slice_get found.answers.now.replies.queries q ≡ Some (query_for analysis point bit) =
      queried ∙ ap (λ (b : Bool). Some (if b then query_for analysis point bit else blank_query analysis point)) on in
      same_from_decides ((facts_in found.answers.now.replies analysis).contains point bit) (facts.contains point bit)
      (within ((facts_in found.answers.now.replies analysis).contains point bit) bit (bits found.graph.now analysis) there
      (bit_known found.graph.now found.answers.now.replies are.answers.answers analysis point bit q asked))
      (facts_are.sets point bit below there)

  same_unset_bit : (point variable : ℕ) → point < point_count found.graph.now → (o : Option StmtKind) → kind_at found.graph.now point ≡ o
      → list_any (names_variable variable) (unwrap_or (option_map operands_of o) []) ≡ true → wants found.answers.now.chosen Reach variable ≡ true
      → (knowledge_of found).reach.contains point variable ≡ known.reach.contains point variable
  same_unset_bit point variable below None at reading on = absurd (cc reading)
  same_unset_bit point variable below (Some kind) at reading on =
      let here = queried_at found are point below kind at in
      let queried = here.1.reads.all variable reading in
      let there = read_there found.graph.now point variable kind (stands found.graph.now are.sound point kind below at) reading in
      same_bit Reach known.reach is.reach point variable queried.0 below (omega (arith, there, variables_have_dummies found.graph.now)) on queried.1

  same_busy_bit : (point bit : ℕ) (kind : StmtKind) → point < point_count found.graph.now → kind_at found.graph.now point ≡ Some kind
      → is_test kind ≡ true → bit < bits found.graph.now Busy → wants found.answers.now.chosen Busy bit ≡ true
      → (knowledge_of found).busy.contains point bit ≡ known.busy.contains point bit
  same_busy_bit point bit kind below at test there on =
      let told = busy_in found are point kind below at test bit in
      same_from_decides ((knowledge_of found).busy.contains point bit) (known.busy.contains point bit)
      ((λ has. (told.0 has).2), (λ held. told.1 (on, there, held)))
      (is.busy.sets point bit below there)

  same_live_bit : (point variable : ℕ) (kind : StmtKind) → point < point_count found.graph.now → kind_at found.graph.now point ≡ Some kind
      → assigned kind ≡ Some variable → wants found.answers.now.chosen Live variable ≡ true
      → (knowledge_of found).live.contains (suc point) variable ≡ known.live.contains (suc point) variable
  same_live_bit point variable kind below at sets on =
      let here = queried_at found are point below kind at in
      let stand = stands found.graph.now are.sound point kind below at in
      let next : suc point ≡ point + 1 = omega arith in
      same_bit Live known.live is.live (suc point) variable here.0.assigned (omega (arith, next_below found.graph.now point kind stand))
      (assigned_there found.graph.now point variable kind stand sets) on
      (subst (λ (p : ℕ). slice_get found.answers.now.replies.queries here.0.assigned ≡ Some (wanted_query found.answers.now.chosen Live p variable))
      (sym next) (here.1.assigned variable sets))

  same_computed_bit : (point bit : ℕ) → point < point_count found.graph.now → (o : Option StmtKind) → kind_at found.graph.now point ≡ o
      → evaluated_at found.graph.now point ≡ Some bit → wants found.answers.now.chosen Avail bit ≡ true
      → (knowledge_of found).avail.contains point bit ≡ known.avail.contains point bit
  same_computed_bit point bit below (Some kind) at evaluated on =
      let here = queried_at found are point below kind at in
      same_bit Avail known.avail is.avail point bit here.0.evaluated below (evaluated_there found.graph.now point bit evaluated) on
      (here.1.evaluated bit evaluated)
  same_computed_bit point bit below None at evaluated on = absurd (none_evaluated found.graph.now point bit at evaluated)

  -- what was found agrees with what is known, as far as it is chosen
  pub agrees_on : TellDoubtful found.graph.now found.doubtful.items → AgreeOn found.answers.now.chosen found.graph.now (knowledge_of found) known
  agrees_on doubts = record {
    flags = λ point below. same_from_decides ((knowledge_of found).reach.has_path point) (known.reach.has_path point)
        (are.answers.answers.paths Reach point below) (is.reach.paths point below);
    unset = λ point variable below reading on. same_unset_bit point variable below (kind_at found.graph.now point) refl reading on;
    computed = λ point bit below evaluated on. same_computed_bit point bit below (kind_at found.graph.now point) refl evaluated on;
    busy = same_busy_bit;
    live = same_live_bit;
    doubtful = λ point below.
        same_from_decides ((knowledge_of found).doubtful point) (known.doubtful point) (doubts.each point below) (is.doubtful point below);
  }

-- what was found of all bits agrees with what is known
pub agrees : (found : Findings) → AreFindings found → (known : Knowledge) → IsKnowledge found.graph.now known
    → TellDoubtful found.graph.now found.doubtful.items → Agree found.graph.now (knowledge_of found) known
agrees found are known is doubts =
    agree_on_all found.answers.now.chosen found.graph.now (knowledge_of found) known are.answers.same_bits
    (agrees_on found (chosen_findings found are) known is doubts)

-- all that is known of a sound program
pub all_of : (found : Findings) → IsSound found.graph.now → Knowledge
all_of found sound = record {
  reach = decided_facts found.graph.now sound Reach;
  live = decided_facts found.graph.now sound Live;
  avail = decided_facts found.graph.now sound Avail;
  busy = decided_facts found.graph.now sound Busy;
  doubtful = (knowledge_of found).doubtful;
}

pub all_of_is_known : (found : Findings) (sound : IsSound found.graph.now) → TellDoubtful found.graph.now found.doubtful.items
    → IsKnowledge found.graph.now (all_of found sound)
unfolding all_of
all_of_is_known found sound doubts = record {
  reach = decided_facts_are found.graph.now sound Reach;
  live = decided_facts_are found.graph.now sound Live;
  avail = decided_facts_are found.graph.now sound Avail;
  busy = decided_facts_are found.graph.now sound Busy;
  doubtful = doubts.each;
}

-- all that is known
pub all_known : (found : Findings) → AreFindings found → Knowledge
all_known found are = all_of found are.sound

pub all_is_known : (found : Findings) (are : AreFindings found) → TellDoubtful found.graph.now found.doubtful.items
    → IsKnowledge found.graph.now (all_known found are)
unfolding all_known
all_is_known found are doubts = all_of_is_known found are.sound doubts

-- The report of what was found is that of all that is known.
pub report_of_all : (found : Findings) (are : AreFindings found) → TellDoubtful found.graph.now found.doubtful.items
    → report_of found.graph.now (knowledge_of found) ≡ report_of found.graph.now (all_known found are)
report_of_all found are doubts =
    same_report found.graph.now are.sound (knowledge_of found) (all_known found are)
    (agrees found are (all_known found are) (all_is_known found are doubts) doubts)
