-- The faults of names go by the cores of sections, but for where they stand.
use Rattle.std.proofs.Common.{◌≡◌, ℕ, Bool, true, false, List, [], ◌∷◌, ◌++◌, map, flat_map, drop, refl, sym, ap, ◌∙◌, codes, if◌then◌else◌}
use Rattle.std.proofs.lemmas.List.{map-append, drop-map}
use Rattle.tac_lines.specs.Tokens.{Token, spelling_of}
use Rattle.tac_program.specs.Names.{is_one_of}
use Rattle.tac_reader.specs.Sections.{Section, statements_of, labels_in, titles}
use Rattle.tac_lines.specs.Forms.{callees_of, jumps_of}
use Rattle.tac_reader.specs.Parses.{names_in}
use Rattle.tac_reader.specs.Faults.{repeated, unknown, jumps_in, callees_in, name_faults}
use Rattle.tac_lines.specs.LineFaults.{at}
use Rattle.tac_program.specs.Limits.{most_procedures}
use Rattle.tac_program.specs.declared.limits.Limits.{Limits}
use Rattle.tac_lines.specs.declared.fault.Fault.{Fault}
use Rattle.tac_lines.specs.declared.refusal.RefusalKind.{RefusalKind}
use Rattle.tac_lines.specs.declared.refusal.RefusalKind.TheVariants as kind
use Rattle.tac_reader.proofs.tokens.Bare.{erased, all_erased, names_erased, callees-erased, jumps-erased}
use Rattle.tac_reader.proofs.sections.Cores.{Core, core, core_titles, titles-erased, flat_map-through}

-- A fault without its place.
abbrev nowhere : Fault → Fault
nowhere f = record { kind = f.kind; place = 0 }

repeated-erased : (k : RefusalKind) (before : List (List ℕ)) (ts : List Token)
    → map nowhere (repeated k before ts) ≡ repeated k before (all_erased ts)
repeated-erased k before [] = refl
repeated-erased k before (t ∷ ts) = by_test (is_one_of (spelling_of t) before) (repeated-erased k (before ++ spelling_of t ∷ []) ts) where
  by_test : (b : Bool) → map nowhere (repeated k (before ++ spelling_of t ∷ []) ts) ≡ repeated k (before ++ spelling_of t ∷ []) (all_erased ts)
      → map nowhere ((if b then at k t.start else []) ++ repeated k (before ++ spelling_of t ∷ []) ts) ≡ (if b then at k 0 else [])
      ++ repeated k (before ++ spelling_of t ∷ []) (all_erased ts)
  by_test true e = ap (λ r. at k 0 ++ r) e
  by_test false e = e

unknown-erased : (k : RefusalKind) (known used : List Token) → map nowhere (unknown k known used) ≡ unknown k (all_erased known) (all_erased used)
unknown-erased k known [] = refl
unknown-erased k known (t ∷ ts) =
    by_test (is_one_of (spelling_of t) (names_in known)) (unknown-erased k known ts)
    ∙ ap (λ names. (if is_one_of (spelling_of t) names then [] else at k 0) ++ unknown k (all_erased known) (all_erased ts))
    (sym (names_erased known))
  where
    by_test : (b : Bool) → map nowhere (unknown k known ts) ≡ unknown k (all_erased known) (all_erased ts) → map nowhere
        ((if b then [] else at k t.start) ++ unknown k known ts) ≡ (if b then [] else at k 0) ++ unknown k (all_erased known) (all_erased ts)
    by_test true e = e
    by_test false e = ap (λ r. at k 0 ++ r) e

abbrev too_many : List Token → List Fault
too_many ts = flat_map (λ t. at kind.TooManyProcedures t.start) ts

too_many-erased : (ts : List Token) → map nowhere (too_many ts) ≡ too_many (all_erased ts)
too_many-erased [] = refl
too_many-erased (t ∷ ts) = ap (λ r. at kind.TooManyProcedures 0 ++ r) (too_many-erased ts)

abbrev no_main : List (List ℕ) → List Fault
no_main names = if is_one_of (codes "main") names then [] else at kind.NoMain 0

no_main-erased : (names : List (List ℕ)) → map nowhere (no_main names) ≡ no_main names
no_main-erased names = go (is_one_of (codes "main") names) where
  go : (b : Bool) → map nowhere (if b then [] else at kind.NoMain 0) ≡ (if b then [] else at kind.NoMain 0)
  go true = refl
  go false = refl

-- The faults of names, by cores.
abbrev core_faults : Limits → List Core → List Fault
core_faults limits cs =
    repeated kind.DuplicateProcedure [] (core_titles cs)
    ++ flat_map (λ c. repeated kind.DuplicateLabel [] c.labels) cs
    ++ flat_map (λ c. unknown kind.UnknownLabel c.labels (flat_map jumps_of c.statements)) cs
    ++ flat_map (λ c. unknown kind.UnknownProcedure (core_titles cs) (flat_map callees_of c.statements)) cs
    ++ flat_map (λ c. flat_map (λ ts. repeated kind.DuplicateCallee [] (callees_of ts)) c.statements) cs
    ++ no_main (names_in (core_titles cs))
    ++ too_many (drop (most_procedures limits) (core_titles cs))

map_seven : {A B : Type 0} (f : A → B) (a b c d e g h : List A)
    → map f (a ++ b ++ c ++ d ++ e ++ g ++ h) ≡ map f a ++ map f b ++ map f c ++ map f d ++ map f e ++ map f g ++ map f h
map_seven f a b c d e g h =
    map-append f (a ++ b ++ c ++ d ++ e ++ g) h
    ∙ ap (λ r. r ++ map f h)
    (map-append f (a ++ b ++ c ++ d ++ e) g
    ∙ ap (λ r. r ++ map f g)
    (map-append f (a ++ b ++ c ++ d) e
    ∙ ap (λ r. r ++ map f e) (map-append f (a ++ b ++ c) d
    ∙ ap (λ r. r ++ map f d) (map-append f (a ++ b) c ∙ ap (λ r. r ++ map f c) (map-append f a b)))))

-- Through the statements of a section.
through : (f : List Token → List Token) → ((ts : List Token) → f (all_erased ts) ≡ all_erased (f ts)) → (s : Section)
    → all_erased (flat_map f (statements_of s.body)) ≡ flat_map f (core s).statements
through f e s = flat_map-through erased f all_erased f (λ ts. sym (e ts)) (statements_of s.body)

faults-erased : (limits : Limits) (ss : List Section) → map nowhere (name_faults limits ss) ≡ core_faults limits (map core ss)
faults-erased limits ss =
    map_seven nowhere
    (repeated kind.DuplicateProcedure [] (titles ss))
    (flat_map (λ s. repeated kind.DuplicateLabel [] (labels_in s)) ss)
    (flat_map (λ s. unknown kind.UnknownLabel (labels_in s) (jumps_in s)) ss)
    (flat_map (λ s. unknown kind.UnknownProcedure (titles ss) (callees_in s)) ss)
    (flat_map (λ s. flat_map (λ c. repeated kind.DuplicateCallee [] (callees_of c)) (statements_of s.body)) ss)
    (no_main (names_in (titles ss)))
    (too_many (drop (most_procedures limits) (titles ss)))
    ∙ (λ i. a i ++ b i ++ c i ++ d i ++ e i ++ g i ++ h i)
  where
    ts : List Token
    ts = core_titles (map core ss)

    a : map nowhere (repeated kind.DuplicateProcedure [] (titles ss)) ≡ repeated kind.DuplicateProcedure [] (core_titles (map core ss))
    a = repeated-erased kind.DuplicateProcedure [] (titles ss) ∙ ap (repeated kind.DuplicateProcedure []) (titles-erased ss)

    b : map nowhere (flat_map (λ s. repeated kind.DuplicateLabel [] (labels_in s)) ss)
        ≡ flat_map (λ c. repeated kind.DuplicateLabel [] c.labels) (map core ss)
    b = flat_map-through nowhere (λ (s : Section). repeated kind.DuplicateLabel [] (labels_in s)) core (λ c. repeated kind.DuplicateLabel [] c.labels)
        (λ s. repeated-erased kind.DuplicateLabel [] (labels_in s)) ss

    c : map nowhere (flat_map (λ s. unknown kind.UnknownLabel (labels_in s) (jumps_in s)) ss)
        ≡ flat_map (λ c. unknown kind.UnknownLabel c.labels (flat_map jumps_of c.statements)) (map core ss)
    c = flat_map-through nowhere (λ (s : Section). unknown kind.UnknownLabel (labels_in s) (jumps_in s)) core
        (λ c. unknown kind.UnknownLabel c.labels (flat_map jumps_of c.statements))
        (λ s. unknown-erased kind.UnknownLabel (labels_in s) (jumps_in s)
        ∙ ap (unknown kind.UnknownLabel (all_erased (labels_in s))) (through jumps_of jumps-erased s)) ss

    d : map nowhere (flat_map (λ s. unknown kind.UnknownProcedure (titles ss) (callees_in s)) ss)
        ≡ flat_map (λ c. unknown kind.UnknownProcedure (core_titles (map core ss)) (flat_map callees_of c.statements)) (map core ss)
    d = flat_map-through nowhere (λ (s : Section). unknown kind.UnknownProcedure (titles ss) (callees_in s)) core
        (λ c. unknown kind.UnknownProcedure (core_titles (map core ss)) (flat_map callees_of c.statements))
        (λ s. unknown-erased kind.UnknownProcedure (titles ss) (callees_in s)
        ∙ (λ i. unknown kind.UnknownProcedure (titles-erased ss i) (through callees_of callees-erased s i))) ss

    e : map nowhere (flat_map (λ s. flat_map (λ c. repeated kind.DuplicateCallee [] (callees_of c)) (statements_of s.body)) ss)
        ≡ flat_map (λ c. flat_map (λ ts. repeated kind.DuplicateCallee [] (callees_of ts)) c.statements) (map core ss)
    e = flat_map-through nowhere (λ (s : Section). flat_map (λ c. repeated kind.DuplicateCallee [] (callees_of c)) (statements_of s.body)) core
        (λ c. flat_map (λ ts. repeated kind.DuplicateCallee [] (callees_of ts)) c.statements)
        (λ s. flat_map-through nowhere (λ c. repeated kind.DuplicateCallee [] (callees_of c)) all_erased
        (λ c. repeated kind.DuplicateCallee [] (callees_of c))
        (λ c. repeated-erased kind.DuplicateCallee [] (callees_of c)
        ∙ ap (repeated kind.DuplicateCallee []) (sym (callees-erased c))) (statements_of s.body)) ss

    g : map nowhere (no_main (names_in (titles ss))) ≡ no_main (names_in (core_titles (map core ss)))
    g = no_main-erased (names_in (titles ss)) ∙ ap no_main (sym (names_erased (titles ss)) ∙ ap names_in (titles-erased ss))

    h : map nowhere (too_many (drop (most_procedures limits) (titles ss))) ≡ too_many (drop (most_procedures limits) (core_titles (map core ss)))
    h =
        too_many-erased (drop (most_procedures limits) (titles ss))
        ∙ ap too_many (sym (drop-map erased (most_procedures limits) (titles ss)) ∙ ap (drop (most_procedures limits)) (titles-erased ss))

none_mapped : (fs : List Fault) → map nowhere fs ≡ [] → fs ≡ []
none_mapped [] e = refl
none_mapped (f ∷ fs) e = absurd (cc e)

-- Sections with the same cores have both no faults of names, or both some.
pub no_faults_by_core : (limits : Limits) (ss us : List Section) → map core us ≡ map core ss → name_faults limits ss ≡ [] → name_faults limits us ≡ []
no_faults_by_core limits ss us e h =
    none_mapped (name_faults limits us)
    (faults-erased limits us ∙ ap (core_faults limits) e ∙ sym (faults-erased limits ss) ∙ ap (map nowhere) h)
