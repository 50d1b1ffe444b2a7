use Rattle.std.proofs.Common.{◌≡◌, ◌∙◌, refl, length, Some, None, sym, ap, true, false, not, Bool, List, ℕ, Option, position, bytes_eq, is_some, ◌++◌}
use Rattle.std.proofs.Common.{◌∷◌, [], if◌then◌else◌}
use Rattle.tac_program.proofs.known_names.NameTexts.{texts-insert, numbered}
use Rattle.tac_program.specs.Names.{is_one_of, noted}
use Rattle.tac_program.specs.code.Names.{texts}
use Rattle.tac_program.proofs.names.NameTable.insert_full.Goals as goal
use Rattle.tac_program.proofs.known_names.LastNumbers.{last_number}

-- what the look-up answered tells whether the name is there
there : (name : List ℕ) (names : List (List ℕ)) (found : Option ℕ) (t : Bool) → found ≡ position (bytes_eq name) names → is_some found ≡ t
    → is_one_of name names ≡ t
there name names found t e h = sym (numbered name names) ∙ ap is_some (sym e) ∙ h

noted_by : (name : List ℕ) (names : List (List ℕ)) (t : Bool) → is_one_of name names ≡ t
    → noted names name ≡ (if t then names else names ++ name ∷ [])
noted_by name names t e = ap (λ b. if b then names else names ++ name ∷ []) e

none_found : (found : Option ℕ) → ((n : ℕ) → found ≡ Some n → ⊥) → is_some found ≡ false
none_found None h = refl
none_found (Some n) h = absurd (h n refl)

pub returns-in-Some-clause-noted : goal.returns-in-Some-clause-noted
returns-in-Some-clause-noted c =
    sym (noted_by c.args.name.now c.args.self.now true
    (there c.args.name.now c.args.self.now c.find.result true c.find.ensures.number (ap is_some c.in-Some.is)))

pub returns-in-Some-clause-new : goal.returns-in-Some-clause-new
returns-in-Some-clause-new c =
    sym (ap not (there c.args.name.now c.args.self.now c.find.result true c.find.ensures.number (ap is_some c.in-Some.is)))

pub returns-clause-noted : goal.returns-clause-noted
returns-clause-noted c =
    ap texts c.in_ok-insert_full.ensures.keys ∙ texts-insert c.self.inside.names.keys (record { bytes = c.in_ok-bytes.bytes })
    ∙ ap (noted (texts c.self.inside.names.keys)) c.in_ok-bytes.ensures.items
    ∙ ap (λ ns. noted ns c.args.name.now) (c.self.view_is ∙ c.in_ok-seed.ensures)

pub returns-clause-number : goal.returns-clause-number
returns-clause-number c =
    let name = c.args.name.now in
    let none = there name c.args.self.now c.find.result false c.find.ensures.number (none_found c.find.result c.in_default.not-Some) in
    ap (position (bytes_eq name)) (returns-clause-noted c ∙ noted_by name c.args.self.now false none)
    ∙ last_number name c.args.self.now none
    ∙ ap (λ n. let o : Option ℕ = Some n in o) (sym (c.len-number.ensures ∙ ap length c.in_ok-seed.ensures))

pub returns-clause-new : goal.returns-clause-new
returns-clause-new c =
    sym (ap not (there c.args.name.now c.args.self.now c.find.result false c.find.ensures.number (none_found c.find.result c.in_default.not-Some)))
