-- The faults of names, one kind after another: the first kind that has one tells it.
use Rattle.std.proofs.Common.{◌≡◌, ℕ, ◌<◌, ◌≤◌, Bool, true, false, List, [], ◌∷◌, ◌++◌, length, refl, ap, ◌∙◌, Option, Some, None}
use Rattle.std.proofs.lemmas.Bool.{lt-ltb, le-ltb}
use Rattle.tac_lines.specs.Tokens.{rows}
use Rattle.tac_reader.specs.Sections.{sections}
use Rattle.tac_reader.specs.Faults.{head_of, fault_within, name_faults}
use Rattle.tac_lines.specs.LineFaults.{first_by_place, line_faults}
use Rattle.tac_program.specs.Limits.{longest_text}
use Rattle.tac_program.specs.declared.limits.Limits.{Limits}
use Rattle.tac_lines.specs.declared.fault.Fault.{Fault}
use Rattle.tac_lines.specs.declared.refusal.RefusalKind.TheVariants as kind

pub head-front : (xs ys : List Fault) (f : Fault) → head_of xs ≡ Some f → head_of (xs ++ ys) ≡ Some f
head-front [] ys f h = absurd (cc h)
head-front (x ∷ xs) ys f h = h

-- Seven lists one after another.
abbrev pub seven : (a b c d e g h : List Fault) → List Fault
seven a b c d e g h = a ++ b ++ c ++ d ++ e ++ g ++ h

module _ (a b c d e g h : List Fault) (f : Fault) where
  pub first_1 : head_of a ≡ Some f → head_of (seven a b c d e g h) ≡ Some f
  first_1 k = head-front (a ++ b ++ c ++ d ++ e ++ g) h f (head-front (a ++ b ++ c ++ d ++ e) g f
      (head-front (a ++ b ++ c ++ d) e f (head-front (a ++ b ++ c) d f (head-front (a ++ b) c f (head-front a b f k)))))

  pub first_2 : a ≡ [] → head_of b ≡ Some f → head_of (seven a b c d e g h) ≡ Some f
  first_2 ea k = head-front (a ++ b ++ c ++ d ++ e ++ g) h f (head-front (a ++ b ++ c ++ d ++ e) g f
      (head-front (a ++ b ++ c ++ d) e f (head-front (a ++ b ++ c) d f (head-front (a ++ b) c f (ap (λ x. head_of (x ++ b)) ea ∙ k)))))

  pub first_3 : a ≡ [] → b ≡ [] → head_of c ≡ Some f → head_of (seven a b c d e g h) ≡ Some f
  first_3 ea eb k = head-front (a ++ b ++ c ++ d ++ e ++ g) h f (head-front (a ++ b ++ c ++ d ++ e) g f
      (head-front (a ++ b ++ c ++ d) e f (head-front (a ++ b ++ c) d f ((λ i. head_of (ea i ++ eb i ++ c)) ∙ k))))

  pub first_4 : a ≡ [] → b ≡ [] → c ≡ [] → head_of d ≡ Some f → head_of (seven a b c d e g h) ≡ Some f
  first_4 ea eb ec k = head-front (a ++ b ++ c ++ d ++ e ++ g) h f
      (head-front (a ++ b ++ c ++ d ++ e) g f (head-front (a ++ b ++ c ++ d) e f ((λ i. head_of (ea i ++ eb i ++ ec i ++ d)) ∙ k)))

  pub first_5 : a ≡ [] → b ≡ [] → c ≡ [] → d ≡ [] → head_of e ≡ Some f → head_of (seven a b c d e g h) ≡ Some f
  first_5 ea eb ec ed k =
      head-front (a ++ b ++ c ++ d ++ e ++ g) h f (head-front (a ++ b ++ c ++ d ++ e) g f ((λ i. head_of (ea i ++ eb i ++ ec i ++ ed i ++ e)) ∙ k))

pub first_6 : (a b c d e g h : List Fault) → a ≡ [] → b ≡ [] → c ≡ [] → d ≡ [] → e ≡ [] → head_of (seven a b c d e g h) ≡ head_of (g ++ h)
first_6 a b c d e g h ea eb ec ed ee = λ i. head_of (ea i ++ eb i ++ ec i ++ ed i ++ ee i ++ g ++ h)

pub none_head : (xs : List Fault) → head_of xs ≡ None → xs ≡ []
none_head [] k = refl
none_head (x ∷ xs) k = absurd (cc k)

pub both_none : (g h : List Fault) → head_of g ≡ None → head_of h ≡ None → head_of (g ++ h) ≡ None
both_none g h k l = (λ i. head_of (none_head g k i ++ h)) ∙ l

pub last_some : (g h : List Fault) (f : Fault) → head_of g ≡ None → head_of h ≡ Some f → head_of (g ++ h) ≡ Some f
last_some g h f k l = (λ i. head_of (none_head g k i ++ h)) ∙ l

-- The fault of a text by what its length, its lines and its names show.
told : Bool → Option Fault → Option Fault → Option Fault
told long line names = elim long as (λ _. Option Fault) [
  | true ↦ Some (record { kind = kind.TextTooLong; place = 0 })
  | false ↦ elim line as (λ _. Option Fault) [ Some f ↦ Some f | None ↦ names ]
]

pub too_long : (limits : Limits) (text : List ℕ) → longest_text limits < length text
    → fault_within limits text ≡ Some (record { kind = kind.TextTooLong; place = 0 })
unfolding told
too_long limits text h =
    ap (λ b. told b (first_by_place (line_faults false (length text) (rows text))) (head_of (name_faults limits (sections text))))
    (lt-ltb (longest_text limits) (length text) h)

pub line_fault : (limits : Limits) (text : List ℕ) (f : Fault) → length text ≤ longest_text limits
    → first_by_place (line_faults false (length text) (rows text)) ≡ Some f → fault_within limits text ≡ Some f
unfolding told
line_fault limits text f h e = λ i. told (le-ltb (longest_text limits) (length text) h i) (e i) (head_of (name_faults limits (sections text)))

pub name_fault : (limits : Limits) (text : List ℕ) → length text ≤ longest_text limits
    → first_by_place (line_faults false (length text) (rows text)) ≡ None → fault_within limits text ≡ head_of (name_faults limits (sections text))
unfolding told
name_fault limits text h e = λ i. told (le-ltb (longest_text limits) (length text) h i) (e i) (head_of (name_faults limits (sections text)))
