-- Texts one behind another
use Rattle.std.proofs.Common.{◌≡◌, ◌∙◌, ◌+◌, ◌<◌, ℕ, List, [], ◌++◌, ap, append_assoc, codes, get_or, length, map, nat_lt, take, if◌then◌else◌}
use Rattle.flow_views.specs.Json.{joined}
use Rattle.flow_views.proofs.texts.Rows.{joined_behind}

pub pushed_then : (old middle new a b : List ℕ) → middle ≡ old ++ a → new ≡ middle ++ b → new ≡ old ++ (a ++ b)
pushed_then old middle new a b first second = second ∙ ap (λ t. t ++ b) first ∙ append_assoc old a b

-- one text more of an array
pub next_told : {A : Type 0} (f : A → List ℕ) (xs : List A) (i : ℕ) (x : A) (old text middle new : List ℕ) → i < length xs → x ≡ get_or xs i x
    → text ≡ old ++ (codes "[" ++ joined (codes ",") (map f (take i xs)))
    → middle ≡ text ++ (if nat_lt 0 i then codes "," else []) → new ≡ middle ++ f x
    → new ≡ old ++ (codes "[" ++ joined (codes ",") (map f (take (i + 1) xs)))
next_told f xs i x old text middle new below read before comma told =
    pushed_then old middle new (codes "[" ++ joined (codes ",") (map f (take i xs)) ++ (if nat_lt 0 i then codes "," else [])) (f x)
    (pushed_then old text middle (codes "[" ++ joined (codes ",") (map f (take i xs))) (if nat_lt 0 i then codes "," else []) before comma) told
    ∙ ap (λ t. old ++ t) (joined_behind (codes "[") (codes ",") f xs i x below read)

-- six texts
pub six : (old m1 m2 m3 m4 m5 m6 a b c d e f : List ℕ) → m1 ≡ old ++ a → m2 ≡ m1 ++ b → m3 ≡ m2 ++ c → m4 ≡ m3 ++ d → m5 ≡ m4 ++ e → m6 ≡ m5 ++ f
    → m6 ≡ old ++ (a ++ b ++ c ++ d ++ e ++ f)
six old m1 m2 m3 m4 m5 m6 a b c d e f p q r s t u =
    pushed_then old m5 m6 (a ++ b ++ c ++ d ++ e) f (pushed_then old m4 m5 (a ++ b ++ c ++ d) e (pushed_then old m3 m4 (a ++ b ++ c) d
    (pushed_then old m2 m3 (a ++ b) c (pushed_then old m1 m2 a b p q) r) s) t) u
