-- What is taken in two steps is taken in one.
use Rattle.std.proofs.Common.{◌≡◌, ℕ, ◌+◌, ◌-◌, ◌^◌, ◌<◌, Bool, true, false, List, [], ◌++◌, length, take, drop, refl, sym, ap, subst, ◌∙◌, arith}
use Rattle.std.proofs.Common.{append_assoc, append-nil, Option, Some, None, true≢false}
use Rattle.std.proofs.Math.Seq.{take-append-add, take-append_seam}
use Rattle.std.proofs.lemmas.List.{append_cancel_left, take-append-drop}
use Rattle.std.proofs.KnownBytes.{Appends-kept, Appends-nil, Appends-trans, Keeps-refl, Keeps-trans}
use Rattle.std.specs.Io.KnownBytes.{Appends, Keeps, append_known}
use Rattle.text_pieces.specs.Devices.{AppendsBeginning}
use Rattle.text_pieces.specs.Pieces.{IsOpen, Outlet, Takes, faults_met}

-- ---- beginnings

-- a beginning of a text is one of a longer text
take_longer : (n : ℕ) (xs ys : List ℕ) → take (length (take n xs)) (xs ++ ys) ≡ take n xs
take_longer n xs ys =
    ap (λ l. take (length (take n xs)) (l ++ ys)) (sym (take-append-drop n xs))
    ∙ ap (take (length (take n xs))) (append_assoc (take n xs) (drop n xs) ys)
    ∙ take-append_seam (take n xs) (drop n xs ++ ys)

-- What went out, and then a beginning of the rest.
out_further : (x y z p w v t u : List ℕ) (m : ℕ) → y ≡ x ++ p → y ++ v ≡ (x ++ w) ++ t → z ≡ y ++ take m (v ++ u)
    → z ≡ x ++ take (length p + m) (w ++ (t ++ u))
out_further x y z p w v t u m out stands further =
    let same : p ++ v ≡ w ++ t =
    append_cancel_left x (p ++ v) (w ++ t) (sym (append_assoc x p v) ∙ ap (λ l. l ++ v) (sym out) ∙ stands ∙ append_assoc x w t) in
    let all : w ++ (t ++ u) ≡ p ++ (v ++ u) = sym (append_assoc w t u) ∙ ap (λ l. l ++ u) (sym same) ∙ append_assoc p v u in
    further ∙ ap (λ l. l ++ take m (v ++ u)) out ∙ append_assoc x p (take m (v ++ u))
    ∙ ap (λ l. x ++ l) (sym (take-append-add p (v ++ u) m) ∙ ap (take (length p + m)) (sym all))

begin_longer : (a b : Option (List ℕ)) (xs ys : List ℕ) → AppendsBeginning a b xs → AppendsBeginning a b (xs ++ ys)
begin_longer a b xs ys begins = (length (take begins.0 xs), subst (Appends a b) (sym (take_longer begins.0 xs ys)) begins.1)

begin_kept : (a b c : Option (List ℕ)) (xs : List ℕ) → AppendsBeginning a b xs → Keeps b c → AppendsBeginning a c xs
begin_kept a b c xs begins keeps = (begins.0, Appends-kept a b c _ begins.1 keeps)

begin_further : (a b c : Option (List ℕ)) (w v t u : List ℕ) → AppendsBeginning a b (w ++ t) → Appends (append_known a w) (append_known b v) t
    → AppendsBeginning b c (v ++ u) → AppendsBeginning a c (w ++ (t ++ u))
begin_further None b c w v t u begins all further = (0, tt)
begin_further (Some x) None c w v t u begins all further = absurd begins.1
begin_further (Some x) (Some y) None w v t u begins all further = absurd further.1
begin_further (Some x) (Some y) (Some z) w v t u begins all further =
    (length (take begins.0 (w ++ t)) + further.0, out_further x y z (take begins.0 (w ++ t)) w v t u further.0 begins.1 all further.1)

-- ---- steps

counted_then : (i j k : Bool) (n m o : ℕ) → (i ≡ true → j ≡ true) → (j ≡ true → k ≡ true) → m ≡ n + faults_met i j → o ≡ m + faults_met j k
    → o ≡ n + faults_met i k
counted_then true true true n m o one two p q = omega (arith, p, q)
counted_then true true false n m o one two p q = absurd (true≢false (sym (two refl)))
counted_then true false k n m o one two p q = absurd (true≢false (sym (one refl)))
counted_then false true true n m o one two p q = omega (arith, p, q)
counted_then false true false n m o one two p q = absurd (true≢false (sym (two refl)))
counted_then false false true n m o one two p q = omega (arith, p, q)
counted_then false false false n m o one two p q = omega (arith, p, q)

none_met : (old new : Bool) (n m : ℕ) → old ≡ false → new ≡ false → m ≡ n + faults_met old new → n < 2 ^ 32 - 1 → m < 2 ^ 32 - 1
none_met old new n m is whole counted below =
    omega (arith, subst (λ i. m ≡ n + faults_met i false) is (subst (λ j. m ≡ n + faults_met old j) whole counted), below)

-- What is put behind what waits is taken.
pub takes_waiting : (old new : Outlet) (text : List ℕ) → new.reference ≡ old.reference → new.pushed ≡ old.pushed → new.failed ≡ old.failed
    → new.faults ≡ old.faults
    → new.waiting ≡ old.waiting ++ text
    → Takes old new text
takes_waiting old new text reference pushed failed faults waiting = record {
  same_reference = reference;
  beginning = λ _. (0, subst (λ p. Appends old.pushed p []) (sym pushed) (Appends-nil old.pushed));
  all = λ _ _. subst (λ p. Appends (append_known old.pushed old.waiting) (append_known p new.waiting) text) (sym pushed)
      (subst (λ w. Appends (append_known old.pushed old.waiting) (append_known old.pushed w) text) (sym waiting)
      (behind old.pushed old.waiting text));
  stays = λ broken. (failed ∙ broken, subst (Keeps old.pushed) (sym pushed) (Keeps-refl old.pushed));
  counted = faults ∙ none_met old.faults old.failed new.failed failed;
}
  where
    behind : (a : Option (List ℕ)) (w t : List ℕ) → Appends (append_known a w) (append_known a (w ++ t)) t
    behind None w t = tt
    behind (Some x) w t = sym (append_assoc x w t)

    none_met : (n : ℕ) (was is : Bool) → is ≡ was → n ≡ n + faults_met was is
    none_met n true true same = omega arith
    none_met n true false same = omega arith
    none_met n false true same = absurd (true≢false same)
    none_met n false false same = omega arith

-- Where nothing is written, nothing is taken.
pub takes_nothing : (at : Outlet) → Takes at at []
takes_nothing at = record {
  same_reference = refl;
  beginning = λ _. (0, Appends-nil at.pushed);
  all = λ _ _. Appends-nil (append_known at.pushed at.waiting);
  stays = λ is. (is, Keeps-refl at.pushed);
  counted = none_met at.faults at.failed;
}
  where
    none_met : (n : ℕ) (failed : Bool) → n ≡ n + faults_met failed failed
    none_met n true = omega arith
    none_met n false = omega arith

-- What is taken first and what is taken then.
pub takes_then : (first second third : Outlet) (text more : List ℕ) → Takes first second text → Takes second third more
    → Takes first third (text ++ more)
takes_then first second third text more one two = go second.failed refl
  where
    go : (broken : Bool) → second.failed ≡ broken → Takes first third (text ++ more)
    go true is = record {
      same_reference = two.same_reference ∙ one.same_reference;
      beginning = λ whole.
          begin_kept _ _ _ _ (subst (AppendsBeginning _ _) (append_assoc first.waiting text more) (begin_longer _ _ _ more (one.beginning whole)))
          (two.stays is).1;
      all = λ _ whole. absurd (true≢false (sym (two.stays is).0 ∙ whole));
      stays = λ broken. ((two.stays is).0, Keeps-trans _ _ _ (one.stays broken).1 (two.stays is).1);
      counted = counted_then first.failed second.failed third.failed _ _ _ (λ b. (one.stays b).0) (λ b. (two.stays b).0) one.counted two.counted;
    }
    go false is = record {
      same_reference = two.same_reference ∙ one.same_reference;
      beginning = λ whole. begin_further _ _ _ _ _ _ _ (one.beginning whole) (one.all whole is) (two.beginning is);
      all = λ whole intact. Appends-trans _ _ _ _ _ (one.all whole is) (two.all is intact);
      stays = λ broken. absurd (true≢false (sym (one.stays broken).0 ∙ is));
      counted = counted_then first.failed second.failed third.failed _ _ _ (λ b. (one.stays b).0) (λ b. (two.stays b).0) one.counted two.counted;
    }

-- Another push can be made after a step as before it.
pub stays_open : (old new : Outlet) (text : List ℕ) → IsOpen old → Takes old new text → IsOpen new
stays_open old new text is_open taken = go old.failed refl
  where
    go : (broken : Bool) → old.failed ≡ broken → IsOpen new
    go true is whole = absurd (true≢false (sym (taken.stays is).0 ∙ whole))
    go false is whole = none_met old.failed new.failed old.faults new.faults is whole taken.counted (is_open is)

-- What was taken from the beginning on, and then pushed: a beginning of it has gone out.
pub begun : (start first after ended : Outlet) (text : List ℕ) → start ≡ first → first.waiting ≡ [] → first.failed ≡ false
    → Takes start after text → Takes after ended []
    → AppendsBeginning first.pushed ended.pushed text
begun start first after ended text new none whole taken last =
    let all : Takes first ended (text ++ []) = takes_then _ _ _ _ _ (subst (λ (o : Outlet). Takes o after text) new taken) last in
    subst (AppendsBeginning first.pushed ended.pushed) (ap (λ w. w ++ (text ++ [])) none ∙ append-nil text) (all.beginning whole)

-- The same text, written otherwise.
pub takes_as : (old new : Outlet) (text same : List ℕ) → Takes old new text → text ≡ same → Takes old new same
takes_as old new text same taken is = subst (Takes old new) is taken
