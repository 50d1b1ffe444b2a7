-- Parts of visits, put together
use Rattle.std.proofs.Common.{◌≡◌, ℕ, true, false}
use Rattle.summary_equations.specs.Equations.{CallsAt}
use Rattle.flow_why.specs.code.Found.{Found, Grows, Has}
use Rattle.flow_why.specs.code.Frames.{call_after}
use Rattle.flow_why.specs.code.Marked.{BaseHas, Question}
use Rattle.flow_why.specs.code.Visits.{AreStepsVisited, IsCallVisited, IsCallerVisited, IsGenVisited, IsVisited}
use Rattle.flow_why.specs.declared.claim.Claim.{Claim}
use Rattle.flow_why.specs.declared.claim.Claim.TheVariants as claim
use Rattle.flow_why.proofs.visits.Growing.{grows_on, has_on, still}

-- what a call added stays, whatever is added before and behind
pub call_visited_on : (question : Question) (c : Claim) (x p : ℕ) (a b d e : Found) → Grows a b → Grows d e → IsCallVisited question c x p b d
    → IsCallVisited question c x p a e
call_visited_on question c x p a b d e before behind is = record {
  begin = λ unkept. has_on d e claim.Preserved (question.shape.entry p) behind (is.begin unkept);
  enter = λ same into. has_on d e claim.Holds (question.shape.entry p) behind (is.enter same into);
  keep = λ kept. has_on d e c (call_after question.backward x) behind (is.keep kept);
  pass = λ through. has_on d e c (call_after question.backward x) behind
      (is.pass (has_on a b claim.Preserved (question.shape.exit p) before through));
}

pub caller_visited_on : (question : Question) (c : Claim) (y : ℕ) (a b d e : Found) → Grows a b → Grows d e → IsCallerVisited question c y b d
    → IsCallerVisited question c y a e
caller_visited_on question c y a b d e before behind is = record {
  wake = λ same f has. has_on d e f (call_after question.backward y) behind (is.wake same f (has_on a b f y before has));
  generate = λ same f based. has_on d e f (call_after question.backward y) behind (is.generate same f based);
}

pub gen_visited_on : (question : Question) (x y : ℕ) (d e : Found) → Grows d e → IsGenVisited question x y d → IsGenVisited question x y e
gen_visited_on question x y d e behind is c gens based = has_on d e c y behind (is c gens based)

-- steps, calls and callers one after the other
pub visited_all : (question : Question) (c : Claim) (x : ℕ) (s0 s1 s2 s3 : Found) → Grows s0 s1 → Grows s1 s2 → Grows s2 s3
    → AreStepsVisited question c x s1 → ((site p : ℕ) → CallsAt question.shape site x p → IsCallVisited question c x p s1 s2)
    → ((site y p : ℕ) → CallsAt question.shape site y p → x ≡ question.shape.exit p → IsCallerVisited question c y s2 s3)
    → IsVisited question c x s0 s3
visited_all question c x s0 s1 s2 s3 first second third steps calls callers = record {
  steps = λ y edge unkilled. has_on s1 s3 c y (grows_on s1 s2 s3 second third) (steps y edge unkilled);
  calls = λ site p call. call_visited_on question c x p s0 s1 s2 s3 first third (calls site p call);
  callers = λ site y p call at. caller_visited_on question c y s0 s2 s3 s3 (grows_on s0 s1 s2 first second) (still s3) (callers site y p call at);
}

module _ (question : Question) (x : ℕ) where
  -- a callee that keeps the bit wakes its callers, one claim after the other
  pub all_woken : (a b d e : Found) → Grows a b → Grows b d → Grows d e
      → (Has a claim.Preserved x → Has b claim.Preserved (call_after question.backward x))
      → (Has b claim.Generated x → Has d claim.Generated (call_after question.backward x))
      → (Has d claim.Holds x → Has e claim.Holds (call_after question.backward x)) → IsCallerVisited question claim.Preserved x a e
  all_woken a b d e first second third preserved generated holds = record { wake = λ same. wake; generate = λ same. absurd (cc same) }
    where
      wake : (f : Claim) → Has a f x → Has e f (call_after question.backward x)
      wake claim.Preserved has =
          has_on b e claim.Preserved (call_after question.backward x) (grows_on b d e second third) (preserved has)
      wake claim.Generated has =
          has_on d e claim.Generated (call_after question.backward x) third (generated (has_on a b claim.Generated x first has))
      wake claim.Holds has = holds (has_on a d claim.Holds x (grows_on a b d first second) has)

  -- one that generates it does, where paths lead to the call
  pub all_generated : (a b d : Found) → Grows b d
      → (BaseHas question.base claim.Generated x → Has b claim.Generated (call_after question.backward x))
      → (BaseHas question.base claim.Holds x → Has d claim.Holds (call_after question.backward x)) → IsCallerVisited question claim.Generated x a d
  all_generated a b d second generated holds = record { wake = λ same. absurd (cc same); generate = λ same. generate }
    where
      generate : (f : Claim) → BaseHas question.base f x → Has d f (call_after question.backward x)
      generate claim.Preserved based = absurd based
      generate claim.Generated based = has_on b d claim.Generated (call_after question.backward x) second (generated based)
      generate claim.Holds based = holds based

  pub no_caller : (a : Found) → IsCallerVisited question claim.Holds x a a
  no_caller a = record { wake = λ same. absurd (cc same); generate = λ same. absurd (cc same) }

-- a step that generates it
pub both_generated : (question : Question) (x y : ℕ) (b d : Found) → Grows b d → (BaseHas question.base claim.Generated x → Has b claim.Generated y)
    → (BaseHas question.base claim.Holds x → Has d claim.Holds y) → IsGenVisited question x y d
both_generated question x y b d second generated holds claim.Preserved gens based = absurd based
both_generated question x y b d second generated holds claim.Generated gens based = has_on b d claim.Generated y second (generated based)
both_generated question x y b d second generated holds claim.Holds gens based = holds based

-- a call whose callee was entered, and then begun, and passed if it keeps the bit
pub call_visited : (question : Question) (c : Claim) (x p : ℕ) (a b d : Found) → Grows a b → Grows b d
    → (c ≡ claim.Holds → question.scope.skipped p ≡ false → Has b claim.Holds (question.shape.entry p))
    → (question.scope.kept p ≡ false → Has d claim.Preserved (question.shape.entry p))
    → (Has b claim.Preserved (question.shape.exit p) → Has d c (call_after question.backward x))
    → (question.scope.kept p ≡ true → Has d c (call_after question.backward x)) → IsCallVisited question c x p a d
call_visited question c x p a b d first second entered begun passed kept = record {
  begin = begun;
  enter = λ same into. has_on b d claim.Holds (question.shape.entry p) second (entered same into);
  pass = λ through. passed (has_on a b claim.Preserved (question.shape.exit p) first through);
  keep = kept;
}
