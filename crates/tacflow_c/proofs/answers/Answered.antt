-- What a call answers where there are no limits of its number.
use Rattle.std.proofs.Common.{◌≡◌, ℕ, Some, None, ap, sym, subst}
use Rattle.std.specs.Prelude.{Option}
use Rattle.tac_program.specs.declared.limits.Limits.{Limits}
use Rattle.tacflow_c.specs.Statuses.{IsAnswered, Outcome, place_after, status_of}
use Rattle.flow_records.specs.Numbers.{limits_of}
use Rattle.flow_records.specs.declared.fault.Fault.{Fault}
use Rattle.flow_records.specs.declared.fault.Fault.TheVariants.{BadLimits}
use Rattle.tacflow_c.specs.declared.statuses.Place.{Place}

pub no_limits : (status number : ℕ) (old new : Place) (Answer : Limits → Type 0) (IsKept : Fault → Type 0) (IsFault : Limits → Fault → Type 0)
    (found : Fault)
    → (found ≡ BadLimits) × (limits_of number ≡ None) → status ≡ status_of (Some found) → new ≡ place_after (Some found) old → IsKept BadLimits
    → IsAnswered status number old new Answer IsKept IsFault
no_limits status number old new Answer IsKept IsFault found is status_is place_is kept = record {
  fault = Some found;
  status_is = status_is;
  place_is = place_is;
  outcome = subst (λ (limits : Option Limits). Outcome limits Answer IsKept IsFault (Some found)) (sym is.1) (ap (λ (f : Fault). Some f) is.0, kept);
}
