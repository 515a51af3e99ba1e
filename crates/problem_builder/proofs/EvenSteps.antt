-- Steps that are equally long have the same factors.
use Rattle.problem_builder.proofs.Common.{Number, refl, sum_term, ◌-◌, ◌∙◌, ◌≡◌, ℕ, Some, Dec, size, FlowModel, period_at, number_one, power_term, IsUsable, HasEvenSteps, AreEvenFactors, equal_powers}
use Rattle.problem_builder.proofs.Common.{bound}
use Rattle.scaled_decimal.specs.{Lower, Upper}
use Rattle.conductance_bounds.specs.{declared.storage.Factors.Factors, factors_of as step_factors}
use Rattle.model_types.specs.{one as ratio_one}

even_grown : (t : Dec) (steps n : ℕ) → t ≡ number_one → step_factors (size t) steps 1 ≡ step_factors (size t) steps n
unfolding step_factors power_term
even_grown t steps n one =
    let power = equal_powers t n (record { lo = bound (Number ratio_one) Lower; hi = bound (Number ratio_one) Upper }) one (record { lower = refl; upper = refl }) in
    λ i. record { sum_lo = bound (sum_term (size t) (steps - 1)) Lower; sum_hi = bound (sum_term (size t) (steps - 1)) Upper; power_lo = power.lower i; power_hi = power.upper i }

pub even_factors : (m : FlowModel) (p : ℕ) (f : Factors) → HasEvenSteps (period_at m p) → f ≡ step_factors (size (period_at m p).tsmult) (period_at m p).nstp 1 → IsUsable f →
    AreEvenFactors m p (Some f)
even_factors m p f steps first usable n = record {
  transient = steps.transient;
  grown = first ∙ even_grown (period_at m p).tsmult (period_at m p).nstp n steps.even;
  usable = usable;
}
