-- Why a step has no differences, by the faults of the calls that make them.
use Rattle.plan_chain.proofs.Common.{List, ℕ, inl, inr, Bound, Entries, Edges, Solved, FailBy, IsBarrierBy, StepFault, IsBarrierFault, SettlesNot, of_bound, IsTheirProblem, Limits}
use Rattle.step_problem.specs.{declared.place.NoBound.NoBound, declared.refusal.BoundFault.BoundFault}
use Rattle.step_problem.specs.declared.refusal.BoundFault.TheVariants as bound
use Rattle.step_chain.specs.declared.solved.StepFault.TheVariants as fault

module _ (limits : Limits) (x y : Solved) (olds : List Bound) (rounds : ℕ) (p : List Entries) (is : IsTheirProblem limits x y olds p) where
  pub barrier_fails : (f : BoundFault) → IsBarrierFault limits p f → FailBy limits x y olds rounds (of_bound f)
  barrier_fails (bound.NoBound n) h = record { problem = p; is = is; refused = inl h }
  barrier_fails bound.Memory h = tt

  pub settling_fails : (b : Edges) → IsBarrierBy limits p b → (f : StepFault) → SettlesNot limits p b rounds f → FailBy limits x y olds rounds f
  settling_fails b of_p (fault.NoBound n) h = record { problem = p; is = is; refused = inr (b, of_p, h) }
  settling_fails b of_p (fault.Unfinished o) h = record { problem = p; is = is; barrier = b; of_problem = of_p; open_rounds = h.cause }
  settling_fails b of_p fault.Memory h = tt
