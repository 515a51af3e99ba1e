-- The cause of each result without heads.
use Rattle.std.specs.Prelude.{ℕ, List}
use Rattle.step_problem.specs.{declared.heads.Bound.Bound, declared.heads.SettleFault.SettleFault, declared.place.NoBound.NoBound, Entries.Entries, Edges}
use Rattle.step_problem.specs.{OpenHeads, AreSettled, IsUnfinished, declared.refusal.BoundFault.BoundFault}
use Rattle.step_problem.specs.declared.heads.SettleFault.TheVariants as settle
use Rattle.barrier_vector.specs.{clamped_edges}
use Rattle.step_problem.specs.declared.refusal.BoundFault.TheVariants as bound
use Rattle.certificate_check.specs.{IsRangeRefusal}
use Rattle.deck_problems.specs.declared.decks.Decks.{Decks}
use Rattle.model_types.specs.{declared.limits.Limits.Limits, declared.limits.Limits.TheVariants.Plain, declared.limits.Limits.TheVariants.Wide}
use Rattle.model_types.specs.{declared.time_steps.TimeStep.TimeStep}
use Rattle.step_chain.specs.{declared.solved.StepFault.StepFault, Enclosing.edges_by, Steps.IsPosed, Steps.HasNoHeads}
use Rattle.step_chain.specs.declared.solved.StepFault.TheVariants as fault

-- a settler with this many rounds gave up, and these don't settle the step
pub record IsOpenStep (limits : Limits) (d : Decks) (s : ℕ) (at : TimeStep) (old : List Bound) (rounds : ℕ) (o : OpenHeads) : Type 0 where
  pub problem : List Entries
  pub barrier : Edges
  pub posed : IsPosed limits d s at old problem barrier
  pub unfinished : IsUnfinished problem (edges_by limits barrier) rounds o

-- with wide limits, the settled pair of a problem is no certificate over its barrier b
abbrev pub IsNoCertificate : Limits → List Entries → Edges → NoBound → Type 0
IsNoCertificate Plain p b n = ⊥
IsNoCertificate Wide p b n = (bounds : List Bound) × AreSettled p (clamped_edges b) bounds × IsRangeRefusal p b bounds n

-- why the settling of a problem over its barrier b gives no pair
abbrev pub SettlesNot : Limits → List Entries → Edges → ℕ → StepFault → Type 0
SettlesNot limits p b rounds (fault.NoBound n) = IsNoCertificate limits p b n
SettlesNot limits p b rounds (fault.Unfinished o) = IsUnfinished p (edges_by limits b) rounds o
SettlesNot limits p b rounds fault.Memory = Unit {0}

-- lack of memory is possible at any time
abbrev pub FailsBy : Limits → Decks → ℕ → TimeStep → List Bound → ℕ → StepFault → Type 0
FailsBy limits d s at old rounds (fault.NoBound n) = HasNoHeads limits d s at old n
FailsBy limits d s at old rounds (fault.Unfinished o) = IsOpenStep limits d s at old rounds o
FailsBy limits d s at old rounds fault.Memory = Unit {0}

-- the fault of a step by that of its problem or barrier, or its settler
abbrev pub of_bound : BoundFault → StepFault
of_bound (bound.NoBound n) = fault.NoBound n
of_bound bound.Memory = fault.Memory

abbrev pub of_settle : SettleFault → StepFault
of_settle (settle.Unfinished o) = fault.Unfinished o
of_settle settle.Memory = fault.Memory
