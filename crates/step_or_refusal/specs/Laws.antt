-- Steps and listings exist, or a refusal says why not.
use Rattle.std.specs.Prelude.{ℕ, ◌⊎◌, List, Bool, Option}
use Rattle.step_problem.specs.{declared.heads.Bound.Bound, declared.place.NoBound.NoBound, IsProblem, Edges, Entries.Entries}
use Rattle.model_types.specs.{declared.limits.Limits.Limits, declared.model.FlowModel.FlowModel, declared.time_steps.TimeStep.TimeStep, IsModel}
use Rattle.deck_problems.specs.{one_deck, IsBefore}
use Rattle.step_chain.specs.{declared.solved.Solved.Solved, IsSettledStep, HasNoHeads}
use Rattle.listing_run.specs.{declared.solving.Step.Step, AllSteps, one_task}
use Rattle.zone_pairs.specs.{AreZones}
use Rattle.barrier_vector.specs.{IsBarrierOf, IsRefused, IsCutBarrierOf, IsUnbounded}
use Rattle.listing_run.specs.declared.text.ListingEnd.TheVariants as ends

-- A time of a valid model, from heads of all its cells, has a settled step or a refusal.
abbrev pub StepOrRefusal : Type 0
StepOrRefusal =
    (limits : Limits) (m : FlowModel) (s : ℕ) (at : TimeStep) (old : List Bound) → IsBefore (one_deck m) at old →
    ((x : Solved) × IsSettledStep limits (one_deck m) s at old x) ⊎ ((n : NoBound) × HasNoHeads limits (one_deck m) s at old n)

-- A model has a whole listing, with the flows between its zones if there is a zone file, or a first refusal at one of its times.
abbrev pub ListingOrRefusal : Type 0
ListingOrRefusal =
    (limits : Limits) (m : FlowModel) (s : ℕ) (zones : Option (List ℕ)) (rounds : ℕ) (quick : Bool) → IsModel m → AreZones m zones →
    ((values : List Step) × AllSteps (one_task limits m s zones rounds quick) values ends.Whole)
    ⊎ ((values : List Step) × (at : TimeStep) × (n : NoBound) × AllSteps (one_task limits m s zones rounds quick) values (ends.NoBound at n))

-- A problem has a barrier, or it has a refusal: a first cause, at the least cell that has it.
abbrev pub BarrierOrRefusal : Type 0
BarrierOrRefusal = (p : List Entries) → IsProblem p → ((b : Edges) × IsBarrierOf p b) ⊎ ((n : NoBound) × IsRefused p n)

-- A problem has a cut barrier, or it is refused at the least cell without a bound.
abbrev pub CutBarrierOrRefusal : Type 0
CutBarrierOrRefusal = (p : List Entries) → IsProblem p → ((b : Edges) × IsCutBarrierOf p b) ⊎ ((n : NoBound) × IsUnbounded p n)
