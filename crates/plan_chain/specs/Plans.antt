-- What is listed of a plan, and a time step of it: three pairs of heads, each from those before the step.
use Rattle.std.specs.Prelude.{◌≡◌, ◌≤◌, if◌then◌else◌, List, All, length, option_map}
use Rattle.step_problem.specs.{declared.place.NoBound.NoBound, OpenHeads, PairKind, certified, settled}
use Rattle.model_types.specs.{declared.entry.Entry.Entry, declared.time_steps.TimeStep.TimeStep, cell_count}
use Rattle.problem_builder.specs.{AreGridHeads}
use Rattle.deck_problems.specs.{declared.decks.Decks.Decks, AreDecks}
use Rattle.zone_pairs.specs.{AreZones}
use Rattle.step_chain.specs.{declared.solved.Solved.Solved, declared.solved.StepFault.StepFault, HasNoHeads, IsStepBy, IsOpenStep}
use Rattle.step_chain.specs.declared.solved.StepFault.TheVariants as fault
use Rattle.plan_wells.specs.{IsWell, with_plan}
use Rattle.plan_histories.specs.{KeepsWellsApart}
use Rattle.plan_chain.specs.{Differences.AreDifferencesBy, Differences.AreOpen, Differences.HaveNoBound, declared.step.PlanFault.PlanFault}
use Rattle.plan_chain.specs.{declared.step.PlanHeads.PlanHeads, declared.step.PlanPart.PlanPart, declared.step.PlanPart.TheVariants.Base}
use Rattle.plan_chain.specs.{declared.step.PlanPart.TheVariants.Planned, declared.step.PlanPart.TheVariants.Differences, declared.step.PlanSolved.PlanSolved}
use Rattle.plan_chain.specs.{declared.step.PlanTask.PlanTask}

-- decks with a plan's wells, the same in both
abbrev pub decks_with : List (List Entry) → Decks → Decks
decks_with plan d = record { first = with_plan plan d.first; second = option_map (with_plan plan) d.second }

-- a pair is the settled one; with --quick any that is a certificate
abbrev pub plan_pairs : PlanTask → PairKind
plan_pairs k = if k.quick then certified else settled

-- The conditions on a task: valid decks, without a plan's wells and with them, alike where there are two; wells of cells of the grid, a list for each stress
-- period; lists of rivers, drains and general heads that hold no wells; at most 18 digits, and a zone for each cell if there is a zone file.
pub record IsPlanTask (k : PlanTask) : Type 0 where
  pub base : AreDecks k.base
  pub planned : AreDecks k.planned
  pub with_wells : k.planned ≡ decks_with k.plan k.base
  pub long : length k.plan ≡ length k.base.first.periods
  pub wells : All (All (IsWell (cell_count k.base.first.grid))) k.plan
  pub apart : All KeepsWellsApart k.base.first.periods
  pub digits : k.digits ≤ 18
  pub zones : AreZones k.base.first k.zones

-- heads and differences of all cells, in range
pub record ArePlanHeads (k : PlanTask) (h : PlanHeads) : Type 0 where
  pub base : AreGridHeads k.base.first h.base
  pub planned : AreGridHeads k.planned.first h.planned
  pub differences : AreGridHeads k.base.first h.differences

-- the heads and the differences of a step
abbrev pub heads_in : PlanSolved → PlanHeads
heads_in v = record { base = v.base.heads; planned = v.planned.heads; differences = v.differences.heads }

-- A time of a task, where `old` are the heads and the differences before it.
module _ (k : PlanTask) (at : TimeStep) (old : PlanHeads) where
  -- its step without the plan's wells, and its step with them
  abbrev pub IsBaseStep : Solved → Type 0
  IsBaseStep x = IsStepBy k.limits k.base k.digits at old.base (plan_pairs k) x

  abbrev pub IsPlannedDeckStep : Solved → Type 0
  IsPlannedDeckStep y = IsStepBy k.limits k.planned k.digits at old.planned (plan_pairs k) y

  -- v is its step: both plans' steps, and their differences
  pub record IsPlanStep (v : PlanSolved) : Type 0 where
    pub base : IsBaseStep v.base
    pub planned : IsPlannedDeckStep v.planned
    pub differences : AreDifferencesBy k.limits v.base v.planned old.differences (cell_count k.base.first.grid) (plan_pairs k) v.differences

  -- what holds of the steps of the parts before this one
  abbrev pub AfterBoth : (Solved → Solved → Type 0) → Type 0
  AfterBoth P = (x : Solved) × (y : Solved) × IsBaseStep x × IsPlannedDeckStep y × P x y

  -- this part has this refusal, and none before it
  abbrev pub HasNoBoundAt : PlanPart → NoBound → Type 0
  HasNoBoundAt Base n = HasNoHeads k.limits k.base k.digits at old.base n
  HasNoBoundAt Planned n = (x : Solved) × IsBaseStep x × HasNoHeads k.limits k.planned k.digits at old.planned n
  HasNoBoundAt Differences n = AfterBoth (λ x y. HaveNoBound k.limits x y old.differences n)

  -- the task's rounds don't settle this part, and settle each before it
  abbrev pub IsOpenAt : PlanPart → Type 0
  IsOpenAt Base = (o : OpenHeads) × IsOpenStep k.limits k.base k.digits at old.base k.rounds o
  IsOpenAt Planned = (x : Solved) × IsBaseStep x × ((o : OpenHeads) × IsOpenStep k.limits k.planned k.digits at old.planned k.rounds o)
  IsOpenAt Differences = AfterBoth (λ x y. AreOpen k.limits x y old.differences k.rounds)

  -- lack of memory is possible at any time
  abbrev pub FailsInPart : PlanPart → StepFault → Type 0
  FailsInPart part (fault.NoBound n) = HasNoBoundAt part n
  FailsInPart part (fault.Unfinished o) = IsOpenAt part
  FailsInPart part fault.Memory = Unit {0}

  abbrev pub FailsAt : PlanFault → Type 0
  FailsAt f = FailsInPart f.part f.fault
