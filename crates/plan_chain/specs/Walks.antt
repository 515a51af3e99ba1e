-- The steps of a plan's listing in turn, how a listing of them ends, and a walk over them.
use Rattle.std.specs.Prelude.{◌≡◌, ◌+◌, ◌<◌, ◌≤◌, List, [], ◌∷◌, drop, length, replicate}
use Rattle.step_problem.specs.{no_bound}
use Rattle.model_types.specs.{declared.time_steps.TimeStep.TimeStep, cell_count, times}
use Rattle.deck_problems.specs.{AreDeckTables, AreStartHeadsFor}
use Rattle.plan_chain.specs.{Plans.ArePlanHeads, Plans.HasNoBoundAt, Plans.IsOpenAt, Plans.IsPlanStep, Plans.heads_in, declared.step.PlanFault.PlanFault}
use Rattle.plan_chain.specs.{declared.step.PlanHeads.PlanHeads, declared.step.PlanPart.PlanPart, declared.step.PlanSolved.PlanSolved}
use Rattle.plan_chain.specs.{declared.step.PlanTask.PlanTask, declared.walk.PlanEnd.PlanEnd, declared.walk.PlanEnd.TheVariants.Whole}
use Rattle.plan_chain.specs.{declared.walk.PlanEnd.TheVariants.NoBound as IsNoBound, declared.walk.PlanEnd.TheVariants.Unfinished}
use Rattle.plan_chain.specs.{declared.walk.PlanStop.PlanStop, declared.walk.PlanStop.TheVariants.End, declared.walk.PlanStop.TheVariants.Memory}
use Rattle.plan_chain.specs.{declared.walk.PlanWalk.PlanWalk}
use Rattle.step_chain.specs.declared.solved.StepFault.{StepFault}
use Rattle.step_chain.specs.declared.solved.StepFault.TheVariants as fault

-- STRT of both plans, which is the same, and differences of 0
pub record AreStartsOf (k : PlanTask) (h : PlanHeads) : Type 0 where
  pub base : AreStartHeadsFor k.base h.base
  pub planned : AreStartHeadsFor k.planned h.planned
  pub differences : h.differences ≡ replicate (cell_count k.base.first.grid) no_bound

-- Past these heads, with these times left, a listing ends so: no time is left; a part of the first one's step has this refusal; or
-- the rounds don't settle it.
abbrev pub EndsAt : PlanTask → PlanEnd → PlanHeads → List TimeStep → Type 0
EndsAt k Whole old [] = Unit {0}
EndsAt k (IsNoBound t part n) old (at ∷ ats) = (t ≡ at) × HasNoBoundAt k at old part n
EndsAt k (Unfinished t part) old (at ∷ ats) = (t ≡ at) × IsOpenAt k at old part
EndsAt k other old ats = ⊥

-- From these heads on, the steps of these times are these, and then the listing ends so.
abbrev pub PlanSteps : PlanTask → PlanHeads → List TimeStep → List PlanSolved → PlanEnd → Type 0
PlanSteps k old ats [] last = EndsAt k last old ats
PlanSteps k old (at ∷ ats) (v ∷ vs) last = IsPlanStep k at old v × PlanSteps k (heads_in v) ats vs last
PlanSteps k old [] (v ∷ vs) last = ⊥

-- all steps of a task, from STRT on, up to this end
pub record AllPlanSteps (k : PlanTask) (vs : List PlanSolved) (last : PlanEnd) : Type 0 where
  pub start : PlanHeads
  pub is_start : AreStartsOf k start
  pub steps : PlanSteps k start (times k.base.first) vs last

-- past these heads, with these times left, a walk stops so: the listing ends here; lack of memory is possible at any time
abbrev pub StopsAt : PlanTask → PlanHeads → List TimeStep → PlanStop → Type 0
StopsAt k old ats (End last) = EndsAt k last old ats
StopsAt k old ats Memory = Unit {0}

-- the times of the steps that are not done
abbrev pub times_left : PlanWalk → List TimeStep
times_left w = drop w.done w.times

-- the conditions on a walk
pub record IsPlanWalk (k : PlanTask) (w : PlanWalk) : Type 0 where
  pub base_tables : AreDeckTables k.base k.digits w.base_tables
  pub planned_tables : AreDeckTables k.planned k.digits w.planned_tables
  pub times : w.times ≡ times k.base.first
  pub few : length w.times ≤ 100000
  pub heads : ArePlanHeads k w.heads

-- a walk before the first step
pub record IsAtFirst (k : PlanTask) (w : PlanWalk) : Type 0 where
  pub start : AreStartsOf k w.heads
  pub done : w.done ≡ 0

-- what solving a step leaves as it is: the heads, the times and the number of steps that are done
pub record Stays (s t : PlanWalk) : Type 0 where
  pub heads : t.heads ≡ s.heads
  pub times : t.times ≡ s.times
  pub done : t.done ≡ s.done

-- v is the next step of a walk
pub record IsNext (k : PlanTask) (s : PlanWalk) (v : PlanSolved) : Type 0 where
  pub at : TimeStep
  pub time : times_left s ≡ at ∷ drop (s.done + 1) s.times
  pub is : IsPlanStep k at s.heads v
  pub fit : ArePlanHeads k (heads_in v)
  pub few : s.done < 100000

-- the stop at the step of a time, from the fault of solving a part of it
abbrev pub stop_by : TimeStep → PlanPart → StepFault → PlanStop
stop_by at part (fault.NoBound n) = End (IsNoBound at part n)
stop_by at part (fault.Unfinished o) = End (Unfinished at part)
stop_by at part fault.Memory = Memory

abbrev pub stop_of : TimeStep → PlanFault → PlanStop
stop_of at f = stop_by at f.part f.fault
