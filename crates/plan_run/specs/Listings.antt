-- The pieces of a plan's listing.
use Rattle.std.specs.Prelude.{◌≡◌, is_some, List, [], ◌∷◌, ◌++◌, map}
use Rattle.model_types.specs.declared.grid.Grid.{Grid}
unfoldable use Rattle.plan_listing.specs.{plan_first_text, plan_no_bound_line, plan_unfinished_line}
use Rattle.plan_listing.specs.declared.listing.ListedPlanStep.{ListedPlanStep}
use Rattle.plan_chain.specs.{declared.step.PlanTask.PlanTask, declared.walk.PlanEnd.PlanEnd, declared.walk.PlanEnd.TheVariants.Whole}
use Rattle.plan_chain.specs.{declared.walk.PlanEnd.TheVariants.NoBound as IsNoBound, declared.walk.PlanEnd.TheVariants.Unfinished}
use Rattle.run_puts.specs.{Text, end_line, declared.puts.Status.Status}
use Rattle.run_puts.specs.declared.puts.Status.TheVariants as status
use Rattle.plan_run.specs.{Steps.AllListedSteps, Steps.FirstSteps, Walks.text_of}

-- the first line, and a piece for each step
abbrev pub first_pieces : PlanTask → List ListedPlanStep → List Text
first_pieces k values = plan_first_text (is_some k.base.second) k.base.first k.digits ∷ map (text_of k) values

abbrev pub plan_listing : PlanTask → List ListedPlanStep → Text → List Text
plan_listing k values last = first_pieces k values ++ (last ∷ [])

-- the status of a run whose listing ends so, and its last line, which ends with the word of the part of the step
abbrev pub status_of : PlanEnd → Status
status_of Whole = status.Ok
status_of (IsNoBound at part n) = status.NoBound at.period at.step n
status_of (Unfinished at part) = status.Unfinished at.period at.step

abbrev pub last_line : Grid → PlanEnd → Text
last_line g Whole = end_line
last_line g (IsNoBound at part n) = plan_no_bound_line g at part n
last_line g (Unfinished at part) = plan_unfinished_line at part

-- The pieces of a plan's listing that ends with this status: the steps up to an end, and its last line.
pub record IsPlanListing (k : PlanTask) (end : Status) (pieces : List Text) : Type 0 where
  pub last : PlanEnd
  pub status : end ≡ status_of last
  pub values : List ListedPlanStep
  pub steps : AllListedSteps k values last
  pub are : pieces ≡ plan_listing k values (last_line k.base.first.grid last)

-- the pieces of a listing that is cut off after some steps
pub record IsCutPlanListing (k : PlanTask) (pieces : List Text) : Type 0 where
  pub values : List ListedPlanStep
  pub steps : FirstSteps k (λ heads ats. Unit {0}) values
  pub are : pieces ≡ first_pieces k values
