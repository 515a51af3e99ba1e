-- How a check of a plan's listing ends, and with which line.
use Rattle.std.specs.Prelude.{◌≡◌, List, [], ◌∷◌}
use Rattle.step_problem.specs.{declared.place.Dir.TheVariants.In, declared.place.Place.Place}
use Rattle.step_problem.specs.declared.place.Place.TheVariants as place
use Rattle.model_types.specs.declared.grid.Grid.{Grid}
use Rattle.exact_histories.specs.{HaveOneHistory}
use Rattle.plan_chain.specs.declared.step.PlanTask.{PlanTask}
unfoldable use Rattle.plan_listing.specs.{plan_no_bound_line, plan_not_certified_line}
use Rattle.plan_listing.specs.{declared.last_lines.PlanPlace.PlanPlace, declared.listing.ListedPlanStep.ListedPlanStep}
use Rattle.plan_listing.specs.declared.last_lines.PlanPlace.TheVariants as places
use Rattle.plan_run.specs.{EnclosesPairs}
use Rattle.plan_check.specs.{IsPlanVerdict, declared.verdict.PlanListingVerdict.PlanListingVerdict, declared.verdict.PlanListingVerdict.TheVariants.Certified}
use Rattle.plan_check.specs.{declared.verdict.PlanListingVerdict.TheVariants.Fails, declared.verdict.PlanListingVerdict.TheVariants.Refused}
use Rattle.run_puts.specs.{Text, declared.puts.Status.Status}
use Rattle.run_puts.specs.declared.puts.Status.TheVariants as status
use Rattle.engine.specs.Checked.{certified_line}

-- the line of a check of a plan's listing with this verdict
abbrev pub plan_verdict_line : Grid → PlanListingVerdict → Text
plan_verdict_line g Certified = certified_line
plan_verdict_line g (Fails at p) = plan_not_certified_line g at p
plan_verdict_line g (Refused at part n) = plan_no_bound_line g at part n

-- its status, which names no part of a step
abbrev pub place_of_plan : PlanPlace → Place
place_of_plan (places.Cell part c side) = place.Cell c side
place_of_plan (places.Source t) = place.Term In t
place_of_plan (places.Zone a b) = place.Zone a b

abbrev pub plan_verdict_status : PlanListingVerdict → Status
plan_verdict_status Certified = status.Ok
plan_verdict_status (Fails at p) = status.NotCertified at.period at.step (place_of_plan p)
plan_verdict_status (Refused at part n) = status.NoBound at.period at.step n

-- The check of this listing of a plan has this end and this line, by its verdict. A listing that is certified encloses every two histories of the two
-- plans in one weather, and each plan has exactly one, or one in each choice between two decks.
pub record IsPlanCheck (k : PlanTask) (steps : List ListedPlanStep) (end : Status) (pieces : List Text) : Type 0 where
  pub verdict : PlanListingVerdict
  pub is : IsPlanVerdict k steps verdict
  pub encloses : verdict ≡ Certified → EnclosesPairs k steps
  pub base : verdict ≡ Certified → HaveOneHistory k.base
  pub planned : verdict ≡ Certified → HaveOneHistory k.planned
  pub status : end ≡ plan_verdict_status verdict
  pub are : pieces ≡ plan_verdict_line k.base.first.grid verdict ∷ []
