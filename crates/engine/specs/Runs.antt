-- What a run puts, how it ends, and which end is certain.
use Rattle.std.specs.Prelude.{◌≡◌, ◌⊎◌, List, false, Ok, Option, IfOk, All}
use Rattle.command_line.specs.{Wanted}
use Rattle.outside.specs.{Put, FileSet, Rose}
use Rattle.step_problem.specs.declared.place.NoBound.{NoBound}
use Rattle.model_types.specs.declared.time_steps.TimeStep.{TimeStep}
use Rattle.run_puts.specs.{IsUnfinished, Text, IsRun, declared.puts.Status.Status}
use Rattle.run_puts.specs.declared.puts.Status.TheVariants as status
use Rattle.listing_run.specs.{declared.steps.Task.Task, declared.solving.Step.Step, AllSteps}
use Rattle.listing_run.specs.declared.text.ListingEnd.TheVariants as ends
use Rattle.plan_chain.specs.{declared.step.PlanPart.PlanPart, declared.step.PlanTask.PlanTask}
use Rattle.plan_chain.specs.declared.walk.PlanEnd.TheVariants as plan
use Rattle.plan_listing.specs.declared.listing.ListedPlanStep.{ListedPlanStep}
use Rattle.plan_run.specs.{AllListedSteps}
use Rattle.check_run.specs.{declared.verdict.ListingVerdict.TheVariants.Certified, IsVerdict}
use Rattle.plan_check.specs.{declared.verdict.PlanListingVerdict.TheVariants.Certified as PlanHolds, IsPlanVerdict}
use Rattle.gentle_run.specs.{IsVerdict as IsGentleVerdict, declared.verdict.GentleVerdict.TheVariants.Certified as GentleHolds}
use Rattle.engine.specs.{Cases.After, Cases.Case, Cases.Checking, Cases.ConvertibleChecking, Cases.Listing, Cases.Making, Cases.Comparing, Cases.Jobs}
use Rattle.engine.specs.{Cases.PlanChecking, Cases.Planning, Cases.Saying, Cases.Writing, Cases.case_of, Made.made_task, Defined.Defines, Defined.Due}
use Rattle.engine.specs.{Defined.CutOf, Uses.FolderUse, Uses.SinkUse, Uses.failed_write}
use Rattle.deck_span.specs.{AreAlike}

-- the puts of a run of this case with this end
abbrev pub IsRunOf : Type 0 → Type 0 → Case → Status → List Put → Type 0
IsRunOf read_failed failed_beside case = IsRun (Due read_failed failed_beside case) (CutOf case)

-- What a run puts, for every status.
pub record Puts (folder : FolderUse) (beside out : SinkUse) (order : Option Wanted) (files : FileSet) (end : Status) : Type 0 where
  pub puts : List Put
  pub leads_on : out.leads puts
  pub run : IsRunOf (Rose folder.before folder.after) (failed_write beside) (case_of order files) end puts

-- the case has no listing with --quick, whose end the words and files leave open
abbrev pub IsPlain : Case → Type 0
IsPlain (Listing k) = k.quick ≡ false
IsPlain (Planning k) = k.quick ≡ false
IsPlain (Comparing a b case) = IsPlain case
IsPlain (After text case) = IsPlain case
IsPlain (Jobs jobs) = All (λ job. IfOk job.read (λ k. k.quick ≡ false)) jobs
IsPlain other = Unit {0}

-- The run has the end that the words and files define, unless a read or a write fails, memory runs out, or a step doesn't settle within the rounds.
abbrev pub EndIsDefined : Type 0 → Option Wanted → FileSet → Status → Type 0
EndIsDefined fault order files end =
    IsPlain (case_of order files) → (meant : Status) (pieces : List Text) → Defines (case_of order files) meant pieces → (fault ⊎ IsUnfinished meant)
    ⊎ ((end ≡ meant) ⊎ ((end ≡ status.Memory) ⊎ IsUnfinished end))

-- From STRT on, each step from the heads of the one before, no step of this listing has a refusal, and the rounds leave none open.
pub record GoesThrough (task : Task) : Type 0 where
  pub no_refusal : (before : List Step) (at : TimeStep) (n : NoBound) → AllSteps task before (ends.NoBound at n) → ⊥
  pub none_open : (before : List Step) (at : TimeStep) → AllSteps task before (ends.Unfinished at) → ⊥

-- so it is with a listing of a plan
pub record PlanGoesThrough (k : PlanTask) : Type 0 where
  pub no_refusal : (before : List ListedPlanStep) (at : TimeStep) (part : PlanPart) (n : NoBound) → AllListedSteps k before (plan.NoBound at part n) → ⊥
  pub none_open : (before : List ListedPlanStep) (at : TimeStep) (part : PlanPart) → AllListedSteps k before (plan.Unfinished at part) → ⊥

-- The case goes well: the listing that is put, or summed up, goes through, or that of each job of a batch; the listing that is checked
-- has the verdict that it is certified; a deck is written; a text is said; or the two decks that are compared are alike, and their case goes
-- well, or that after a text.
abbrev pub GoesWell : Case → Type 0
GoesWell (Listing k) = GoesThrough k
GoesWell (Planning k) = PlanGoesThrough k
GoesWell (Making seed size (Ok m)) = GoesThrough (made_task m)
GoesWell (Checking limits d s listing) = IsVerdict limits d s listing.zones listing.steps Certified
GoesWell (PlanChecking k steps) = IsPlanVerdict k steps PlanHolds
GoesWell (ConvertibleChecking m w s listing) = IsGentleVerdict m w s listing.zones listing.steps GentleHolds
GoesWell (Jobs jobs) = All (λ job. (task : Task) × (job.read ≡ Ok task) × GoesThrough task) jobs
GoesWell (Writing m) = Unit {0}
GoesWell (Saying text) = Unit {0}
GoesWell (After text case) = GoesWell case
GoesWell (Comparing a b case) = AreAlike a b.model × GoesWell case
GoesWell other = ⊥

-- Then the run ends Ok, unless a read or a write fails or memory runs out.
abbrev pub EndsOk : Type 0 → Option Wanted → FileSet → Status → Type 0
EndsOk fault order files end = GoesWell (case_of order files) → fault ⊎ ((end ≡ status.Ok) ⊎ (end ≡ status.Memory))
