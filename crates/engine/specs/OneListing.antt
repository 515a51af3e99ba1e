-- What is promised beside the enclosure: that a run writes the one listing which the files define, and how a check judges.
use Rattle.std.specs.Prelude.{◌≡◌, ℕ, false, List, Option}
use Rattle.outside.specs.{FileSet}
use Rattle.command_line.specs.{ListingOrder, AskedCheck}
use Rattle.listing_run.specs.{declared.solving.Step.Step, declared.text.ListingEnd.TheVariants.Whole, declared.steps.Task.Task, AllSteps, EnclosesHistories}
use Rattle.check_run.specs.{declared.verdict.ListingVerdict.TheVariants.Certified as Holds, IsVerdict}
use Rattle.deck_problems.specs.{one_deck}
use Rattle.engine.specs.{Cases.task_of, Certified.Certified, Headline.Headline, Made.Made, Made.made_task}

-- All time steps of a task have these values, which are heads, budgets and flows between zones, each step by a pair that is a certificate;
-- without --quick no others; and they enclose its histories.
pub record AreItsSteps (task : Task) (values : List Step) : Type 0 where
  pub steps : AllSteps task values Whole
  pub only : task.quick ≡ false → (others : List Step) → AllSteps task others Whole → others ≡ values
  pub encloses : EnclosesHistories task values

-- A run that was asked for so, over these files, that ended Ok, where a sink had the bytes `old` before it and `new` after it, has
-- written a listing each step of which has a pair that is a certificate; without --quick the one that the files define.
pub record OneListing (asked : ListingOrder) (files : FileSet) (old new : Option (List ℕ)) : Type 0 where
  pub headline : Headline asked files old new
  pub values : AreItsSteps (task_of asked headline.model headline.zones) headline.values

-- A run that makes a model from this seed and size and ended Ok has written the summary of the one listing that the made files define.
pub record OneSummary (seed size : ℕ) (old new : Option (List ℕ)) : Type 0 where
  pub made : Made seed size old new
  pub steps : AllSteps (made_task made.model) made.values Whole
  pub only : (others : List Step) → AllSteps (made_task made.model) others Whole → others ≡ made.values

-- A check that was asked for so, over these files, that ended Ok found that each step of the named listing is certified.
pub record OneVerdict (asked : AskedCheck) (files : FileSet) (old new : Option (List ℕ)) : Type 0 where
  pub certified : Certified asked files old new
  pub verdict : IsVerdict asked.limits (one_deck certified.model) asked.digits certified.zones certified.steps Holds
