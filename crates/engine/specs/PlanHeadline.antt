-- The headline of a run with a plan.
use Rattle.std.specs.Prelude.{◌≡◌, ℕ, All, false, List, Ok, Option, length, map, option_map}
use Rattle.std.specs.{List.concat, Io.KnownBytes.Appends}
use Rattle.command_line.specs.{AskedPlan}
use Rattle.outside.specs.{FileSet, file_at}
use Rattle.model_types.specs.{declared.entry.Entry.Entry, declared.limits.Limits.Limits, times}
use Rattle.model_reader.specs.{reads}
use Rattle.deck_problems.specs.{AreDecks, declared.decks.Decks.Decks}
use Rattle.plan_wells.specs.{plan_of}
use Rattle.plan_chain.specs.{decks_with, declared.step.PlanTask.PlanTask, declared.walk.PlanEnd.TheVariants.Whole}
use Rattle.plan_listing.specs.declared.listing.ListedPlanStep.{ListedPlanStep}
use Rattle.plan_run.specs.{AllListedSteps, EnclosesWeathers, ListsMore, WeathersHaveOne, plan_listing}
use Rattle.run_puts.specs.{Text, end_line}
use Rattle.engine.specs.Cases.{zones_read}

-- The files of a name read by limits as a valid deck, or those of two names as two decks that are alike: they differ only in numbers of their
-- stresses and in STRT.
pub record AreReadAs (limits : Limits) (files : FileSet) (name : Text) (to : Option Text) (d : Decks) : Type 0 where
  pub read : reads limits files name ≡ Ok d.first
  pub read_to : option_map (reads limits files) to ≡ option_map (λ m. Ok m) d.second
  pub valid : AreDecks d

-- what is listed of a plan's wells, added to decks
abbrev pub plan_task : AskedPlan → Decks → List (List Entry) → Option (List ℕ) → PlanTask
plan_task asked d plan zones =
    record {
      limits = asked.limits;
      base = d;
      planned = decks_with plan d;
      plan = plan;
      digits = asked.digits;
      zones = zones;
      rounds = asked.rounds;
      quick = asked.quick;
    }

-- A run that was asked for so, over these files, that ended Ok, where a sink had the bytes `old` before it and `new` after it, has written what a
-- plan's wells do: of every two histories of heads that solve the manual's exact equations, the one of these files, or at each step of numbers that
-- lie between those of the two decks, chosen anew at each step, and the other of the same numbers with the plan's wells, both lie, step by step and cell
-- by cell, between its heads, and their difference between its drawdowns; and what each term of the budget gives more with the wells, and what flows
-- more between two zones, lies between its two numbers.
pub record PlanHeadline (asked : AskedPlan) (to : Option Text) (files : FileSet) (old new : Option (List ℕ)) : Type 0 where
  -- The files read as a deck, or as two; as a plan's wells, a list for each stress period; and as zones of the cells where a zone file is named.
  pub decks : Decks
  pub read : AreReadAs asked.limits files asked.name to decks
  pub bytes : List ℕ
  pub read_wells : file_at files asked.wells ≡ Ok bytes
  pub plan : List (List Entry)
  pub wells : plan_of asked.limits asked.wells bytes decks.first.grid (length decks.first.periods) ≡ Ok plan
  pub zones : Option (List ℕ)
  pub zoned : zones_read files asked.zones decks.first ≡ Ok zones
  -- The listing of some values, which are the heads, the differences and the flows of each step, was appended, and nothing else.
  pub values : List ListedPlanStep
  pub written : Appends old new (concat (plan_listing (plan_task asked decks plan zones) values end_line))
  -- The block of each time step stands under its own line STEP, and lists what flows more between each two zones that share a face.
  pub at : map (λ v. v.at) values ≡ times decks.first
  pub pairs : All (ListsMore decks.first zones) values
  -- The histories of the two plans in each weather, over any denominator, lie between them.
  pub encloses : EnclosesWeathers (plan_task asked decks plan zones) values
  -- And there are such: in each weather one of each plan.
  pub one : WeathersHaveOne decks plan

-- Such a run has written a listing each step of which has three pairs that are certificates; without --quick the one that the files define.
pub record OnePlan (asked : AskedPlan) (to : Option Text) (files : FileSet) (old new : Option (List ℕ)) : Type 0 where
  pub headline : PlanHeadline asked to files old new
  pub steps : AllListedSteps (plan_task asked headline.decks headline.plan headline.zones) headline.values Whole
  pub only : asked.quick ≡ false → (others : List ListedPlanStep) →
      AllListedSteps (plan_task asked headline.decks headline.plan headline.zones) others Whole → others ≡ headline.values
