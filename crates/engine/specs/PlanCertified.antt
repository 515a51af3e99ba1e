-- What a certified listing of a plan promises.
use Rattle.std.specs.Prelude.{◌≡◌, ℕ, is_some, length, List, Ok, Option}
use Rattle.std.specs.Io.KnownBytes.{Appends}
use Rattle.command_line.specs.{AskedCheck}
use Rattle.outside.specs.{FileSet, file_at}
use Rattle.model_types.specs.declared.entry.Entry.{Entry}
use Rattle.deck_problems.specs.declared.decks.Decks.{Decks}
use Rattle.plan_wells.specs.{plan_of}
use Rattle.plan_listing.specs.declared.listing.ListedPlanStep.{ListedPlanStep}
use Rattle.plan_run.specs.{EnclosesWeathers, WeathersHaveOne}
use Rattle.plan_check.specs.{declared.verdict.PlanListingVerdict.TheVariants.Certified as Holds, IsPlanVerdict}
use Rattle.run_puts.specs.{Text}
use Rattle.engine.specs.{Cases.as_plan, Cases.plan_steps_read, Cases.zones_read, Checked.certified_line, PlanHeadline.AreReadAs, PlanHeadline.plan_task}

-- A check of a plan's listing that was asked for so, over these files, that ended Ok, where a sink had the bytes `old` before it and `new` after it: the
-- files have a listing of what a plan's wells do, whoever wrote it, and every two histories of heads that solve the manual's exact equations, the one of
-- these files, or at each step of numbers that lie between those of the two decks, and the other of the same numbers with the plan's wells, both lie
-- between its heads, and their difference between its drawdowns; and what each term of the budget gives more with the wells, and what flows more between
-- two zones, lies between its two numbers. How it was judged stands in `PlanVerdict`.
pub record PlanCertified (asked : AskedCheck) (wells_name : Text) (to : Option Text) (files : FileSet) (old new : Option (List ℕ)) : Type 0 where
  -- The files read as a deck, or as two; as a plan's wells; as zones of the cells where a zone file is named; and the named file as a listing of these.
  pub decks : Decks
  pub read : AreReadAs asked.limits files asked.name to decks
  pub bytes : List ℕ
  pub read_wells : file_at files wells_name ≡ Ok bytes
  pub plan : List (List Entry)
  pub wells : plan_of asked.limits wells_name bytes decks.first.grid (length decks.first.periods) ≡ Ok plan
  pub zones : Option (List ℕ)
  pub zoned : zones_read files asked.zones decks.first ≡ Ok zones
  pub steps : List ListedPlanStep
  pub listed : plan_steps_read (is_some to) files asked.listing (plan_task (as_plan asked wells_name) decks plan zones) ≡ Ok steps
  -- The line CERTIFIED was appended, and nothing else.
  pub written : Appends old new certified_line
  -- The histories of the two plans in each weather, over any denominator, lie within what it lists.
  pub encloses : EnclosesWeathers (plan_task (as_plan asked wells_name) decks plan zones) steps
  -- And there are such: in each weather one of each plan.
  pub one : WeathersHaveOne decks plan

-- Such a check found that each step of the named listing is certified.
pub record PlanVerdict (asked : AskedCheck) (wells_name : Text) (to : Option Text) (files : FileSet) (old new : Option (List ℕ)) : Type 0 where
  pub certified : PlanCertified asked wells_name to files old new
  pub verdict : IsPlanVerdict (plan_task (as_plan asked wells_name) certified.decks certified.plan certified.zones) certified.steps Holds
