-- The headline of a run of all models between two decks, and of the check of such a listing.
use Rattle.std.specs.Prelude.{◌≡◌, ℕ, ℤ, true, All, List, map, Ok, Option}
use Rattle.std.specs.{List.concat, Io.KnownBytes.Appends}
use Rattle.command_line.specs.{ListingOrder, AskedCheck}
use Rattle.outside.specs.{FileSet}
use Rattle.model_types.specs.{declared.limits.Limits.Limits, declared.model.FlowModel.FlowModel, times, IsModel}
use Rattle.model_reader.specs.{reads}
use Rattle.decimal_input.specs.{Fraction}
use Rattle.deck_span.specs.{AreAlike, AreChoices, Choice, SolvesChoices}
use Rattle.step_chain.specs.{two}
use Rattle.exact_histories.specs.{ChoicesHaveOne}
use Rattle.listing_io.specs.declared.listing.ListedStep.{ListedStep}
use Rattle.run_puts.specs.{Text, end_line}
use Rattle.listing_run.specs.{declared.solving.Step.Step, listing, BoundChoices}
use Rattle.check_run.specs.{declared.verdict.ListingVerdict.TheVariants.Certified as Holds, IsVerdict, checked_task, steps_of}
use Rattle.engine.specs.{Cases.span_task_of, Cases.steps_read, Cases.zones_read, Checked.certified_line, Headline.ListsPairs, OneListing.AreItsSteps}

-- The files of two names read by limits as valid models that are alike: they differ only in numbers of their stresses and in STRT.
pub record ArePairOf (limits : Limits) (files : FileSet) (name to : Text) : Type 0 where
  pub first : FlowModel
  pub read : reads limits files name ≡ Ok first
  pub valid : IsModel first
  pub second : FlowModel
  pub read_to : reads limits files to ≡ Ok second
  pub valid_to : IsModel second
  pub alike : AreAlike first second

-- A run that was asked for so, over these files, that ended Ok, where a sink had the bytes `old` before it and `new` after it,
-- has written a listing of two decks; and every history of heads each step of which solves the manual's exact equations with numbers that
-- lie between those of the two decks, chosen anew at each step, lies, step by step and cell by cell, between its heads, with
-- each of its budget flows between its terms, and each of its flows between two zones of a zone file between its two numbers.
-- That it is the one listing which the files define stands in `OneSpan`.
pub record SpanHeadline (asked : ListingOrder) (to : Text) (files : FileSet) (old new : Option (List ℕ)) : Type 0 where
  -- The files read as two valid models that are alike, and as zones of their cells where a zone file is named.
  pub decks : ArePairOf asked.limits files asked.name to
  pub zones : Option (List ℕ)
  pub zoned : zones_read files asked.zones decks.first ≡ Ok zones
  -- The listing of some values, which are the heads, the budget and the flows between zones of each step, was appended, and nothing else.
  pub values : List Step
  pub written : Appends old new (concat (listing (span_task_of asked decks.first decks.second zones) values end_line))
  -- The block of each time step, which the two decks share, stands under its own line STEP, and lists the flow between each two zones that share a face.
  pub at : map (λ v. v.at) values ≡ times decks.first
  pub pairs : All (ListsPairs decks.first zones) values
  -- Every history of choices between the two decks over any denominator d lies between them.
  pub encloses : (start : ℕ → Fraction) (xs : List Choice) → AreChoices decks.first decks.second start xs →
      (d : ℕ) (history : List (ℕ → ℤ)) → SolvesChoices decks.first start xs d history →
      BoundChoices (span_task_of asked decks.first decks.second zones) decks.first d start values xs history
  -- And each choice has one: a history solves it, and any two are the same heads at all active cells, step by step.
  pub choices : ChoicesHaveOne decks.first decks.second

-- Such a run has written a listing each step of which has a pair that is a certificate; without --quick the one that the files define.
pub record OneSpan (asked : ListingOrder) (to : Text) (files : FileSet) (old new : Option (List ℕ)) : Type 0 where
  pub headline : SpanHeadline asked to files old new
  pub values : AreItsSteps (span_task_of asked headline.decks.first headline.decks.second headline.zones) headline.values

-- A check of such a listing that ended Ok: the files have a listing of two decks, whoever wrote it, and every history between
-- the decks lies between its heads, with each of its budget flows between its terms, and each of its flows between two zones
-- of a zone file between its two numbers. How it was judged stands in `SpanVerdict`.
pub record SpanCertified (asked : AskedCheck) (to : Text) (files : FileSet) (old new : Option (List ℕ)) : Type 0 where
  pub decks : ArePairOf asked.limits files asked.name to
  pub zones : Option (List ℕ)
  pub zoned : zones_read files asked.zones decks.first ≡ Ok zones
  pub steps : List ListedStep
  pub listed : steps_read true files asked decks.first zones ≡ Ok steps
  -- The line CERTIFIED was appended, and nothing else.
  pub written : Appends old new certified_line
  -- Every history of choices between the two decks over any denominator d lies within what it lists.
  pub encloses : (start : ℕ → Fraction) (xs : List Choice) → AreChoices decks.first decks.second start xs →
      (d : ℕ) (history : List (ℕ → ℤ)) → SolvesChoices decks.first start xs d history →
      BoundChoices (checked_task (two decks.first decks.second) asked.digits zones) decks.first d start (steps_of (times decks.first) steps) xs history
  -- And each choice has one.
  pub choices : ChoicesHaveOne decks.first decks.second

-- Such a check found that each step of the named listing is certified.
pub record SpanVerdict (asked : AskedCheck) (to : Text) (files : FileSet) (old new : Option (List ℕ)) : Type 0 where
  pub certified : SpanCertified asked to files old new
  pub verdict : IsVerdict asked.limits (two certified.decks.first certified.decks.second) asked.digits certified.zones certified.steps Holds
