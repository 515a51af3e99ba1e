-- Facts that the calls of a walk over the steps pass to each other.
use Rattle.std.specs.Prelude.{Bool, IfSome, List, Option, [], drop, length, ℕ, ◌+◌, ◌<◌, ◌∷◌, ◌≡◌, ◌≤◌, true, false}
use Rattle.outside.specs.{Put, declared.traits.SinkError.SinkError}
use Rattle.step_problem.specs.{Entries.Entries, Edges, declared.heads.Bound.Bound, declared.place.NoBound.NoBound}
use Rattle.model_types.specs.{times, declared.time_steps.TimeStep.TimeStep, declared.limits.Limits.TheVariants.Plain, declared.limits.Limits.TheVariants.Wide}
use Rattle.deck_problems.specs.{AreDecks, EnclosesStarts, AreStartHeadsFor, AreDeckTables, declared.problem.DeckTables.DeckTables, declared.decks.Decks.Decks}
use Rattle.problem_builder.specs.{AreGridHeads}
use Rattle.step_chain.specs.declared.solved.StepFault.{StepFault}
use Rattle.run_puts.specs.{EndsOutOfMemory, Text, declared.puts.Status.Status}
use Rattle.listing_run.specs.{Listing.BoundsMoves, Listing.text_of, Settlers.IsSettledBy, Settlers.EndsAt, Settlers.IsStep, Settlers.AllSteps}
use Rattle.listing_run.specs.{Settlers.AllSettle, Tasks.deck_task, declared.solving.Step.Step, declared.solving.StepFlows.StepFlows, declared.steps.Steps.Steps}
use Rattle.listing_run.specs.{declared.solving.Stop.Stop, declared.steps.Task.Task}
use Rattle.zone_pairs.specs.{AreZones}
use Rattle.outside.specs.declared.traits.SinkError.TheVariants as error
use Rattle.step_chain.specs.declared.solved.StepFault.TheVariants as chain
use Rattle.run_puts.specs.declared.puts.Status.TheVariants as status
use Rattle.listing_run.specs.declared.text.ListingEnd.TheVariants as ends
use Rattle.listing_run.specs.declared.solving.Stop.TheVariants as stop

-- the conditions on a task: valid decks, alike where there are two, at most 18 digits, and a zone for each cell if there is a zone file
pub record IsTask (k : Task) : Type 0 where
  pub decks : AreDecks k.decks
  pub digits : k.digits ≤ 18
  pub zones : AreZones k.decks.first k.zones

-- the tables of a task
abbrev pub AreTablesOf : Task → DeckTables → Type 0
AreTablesOf k t = AreDeckTables k.decks k.digits t

-- past these heads, with these times left, a walk stops so: the listing ends here; lack of memory is possible at any time
abbrev pub StopsAt : Task → List Bound → List TimeStep → Stop → Type 0
StopsAt k old times (stop.End last) = EndsAt k last old times
StopsAt k old times stop.Memory = Unit {0}

-- the stop at the step of a time, from the fault of solving it
abbrev pub stop_of : TimeStep → StepFault → Stop
stop_of at (chain.NoBound n) = stop.End (ends.NoBound at n)
stop_of at (chain.Unfinished o) = stop.End (ends.Unfinished at)
stop_of at chain.Memory = stop.Memory

-- the times of the steps that are not done
abbrev pub times_left : Steps → List TimeStep
times_left s = drop s.done s.times

-- the conditions on a walk
pub record IsWalk (k : Task) (s : Steps) : Type 0 where
  pub tables : IfSome s.tables (AreTablesOf k)
  pub times : s.times ≡ times k.decks.first
  pub few : length s.times ≤ 100000
  pub heads : AreGridHeads k.decks.first s.heads

-- a walk before the first step
pub record IsAtFirst (k : Task) (s : Steps) : Type 0 where
  pub start : AreStartHeadsFor k.decks s.heads
  pub encloses : EnclosesStarts k.decks s.heads
  pub done : s.done ≡ 0

-- a step by its flows and its heads
abbrev pub with_heads : StepFlows → List Bound → Step
with_heads f heads = record { at = f.at; heads = heads; budget = f.budget; zones = f.zones }

module _ {S : Type 0} (leads : S → List Entries → Edges → Bool → S → Type 0) (k : Task) (s t : Steps) (before after : S) where
  -- from the walk s to t the step v was solved, and the settler settled it
  pub record IsNext (v : Step) : Type 0 where
    pub at : TimeStep
    pub time : times_left s ≡ at ∷ times_left t
    pub is : IsStep k at s.heads v
    pub heads : t.heads ≡ v.heads
    pub encloses : BoundsMoves k at s.heads v
    pub led : IsSettledBy leads k at s.heads true before after
    pub grid : AreGridHeads k.decks.first t.heads
    pub few : s.done < 100000
    pub done : t.done ≡ s.done + 1

  -- so a step with this text was
  pub record IsNextText (text : Text) : Type 0 where
    pub value : Step
    pub next : IsNext value
    pub written : text ≡ text_of k value

-- the puts of an end because the settler had to stop: none after a failed write
abbrev pub IsStopEnd : SinkError → Status → List Put → Type 0
IsStopEnd error.Write end tail = (end ≡ status.WriteFault) × (tail ≡ [])
IsStopEnd error.Memory end tail = EndsOutOfMemory end tail

-- Laws of listings of settled pairs: a model has one listing, and a model with a whole one has no other end. And what is listed with plain limits.
-- there is at most one listing
abbrev pub ListingIsOne : Type 0
ListingIsOne =
    (k : Task) (values others : List Step) → AreDecks k.decks → k.quick ≡ false → AllSteps k values ends.Whole →
    AllSteps k others ends.Whole → others ≡ values

-- if there is one, no step has a refusal
abbrev pub ListingExcludesRefusal : Type 0
ListingExcludesRefusal =
    (k : Task) (values others : List Step) (at : TimeStep) (n : NoBound) → AreDecks k.decks → k.quick ≡ false → AllSteps k values ends.Whole →
    AllSteps k others (ends.NoBound at n) → ⊥

-- if the rounds settle each of its steps, none is open
abbrev pub SettledListingIsClosed : Type 0
SettledListingIsClosed =
    (k : Task) (values others : List Step) (at : TimeStep) → AreDecks k.decks → k.quick ≡ false → (whole : AllSteps k values ends.Whole) →
    AllSettle k whole.start (times k.decks.first) values → AllSteps k others (ends.Unfinished at) → ⊥

-- at most one step has a refusal, and only one refusal
abbrev pub RefusalIsOne : Type 0
RefusalIsOne =
    (k : Task) (values others : List Step) (s t : TimeStep) (a b : NoBound) → AreDecks k.decks → k.quick ≡ false →
    AllSteps k values (ends.NoBound s a) → AllSteps k others (ends.NoBound t b) → (s ≡ t) × (a ≡ b)
    × (values ≡ others)

-- what is listed with plain limits is listed with wide ones
abbrev pub WideKeepsListings : Type 0
WideKeepsListings =
    (d : Decks) (s : ℕ) (zones : Option (List ℕ)) (rounds : ℕ) (quick : Bool) (values : List Step) →
    AllSteps (deck_task Plain d s zones rounds quick) values ends.Whole → AllSteps (deck_task Wide d s zones rounds quick) values ends.Whole
