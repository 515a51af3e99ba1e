-- What the parts of a run return and put.
use Rattle.std.specs.Prelude.{◌≡◌, ◌⊎◌, ℕ, Bool, List, [], ◌∷◌, Result, Ok, Err, Option, Some, None, true, false, IfOk, option_map, All}
use Rattle.outside.specs.{Rose, Put, FileSet, declared.inputs.InputFault.InputFault, declared.inputs.Refusal.Refusal}
use Rattle.command_line.specs.{AskedPlan, ListingOrder, Run, Wanted}
use Rattle.outside.specs.declared.inputs.InputFault.TheVariants as input
use Rattle.model_types.specs.{declared.limits.Limits.Limits, declared.model.FlowModel.FlowModel, IsModel}
use Rattle.model_reader.specs.{reads}
use Rattle.listing_io.specs.{AreListed, refused_line}
use Rattle.zone_pairs.specs.{pairs_in, AreZones}
use Rattle.engine.specs.{declared.zoned.ZonedListing.ZonedListing, declared.two_decks.Second.Second as SecondBy, TwoDecks.AreDecksRead, TwoDecks.Second}
use Rattle.engine.specs.{TwoDecks.not_alike, TwoDecks.second_in, Cases.After, Cases.Case, Cases.Listing, Cases.Making, Cases.Checking, Cases.Jobs}
use Rattle.engine.specs.{Cases.ConvertibleChecking, Cases.PlanChecking, Cases.Planning, Cases.Writing, Cases.Comparing, Cases.case_planned, Cases.decks_task}
use Rattle.engine.specs.{Cases.parts_read, Cases.case_of, Cases.planned_task, Cases.read_by_name, Cases.zones_read, declared.plan_parts.PlanParts.PlanParts}
use Rattle.engine.specs.{Defined.Defines, Defined.ReadsFolder, Uses.FolderUse, Uses.SinkUse, Uses.failed_write, declared.job.Job.Job, Runs.IsRunOf}
use Rattle.engine.specs.{Watched.SidePuts, Watched.Watched, Watched.views_in}
use Rattle.water_table.specs.{with_yield}
use Rattle.deck_problems.specs.{AreDecks, declared.decks.Decks.Decks}
use Rattle.deck_span.specs.{AreAlike, IsFirstDifference, declared.difference.Difference.Difference}
use Rattle.step_chain.specs.{two}
use Rattle.run_puts.specs.{IsEnd, IsLast, IsPut, EndsOutOfMemory, Text, read_fault_line, declared.puts.Status.Status}
use Rattle.run_puts.specs.declared.puts.Status.TheVariants as status
use Rattle.plan_chain.specs.{IsPlanTask, declared.step.PlanTask.PlanTask}
use Rattle.plan_listing.specs.{AreListedPlan}
use Rattle.plan_run.specs.{IsPlannedBy}
use Rattle.listing_run.specs.declared.steps.Task.{Task}

-- the puts of an end because of this fault of reading
abbrev pub IsReadingEnd : InputFault → Status → List Put → Type 0
IsReadingEnd (input.Refused refusal) end puts = IsEnd (refused_line refusal) (status.Refused refusal) end puts
IsReadingEnd input.ReadFault end puts = IsLast read_fault_line status.ReadFault end puts
IsReadingEnd input.Memory end puts = EndsOutOfMemory end puts

-- the puts of a text that others follow: it was taken; or the run ends with this status, since it wasn't taken, or memory ran out before
abbrev pub IsFirstPut : Text → Option Status → List Put → Type 0
IsFirstPut text answer puts = IsPut text answer puts ⊎ ((end : Status) × (answer ≡ Some end) × EndsOutOfMemory end puts)

-- the puts of a text that is put first, if that is asked for
abbrev pub IsFirstIf : (asked : Bool) → Text → Option Status → List Put → Type 0
IsFirstIf true text answer puts = IsFirstPut text answer puts
IsFirstIf false text answer puts = (answer ≡ None) × (puts ≡ [])

-- this refusal, or lack of memory for it
abbrev pub IsRefusedBy : Refusal → InputFault → Type 0
IsRefusedBy given (input.Refused refusal) = refusal ≡ given
IsRefusedBy given input.ReadFault = ⊥
IsRefusedBy given input.Memory = Unit {0}

-- A reading gave the deck that a name means, or the two that two names mean.
abbrev pub AreDecksAs : Limits → Text → Option Text → FileSet → Result Decks InputFault → Type 0
AreDecksAs limits name to files answer = AreDecksRead (read_by_name name (reads limits files))
    (option_map (λ last. read_by_name last (second_in limits files)) to) answer

-- the decks of two models that are alike
abbrev pub AreDecksOf : (first second : FlowModel) → Decks → Type 0
AreDecksOf a b d = (d ≡ two a b) × AreAlike a b

-- the fault of a second deck that is not like the first
abbrev pub IsNoSecond : FlowModel → Second → InputFault → Type 0
IsNoSecond a b fault = (d : Difference) × IsFirstDifference a b.model d × (AreAlike a b.model → ⊥) × IsRefusedBy (b.unlike d) fault

-- a second deck, in the form of the code
abbrev pub second_by : SecondBy → Second
second_by b = record { model = b.model; unlike = not_alike b.name.now b.files b.model.grid }

-- a listing that was read of a model, and its zones
pub record IsListed (m : FlowModel) (listing : ZonedListing) : Type 0 where
  pub zones : AreZones m listing.zones
  pub steps : AreListed m (pairs_in m listing.zones) listing.steps

-- a run that stopped before it had read everything
abbrev pub IsStopped : Status → Type 0
IsStopped end = (end ≡ status.ReadFault) ⊎ ((end ≡ status.WriteFault) ⊎ (end ≡ status.Memory))

-- the model of a job that has no refusal is valid
abbrev pub IsValidJob : Job → Type 0
IsValidJob job = IfOk job.read (λ k. AreDecks k.decks)

-- the model of a listing, of a plan, of made files, of each job or of a deck is valid, and so are the steps that are checked
abbrev pub IsValid : Case → Type 0
IsValid (Listing k) = AreDecks k.decks
IsValid (Planning k) = IsPlanTask k
IsValid (Making seed size read) = IfOk read IsModel
IsValid (Checking limits d s listing) = AreDecks d × IsListed d.first listing
IsValid (PlanChecking k steps) = IsPlanTask k × (k.quick ≡ true) × AreListedPlan k.base.first (pairs_in k.base.first k.zones) steps
IsValid (ConvertibleChecking m w s listing) = IsModel m × IsModel (with_yield m w) × IsListed m listing
IsValid (Jobs jobs) = All IsValidJob jobs
IsValid (Writing m) = IsModel m
IsValid (Comparing a b case) = (AreAlike a b.model → ⊥) ⊎ IsValid case
IsValid (After text case) = IsValid case
IsValid other = Unit {0}

-- all facts of the result of a run of this case: what was read is valid, unless the run stopped before it was read whole
pub record Answers (case : Case) (before after : ℕ) (end : Status) (puts : List Put) : Type 0 where
  pub run : IsRunOf (Rose before after) ⊥ case end puts
  pub valid : IsStopped end ⊎ IsValid case

-- all facts of the result of a run of this case with this side sink: those above, where a write beside it may fail; and
-- the side sink got the views that are asked for: of the first steps, and if the run ended Ok of all
pub record AnswersBeside (case : Case) (views : Option ℕ) (folder : FolderUse) (beside : SinkUse) (end : Status) (puts : List Put) : Type 0 where
  pub run : IsRunOf (Rose folder.before folder.after) (failed_write beside) case end puts
  pub valid : IsStopped end ⊎ IsValid case
  pub watched : end ≡ status.Ok → (n : ℕ) → views ≡ Some n → Watched true case n beside.leads
  pub side : SidePuts beside.leads case views

-- the result of a run of this order, for all files that agree with its folder: with a side sink, and without
abbrev pub Serves : Option Wanted → FolderUse → SinkUse → Status → List Put → Type 0
Serves order folder beside end puts = (files : FileSet) → folder.agrees files → AnswersBeside (case_of order files) (views_in order) folder beside end puts

abbrev pub ServesAlone : Wanted → FolderUse → Status → List Put → Type 0
ServesAlone asked folder end puts = (files : FileSet) → folder.agrees files → Answers (case_of (Some asked) files) folder.before folder.after end puts

-- a fault of the reading for a case: the refusal that the case defines; a read fault, where the folder is read; or lack of memory
abbrev pub IsFaultOf : Case → InputFault → Type 0
IsFaultOf case (input.Refused refusal) = Defines case (status.Refused refusal) (refused_line refusal ∷ []) × IsValid case
IsFaultOf case input.ReadFault = ReadsFolder case
IsFaultOf case input.Memory = Unit {0}

-- what is listed was read, its decks and the zones of their cells; or it has this fault
abbrev pub IsTaskRead : ListingOrder → Option Text → FileSet → Result Task InputFault → Type 0
IsTaskRead asked to files (Ok k) = AreDecksAs asked.limits asked.name to files (Ok k.decks) × (zones_read files asked.zones k.decks.first ≡ Ok k.zones)
IsTaskRead asked to files (Err fault) = IsFaultOf (case_of (Some (Run asked to)) files) fault

-- the parts of a plan for decks, by these limits
pub record ArePlanParts (limits : Limits) (d : Decks) (p : PlanParts) : Type 0 where
  pub wells : IsPlannedBy limits d p.wells
  pub zones : AreZones d.first p.zones

-- What is to be listed of a plan was read: its decks, and then its wells and the zones of the cells; or the case that it comes to, whichever that is, has
-- this fault.
abbrev pub IsPlanRead : AskedPlan → Option Text → FileSet → Result PlanTask InputFault → Type 0
IsPlanRead asked to files (Ok k) =
    AreDecksAs asked.limits asked.name to files (Ok k.base) × ((p : PlanParts) × (parts_read files asked k.base ≡ Ok p) × (k ≡ planned_task asked k.base p))
IsPlanRead asked to files (Err fault) = (come : PlanTask → Case) → ((k : PlanTask) → ReadsFolder (come k)) → IsFaultOf (case_planned files asked to come) fault

-- the task that this order asks for, of some decks and zones
abbrev pub IsAsked : ListingOrder → Task → Type 0
IsAsked asked k = k ≡ decks_task asked k.decks k.zones

-- a fault of reading made files: they are in memory, so one that is no refusal is lack of memory
abbrev pub made_fault : InputFault → InputFault
made_fault input.ReadFault = input.Memory
made_fault fault = fault
