-- The case of a run: what its words and files define.
use Rattle.std.specs.Prelude.{◌≡◌, ℕ, Bool, true, false, List, [], ◌++◌, map, Result, Ok, Err, IfOk, Option, Some, None, codes, if◌then◌else◌, option_map}
use Rattle.std.specs.Prelude.{is_some, unsigned_abs}
use Rattle.outside.specs.{FileSet, with_limit, file_at, file_refusal, is_good_name, declared.codes.Code.TheVariants.BadName, declared.inputs.Refusal.Refusal}
use Rattle.record_lines.specs.{◌>>=◌}
use Rattle.model_types.specs.{most_bytes, declared.limits.Limits.Limits, declared.limits.Limits.TheVariants.Plain, declared.model.FlowModel.FlowModel}
use Rattle.command_line.specs.{ListingOrder, AskedBatch, AskedCheck, AskedPlan, AskedText, Batch, Check, CheckConvertible, CheckPlan, CheckText, Make, Plan}
use Rattle.command_line.specs.{Run, Wanted, Words, Write, wanted_by, declared.order.Order.Order, declared.order.WordsFault.WordsFault}
use Rattle.command_line.specs.declared.order.WordsFault.TheVariants as fault
use Rattle.model_reader.specs.{reads}
use Rattle.model_text.specs.{zoned_text}
use Rattle.zone_file.specs.{zones_of}
use Rattle.model_maker.specs.{made_files, made_name}
use Rattle.zone_pairs.specs.{pairs_in}
use Rattle.listing_io.specs.{declared.listing.ListedStep.ListedStep, convertible_listing_in, listing_in}
use Rattle.water_table.specs.declared.convertible_layers.ConvertibleLayers.{ConvertibleLayers}
use Rattle.convertible_reader.specs.{convertible_reads}
use Rattle.run_puts.specs.{Text}
use Rattle.listing_run.specs.{declared.steps.Task.Task, deck_task, one_task}
use Rattle.deck_span.specs.{AreAlike}
use Rattle.deck_problems.specs.{declared.decks.Decks.Decks, one_deck}
use Rattle.step_chain.specs.{two}
use Rattle.batch_list.specs.{names_in}
use Rattle.stated_text.specs.{steps_after, unlike, declared.part.Part.Part}
unfoldable use Rattle.stated_text.specs.{parts_in}
use Rattle.engine.specs.{declared.job.Job.Job, declared.plan_parts.PlanParts.PlanParts, declared.zoned.ZonedListing.ZonedListing, TwoDecks.Second}
use Rattle.engine.specs.{TwoDecks.second_in, Words.words_text}
use Rattle.plan_chain.specs.declared.step.PlanTask.{PlanTask}
use Rattle.plan_listing.specs.{plan_listing_in, declared.listing.ListedPlanStep.ListedPlanStep}
use Rattle.plan_run.specs.{planned_in, declared.decks.PlannedDecks.PlannedDecks}

-- the order for one model: none if it is for a batch
abbrev pub but_batch : Option Wanted → Option Wanted
but_batch (Some (Batch b)) = None
but_batch order = order

-- the order for one model, by what was read of the words; it isn't known if memory ran out
abbrev pub IsOrder : Result Order WordsFault → Option Wanted → Type 0
IsOrder read one = IfOk read (λ order. one ≡ but_batch (Some (wanted_by order))) × (read ≡ Err fault.Usage → one ≡ None)

-- no file of the folder is read: without a command, to make a model, and to say the words
abbrev pub ReadsNothing : Option Wanted → Type 0
ReadsNothing None = Unit {0}
ReadsNothing (Some (Make seed size)) = Unit {0}
ReadsNothing (Some Words) = Unit {0}
ReadsNothing asked = ⊥

-- what is listed of a model, with the zones of its cells if there is a zone file
abbrev pub task_of : ListingOrder → FlowModel → Option (List ℕ) → Task
task_of asked m zones = one_task asked.limits m asked.digits zones asked.rounds asked.quick

-- what is listed of decks, and of all models between two
abbrev pub decks_task : ListingOrder → Decks → Option (List ℕ) → Task
decks_task asked d zones = deck_task asked.limits d asked.digits zones asked.rounds asked.quick

abbrev pub span_task_of : ListingOrder → (first second : FlowModel) → Option (List ℕ) → Task
span_task_of asked first second zones = decks_task asked (two first second) zones

-- The case of a run: the words aren't accepted; this is the first refusal; this is listed; this is listed of a plan; a model is made from this
-- seed and size, whose files read as this one or have this refusal; this listing of decks is checked, by these limits and
-- with these digits; this listing of a plan is checked; this listing of a model with these convertible layers is checked, with these
-- digits; these jobs of a batch are run; the deck of a model is written; this text is said; this text is put first,
-- as one piece, and then this is the case; or two decks are compared, and where they are alike this is the case.
pub data Case : Type 0 where
  NoWords : Case
  Refuses : Refusal → Case
  Listing : Task → Case
  Planning : PlanTask → Case
  Making : ℕ → ℕ → Result FlowModel Refusal → Case
  Checking : Limits → Decks → ℕ → ZonedListing → Case
  PlanChecking : PlanTask → List ListedPlanStep → Case
  ConvertibleChecking : FlowModel → ConvertibleLayers → ℕ → ZonedListing → Case
  Jobs : List Job → Case
  Writing : FlowModel → Case
  Saying : Text → Case
  After : Text → Case → Case
  Comparing : FlowModel → Second → Case → Case

-- the task that is listed, of one deck, or of two that are alike, perhaps after their text
abbrev pub IsListingOf : Task → Case → Type 0
IsListingOf task (Listing k) = k ≡ task
IsListingOf task (Comparing a b case) = AreAlike a b.model × IsListingOf task case
IsListingOf task (After text case) = IsListingOf task case
IsListingOf task other = ⊥

-- what a name means, by this reading of the files under it; a bad name is refused before any file
abbrev pub read_by_name : {T : Type 0} → Text → (Text → Result T Refusal) → Result T Refusal
read_by_name name read = if is_good_name name then read name else Err (file_refusal BadName (codes "-"))

-- the model of the files of a made model
abbrev pub made_model : ℕ → ℕ → Result FlowModel Refusal
made_model seed size = read_by_name made_name (reads Plain (with_limit (most_bytes Plain) (made_files seed size)))

-- the zones of the named zone file, if there is one, as unsigned numbers
abbrev pub zones_read : FileSet → Option Text → FlowModel → Result (Option (List ℕ)) Refusal
zones_read files None m = Ok None
zones_read files (Some name) m = zones_of files m.grid name >>= λ zones. Ok (Some (map unsigned_abs zones))

-- the steps of the listing that a check names, as a listing of a model with these zones, or of all models between two; its name is
-- tested once the model and the zone file are read
abbrev pub steps_read : Bool → FileSet → AskedCheck → FlowModel → Option (List ℕ) → Result (List ListedStep) Refusal
steps_read between files asked m zones =
    read_by_name asked.listing (file_at files) >>= listing_in between m asked.digits (pairs_in m zones) asked.listing

-- the listing that a check names, with the zones of its zone file, if there is one, which is read first
abbrev pub listing_read : Bool → FileSet → AskedCheck → FlowModel → Result ZonedListing Refusal
listing_read between files asked m = do
  zones ← zones_read files asked.zones m
  steps ← steps_read between files asked m zones
  Ok (record { zones = zones; steps = steps })

-- The same of a listing of a model with convertible layers.
abbrev pub convertible_steps_read : FileSet → AskedCheck → FlowModel → Option (List ℕ) → Result (List ListedStep) Refusal
convertible_steps_read files asked m zones =
    read_by_name asked.listing (file_at files) >>= convertible_listing_in m asked.digits (pairs_in m zones) asked.listing

abbrev pub convertible_listing_read : FileSet → AskedCheck → FlowModel → Result ZonedListing Refusal
convertible_listing_read files asked m = do
  zones ← zones_read files asked.zones m
  steps ← convertible_steps_read files asked m zones
  Ok (record { zones = zones; steps = steps })

-- the wells that a plan adds to decks, from its file, and the decks with them; its name is tested once the decks are read
abbrev pub wells_read : FileSet → Limits → Text → Decks → Result PlannedDecks Refusal
wells_read files limits wells d = read_by_name wells (file_at files) >>= planned_in limits wells d

-- they, and then the zones of the cells
abbrev pub parts_read : FileSet → AskedPlan → Decks → Result PlanParts Refusal
parts_read files asked d = do
  wells ← wells_read files asked.limits asked.wells d
  zones ← zones_read files asked.zones d.first
  Ok (record { wells = wells; zones = zones })

-- what is listed of a plan
abbrev pub planned_task : AskedPlan → Decks → PlanParts → PlanTask
planned_task asked d p =
    record {
      limits = asked.limits;
      base = d;
      planned = p.wells.decks;
      plan = p.wells.plan;
      digits = asked.digits;
      zones = p.zones;
      rounds = asked.rounds;
      quick = asked.quick;
    }

-- what is to be listed of a plan whose listing is checked: any certificates, as by a quick run; workers and rounds have no effect
abbrev pub as_plan : AskedCheck → Text → AskedPlan
as_plan asked wells =
    record {
      limits = asked.limits;
      name = asked.name;
      wells = wells;
      digits = asked.digits;
      workers = 1;
      rounds = 1;
      zones = asked.zones;
      quick = true;
    }

-- the steps of the listing of this name, as a listing of a plan, of one deck or of two; its name is tested once all else is read
abbrev pub plan_steps_read : Bool → FileSet → Text → PlanTask → Result (List ListedPlanStep) Refusal
plan_steps_read between files name k =
    read_by_name name (file_at files) >>= plan_listing_in between k.base.first k.digits (pairs_in k.base.first k.zones) name

-- the names of a batch's list; the list's own name is tested before its file
abbrev pub names_read : FileSet → AskedBatch → Result (List Text) Refusal
names_read files b = read_by_name b.list (file_at files) >>= names_in b.list

-- what is listed of a model of the batch
abbrev pub job_task : AskedBatch → FlowModel → Task
job_task b m = one_task b.limits m b.digits None b.rounds b.quick

-- the job of a name: what is listed, or the first refusal of its files
abbrev pub job_of : AskedBatch → FileSet → Text → Job
job_of b files name = record { name = name; read = reads b.limits files name >>= λ m. Ok (job_task b m) }

-- the jobs of a batch, or its list's first refusal
abbrev pub jobs_read : FileSet → AskedBatch → Result (List Job) Refusal
jobs_read files b = names_read files b >>= λ names. Ok (map (job_of b files) names)

-- what is read comes to a case, or to its refusal
abbrev pub case_read : {T : Type 0} → Result T Refusal → (T → Case) → Case
case_read (Ok value) come = come value
case_read (Err refusal) come = Refuses refusal

-- Decks that are read, a first one and a second one if there is one, come to this case, or to the refusal of the first or else
-- of the second. Two are compared.
abbrev pub case_decks : Result FlowModel Refusal → Option (Result Second Refusal) → (Decks → Case) → Case
case_decks (Ok a) None come = come (one_deck a)
case_decks (Ok a) (Some second) come = case_read second (λ b. Comparing a b (come (two a b.model)))
case_decks (Err refusal) second come = Refuses refusal

-- the decks that a name means, and a second one if there is one
abbrev pub case_named : FileSet → Limits → Text → Option Text → (Decks → Case) → Case
case_named files limits name to come = case_decks (read_by_name name (reads limits files))
    (option_map (λ last. read_by_name last (second_in limits files)) to) come

-- what is to be listed of a plan comes to this case, or to the first refusal of its decks, its wells or the zones
abbrev pub case_planned : FileSet → AskedPlan → Option Text → (PlanTask → Case) → Case
case_planned files asked to come = case_named files asked.limits asked.name to (λ d. case_read (parts_read files asked d) (λ p. come (planned_task asked d p)))

-- the listing of this name is checked as one of this plan
abbrev pub to_plan_check : Bool → FileSet → Text → PlanTask → Case
to_plan_check between files name k = case_read (plan_steps_read between files name k) (PlanChecking k)

-- a listing of this model with convertible layers is checked
abbrev pub to_convertible_check : FileSet → AskedCheck → FlowModel × ConvertibleLayers → Case
to_convertible_check files asked x = case_read (convertible_listing_read files asked x.0) (ConvertibleChecking x.0 x.1 asked.digits)

-- the text of decks, each with the zones of its cells if there is a zone file
abbrev pub second_text : Option FlowModel → Option (List ℕ) → Text
second_text None zones = []
second_text (Some m) zones = zoned_text m zones

abbrev pub decks_text : Decks → Option (List ℕ) → Text
decks_text d zones = zoned_text d.first zones ++ second_text d.second zones

-- a text is put first if that is asked for
abbrev pub after_text : (asked : Bool) → Text → Case → Case
after_text true text case = After text case
after_text false text case = case

-- The case of decks that are listed, with these zones of their cells if there is a zone file: after their text with --deck.
abbrev pub case_listed : ListingOrder → Decks → Option (List ℕ) → Case
case_listed asked d zones = after_text asked.deck (decks_text d zones) (Listing (decks_task asked d zones))

-- The case of the listing at the end of a text, from this line on, after decks with these zones of their cells: it is checked.
abbrev pub case_rest : AskedText → Decks → Option (List ℕ) → (line : ℕ) → (rest : List ℕ) → Case
case_rest asked d zones line rest =
    case_read (steps_after (is_some d.second) d.first asked.digits (pairs_in d.first zones) asked.text line rest)
    (λ steps. Checking asked.limits d asked.digits (record { zones = zones; steps = steps }))

-- the case of the decks in a text: of one, or of two, which are compared
abbrev pub case_parts : AskedText → Part → Option Part → Case
case_parts asked a None = case_rest asked (one_deck a.model) a.zones a.line a.rest
case_parts asked a (Some b) =
    Comparing a.model (record { model = b.model; unlike = unlike asked.text b }) (case_rest asked (two a.model b.model) a.zones b.line b.rest)

-- The case of this order and these files. It does not depend on the number of workers, nor on views.
abbrev pub case_of : Option Wanted → FileSet → Case
case_of None files = NoWords
case_of (Some (Run asked to)) files =
    case_named files asked.limits asked.name to (λ d. case_read (zones_read files asked.zones d.first) (case_listed asked d))
case_of (Some (Plan asked to)) files = case_planned files asked to Planning
case_of (Some (CheckPlan asked wells to)) files = case_planned files (as_plan asked wells) to (to_plan_check (is_some to) files asked.listing)
case_of (Some (CheckConvertible asked)) files =
    case_read (read_by_name asked.name (convertible_reads asked.limits files)) (to_convertible_check files asked)
case_of (Some (Make seed size)) files = Making seed size (made_model seed size)
case_of (Some (Check asked to)) files =
    case_named files asked.limits asked.name to (λ d. case_read (listing_read (is_some to) files asked d.first) (Checking asked.limits d asked.digits))
case_of (Some (Batch b)) files = case_read (jobs_read files b) Jobs
case_of (Some (Write limits name)) files = case_named files limits name None (λ d. Writing d.first)
case_of (Some (CheckText asked)) files =
    case_read (read_by_name asked.text (file_at files)) (λ bytes. case_read (parts_in asked.limits asked.text bytes) (λ p. case_parts asked p.first p.second))
case_of (Some Words) files = Saying words_text

-- The case of a run is the same by any number of workers, watched or not, and so is that of a plan, and of a batch.
pub record WorkersChangeNoCase : Type 0 where
  pub runs : (asked : ListingOrder) (to : Option Text) (files : FileSet) (workers : ℕ) (watch : Option ℕ) →
      case_of (Some (Run (record asked { workers = workers; watch = watch }) to)) files ≡ case_of (Some (Run asked to)) files
  pub plans : (asked : AskedPlan) (to : Option Text) (files : FileSet) (workers : ℕ) →
      case_of (Some (Plan (record asked { workers = workers }) to)) files ≡ case_of (Some (Plan asked to)) files
  pub batches : (asked : AskedBatch) (files : FileSet) (workers : ℕ) →
      case_of (Some (Batch (record asked { workers = workers }))) files ≡ case_of (Some (Batch asked)) files
