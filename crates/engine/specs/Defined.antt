-- The end and the pieces that a case defines.
use Rattle.std.specs.Prelude.{◌≡◌, ◌⊎◌, List, [], ◌∷◌, ◌++◌, Result, Ok, Err, codes}
use Rattle.std.specs.List.{concat}
use Rattle.outside.specs.declared.inputs.Refusal.{Refusal}
use Rattle.command_line.specs.{usage_line}
use Rattle.listing_io.specs.{refused_line}
use Rattle.run_puts.specs.{Text, read_fault_line, IsBatch, declared.puts.Status.Status, declared.job_end.JobEnd.JobEnd}
use Rattle.run_puts.specs.declared.puts.Status.TheVariants as status
use Rattle.listing_run.specs.{declared.steps.Task.Task, IsListing, IsCutListing}
use Rattle.engine.specs.{declared.job.Job.Job, Cases.Case, Cases.NoWords, Cases.Refuses, Cases.Listing, Cases.Planning, Cases.Making, Cases.Checking}
use Rattle.engine.specs.{Cases.PlanChecking, Cases.Jobs, Cases.Writing, Cases.Saying, Cases.After, Cases.Comparing, Cases.ConvertibleChecking}
use Rattle.engine.specs.{TwoDecks.IsUnlike, Made.IsMade, Checked.IsCheck, ConvertibleChecked.IsConvertibleCheck, PlanChecked.IsPlanCheck}
use Rattle.plan_run.specs.{IsCutPlanListing, IsPlanListing}
use Rattle.deck_span.specs.{AreAlike}
use Rattle.model_text.specs.{deck_text}

-- a refusal has this end and these pieces: its line
abbrev pub IsRefusal : Refusal → Status → List Text → Type 0
IsRefusal refusal end pieces = (end ≡ status.Refused refusal) × (pieces ≡ refused_line refusal ∷ [])

-- the line before the text of a job
abbrev pub model_line : Text → Text
model_line name = codes "MODEL " ++ (name ++ codes "\n")

-- what was read of a job's name has this end and these pieces: those of its listing, or of its refusal
abbrev pub JobDefines : Result Task Refusal → Status → List Text → Type 0
JobDefines (Ok k) end pieces = IsListing k end pieces
JobDefines (Err refusal) end pieces = IsRefusal refusal end pieces

-- A job may have this status, and its pieces are this text after the bytes `before`.
pub record IsRunText (read : Result Task Refusal) (before : Text) (e : JobEnd) : Type 0 where
  pub pieces : List Text
  pub defined : JobDefines read e.status pieces
  pub text : e.text.items ≡ before ++ concat pieces

-- A job may end with this status and this text: its name, and then the pieces of a run of its model.
abbrev pub IsJobEnd : Job → JobEnd → Type 0
IsJobEnd job e = IsRunText job.read (model_line job.name) e

-- a text is said: it is put as one piece, and the end is Ok
abbrev pub IsSaid : Text → Status → List Text → Type 0
IsSaid text end pieces = (end ≡ status.Ok) × (pieces ≡ text ∷ [])

-- a text is the first piece, and this holds of the others
pub record IsAfter (text : Text) (Then : List Text → Type 0) (pieces : List Text) : Type 0 where
  pub others : List Text
  pub are : pieces ≡ text ∷ others
  pub then : Then others

-- A run of this case has this end and these pieces: the usage line; the line of the refusal; a listing, or one of a plan, whole or up
-- to a step without bounds or one that the rounds don't settle; the pieces of a made model; the line of a check's
-- verdict; the text of each job of a batch, in the order of the list, and END; the text of a deck; the text that is said; a text and then what
-- is due after it; or of two decks the refusal of their first difference, or where they are alike what is due then.
abbrev pub Defines : Case → Status → List Text → Type 0
Defines NoWords end pieces = (end ≡ status.Usage) × (pieces ≡ usage_line ∷ [])
Defines (Refuses refusal) end pieces = IsRefusal refusal end pieces
Defines (Listing k) end pieces = IsListing k end pieces
Defines (Planning k) end pieces = IsPlanListing k end pieces
Defines (Making seed size read) end pieces = IsMade seed size read end pieces
Defines (Checking limits d s listing) end pieces = IsCheck limits d s listing end pieces
Defines (PlanChecking k steps) end pieces = IsPlanCheck k steps end pieces
Defines (ConvertibleChecking m w s listing) end pieces = IsConvertibleCheck m w s listing end pieces
Defines (Jobs jobs) end pieces = IsBatch IsJobEnd jobs end pieces
Defines (Writing m) end pieces = IsSaid (deck_text m) end pieces
Defines (Saying text) end pieces = IsSaid text end pieces
Defines (After text case) end pieces = IsAfter text (Defines case end) pieces
Defines (Comparing a b case) end pieces = IsUnlike a b end pieces ⊎ (AreAlike a b.model × Defines case end pieces)

-- the files of the given folder are read: not without a command, not to make a model, and not to say a text
abbrev pub ReadsFolder : Case → Type 0
ReadsFolder NoWords = ⊥
ReadsFolder (Making seed size read) = ⊥
ReadsFolder (Saying text) = ⊥
ReadsFolder other = Unit {0}

-- the pieces after which a run may stop because memory ran out, or a write beside it failed: the first ones of a listing; or the text
-- before it, alone or with them
abbrev pub CutOf : Case → List Text → Type 0
CutOf (Listing k) pieces = IsCutListing k pieces
CutOf (Planning k) pieces = IsCutPlanListing k pieces
CutOf (Comparing a b case) pieces = AreAlike a b.model × CutOf case pieces
CutOf (After text case) pieces = IsAfter text (λ others. (others ≡ []) ⊎ CutOf case others) pieces
CutOf other pieces = ⊥

-- The pieces due if a run has this end: those that are defined; if a read failed, the line READFAULT alone; or if a write beside it
-- failed, those after which it may stop.
pub data IsDue (read_failed failed_beside : Type 0) (defines : Status → List Text → Type 0) (cuts : List Text → Type 0) : Status → List Text → Type 0 where
  defined : (end : Status) (pieces : List Text) → defines end pieces → IsDue read_failed failed_beside defines cuts end pieces
  unread : read_failed → IsDue read_failed failed_beside defines cuts status.ReadFault (read_fault_line ∷ [])
  broken_off : (pieces : List Text) → failed_beside → cuts pieces → IsDue read_failed failed_beside defines cuts status.WriteFault pieces

abbrev pub Due : Type 0 → Type 0 → Case → Status → List Text → Type 0
Due read_failed failed_beside case = IsDue (read_failed × ReadsFolder case) failed_beside (Defines case) (CutOf case)
