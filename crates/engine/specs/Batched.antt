-- The headline of a batch: of each listing among its texts.
use Rattle.std.specs.Prelude.{◌≡◌, ℕ, ℤ, All, List, map, false, [], ◌∷◌, ◌++◌, Ok, Err, Option}
use Rattle.std.specs.{List.AllZip, List.concat, Io.KnownBytes.Appends}
use Rattle.outside.specs.{FileSet, declared.inputs.Refusal.Refusal}
use Rattle.model_types.specs.{declared.model.FlowModel.FlowModel, start_head, times, IsModel}
use Rattle.model_reader.specs.{reads}
use Rattle.flow_equations.specs.{Solves}
use Rattle.run_puts.specs.{Text, end_line, first_not_ok, texts, declared.puts.Status.Status, declared.job_end.JobEnd.JobEnd}
use Rattle.run_puts.specs.declared.puts.Status.TheVariants as status
use Rattle.listing_run.specs.{declared.solving.Step.Step, declared.text.ListingEnd.TheVariants.Whole, AllSteps, listing, BoundAll}
use Rattle.exact_histories.specs.{HasHistory, AreSame}
use Rattle.command_line.specs.{AskedBatch}
use Rattle.engine.specs.{Cases.job_of, Cases.job_task, Cases.names_read, Defined.IsJobEnd, Defined.model_line}

-- The text of a name is a listing that its files define, and without --quick the one; and every history of heads that solves
-- the manual's exact equations of these files lies, step by step and cell by cell, between its heads, with each of its budget
-- flows between its terms.
pub record IsJobListing (b : AskedBatch) (files : FileSet) (name text : Text) : Type 0 where
  -- The files read as a model, which is valid.
  pub model : FlowModel
  pub read : reads b.limits files name ≡ Ok model
  pub valid : IsModel model
  -- All its time steps have values, which are heads and budgets, and without --quick no others.
  pub values : List Step
  pub steps : AllSteps (job_task b model) values Whole
  pub only : b.quick ≡ false → (others : List Step) → AllSteps (job_task b model) others Whole → others ≡ values
  -- The text is the name and their listing.
  pub is : text ≡ model_line name ++ concat (listing (job_task b model) values end_line)
  -- The block of each time step stands under its own line STEP; no zone file is named, and no flow between zones is listed.
  pub at : map (λ v. v.at) values ≡ times model
  pub pairs : All (λ v. v.zones ≡ []) values
  -- Every history over any denominator d that solves the model's exact equations lies between them.
  pub encloses : (d : ℕ) (history : List (ℕ → ℤ)) → Solves model d history → BoundAll (job_task b model) model d (start_head model) values history
  -- And there is one: a history solves them, and any two are the same heads at all active cells, step by step.
  pub solvable : HasHistory model
  pub one : (d e : ℕ) (history other : List (ℕ → ℤ)) → Solves model d history → Solves model e other → AreSame model d e history other

-- A name's job ended so: with a status and a text that its files allow a run of its model; if Ok, it is such a listing.
pub record HasEnded (b : AskedBatch) (files : FileSet) (name : Text) (e : JobEnd) : Type 0 where
  pub end : IsJobEnd (job_of b files name) e
  pub listing : e.status ≡ status.Ok → IsJobListing b files name e.text.items

-- A batch that was asked for so, over these files, whose jobs ran, where a sink had the bytes `old` before it and `new` after
-- it, has written one text for each name of its list, in the order of the list, and END; and its status is that of the
-- first job that didn't end Ok.
pub record Batched (asked : AskedBatch) (files : FileSet) (end : Status) (old new : Option (List ℕ)) : Type 0 where
  -- Its list has these names.
  pub names : List Text
  pub read : names_read files asked ≡ Ok names
  -- Each has one end.
  pub ends : List JobEnd
  pub each : AllZip (HasEnded asked files) names ends
  pub status_is : end ≡ first_not_ok ends
  -- Their texts and END were appended, and nothing else.
  pub written : Appends old new (concat (texts ends ++ (end_line ∷ [])))

-- The batch ended with the first refusal of its list.
abbrev pub HasNoList : AskedBatch → FileSet → Status → Type 0
HasNoList b files end = (refusal : Refusal) × (names_read files b ≡ Err refusal) × (end ≡ status.Refused refusal)
