-- A model that is made from a seed: the end and the pieces of its run.
use Rattle.outside.specs.{with_limit, declared.inputs.Refusal.Refusal}
use Rattle.model_types.specs.{most_bytes, start_head, IsModel, declared.limits.Limits.TheVariants.Plain, declared.grid.Grid.Grid}
use Rattle.model_types.specs.{declared.model.FlowModel.FlowModel}
use Rattle.std.specs.Prelude.{◌≡◌, ℕ, ℤ, false, List, [], ◌∷◌, Ok, Err, Option, None, Result}
use Rattle.std.specs.Io.KnownBytes.{Appends}
use Rattle.model_maker.specs.{made_files, made_name}
use Rattle.model_reader.specs.{reads}
use Rattle.flow_equations.specs.{Solves}
use Rattle.listing_io.specs.{refused_line}
use Rattle.run_puts.specs.{Text, declared.puts.Status.Status}
use Rattle.run_puts.specs.declared.puts.Status.TheVariants as status
use Rattle.listing_run.specs.{declared.text.ListingEnd.ListingEnd, declared.steps.Task.Task, declared.solving.Step.Step, BoundAll, IsListing, last_line}
use Rattle.listing_run.specs.{one_task}
use Rattle.listing_run.specs.declared.text.ListingEnd.TheVariants as ends
use Rattle.listing_summary.specs.{declared.summary.Summary.Summary, summary_of, summary_text}
use Rattle.exact_histories.specs.{HasHistory, AreSame}

-- the task of its listing, with the digits and the rounds of a run without options
abbrev pub made_task : FlowModel → Task
made_task m = one_task Plain m 12 None 1000000 false

-- a whole listing is put as its summary, any other one as its last line
abbrev pub summed_text : ℕ → ℕ → Grid → Summary → ListingEnd → Text
summed_text seed size g s ends.Whole = summary_text seed size s
summed_text seed size g s last = last_line g last

-- Of a listing that ends so only this is put.
pub record IsSummed (seed size : ℕ) (k : Task) (end : Status) (pieces : List Text) : Type 0 where
  pub all : List Text
  pub listed : IsListing k end all
  pub are : pieces ≡ summed_text seed size k.decks.first.grid (summary_of k.decks.first listed.values) listed.last ∷ []

-- a run of the made files, with this result of reading them
abbrev pub IsMade : ℕ → ℕ → Result FlowModel Refusal → Status → List Text → Type 0
IsMade seed size (Err refusal) end pieces = (end ≡ status.Refused refusal) × (pieces ≡ refused_line refusal ∷ [])
IsMade seed size (Ok m) end pieces = IsSummed seed size (made_task m) end pieces

-- A run that makes a model from this seed and size and ended Ok, where a sink had the bytes `old` before it and `new` after it, has written the
-- summary of a listing of the model that the made files read as; and every history of heads that solves the manual's
-- exact equations of these files lies between the heads and the terms of that listing. That it is the one listing which
-- the made files define stands in `OneSummary`.
pub record Made (seed size : ℕ) (old new : Option (List ℕ)) : Type 0 where
  -- The made files read as a model, which is valid.
  pub model : FlowModel
  pub read : reads Plain (with_limit (most_bytes Plain) (made_files seed size)) made_name ≡ Ok model
  pub valid : IsModel model
  -- The summary of the listing of some values, which are the heads and the budget of each step, was appended, and nothing else.
  pub values : List Step
  pub written : Appends old new (summary_text seed size (summary_of model values))
  -- Every history over any denominator d that solves the model's exact equations lies between them.
  pub encloses : (d : ℕ) (history : List (ℕ → ℤ)) → Solves model d history → BoundAll (made_task model) model d (start_head model) values history
  -- And there is one: a history solves them, and any two are the same heads at all active cells, step by step.
  pub solvable : HasHistory model
  pub one : (d e : ℕ) (history other : List (ℕ → ℤ)) → Solves model d history → Solves model e other → AreSame model d e history other
