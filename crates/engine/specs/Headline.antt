-- The headline.
use Rattle.std.specs.Prelude.{◌≡◌, ℕ, ℤ, All, List, map, Ok, Option}
use Rattle.std.specs.{List.concat, Io.KnownBytes.Appends}
use Rattle.command_line.specs.{ListingOrder}
use Rattle.outside.specs.{FileSet}
use Rattle.model_types.specs.{declared.model.FlowModel.FlowModel, start_head, times, IsModel}
use Rattle.model_reader.specs.{reads}
use Rattle.flow_equations.specs.{Solves}
use Rattle.run_puts.specs.{end_line}
use Rattle.zone_pairs.specs.{pairs_in, zones_of_flow}
use Rattle.listing_run.specs.{declared.solving.Step.Step, listing, BoundAll}
use Rattle.exact_histories.specs.{HasHistory, AreSame}
use Rattle.engine.specs.Cases.{task_of, zones_read}

-- The flows that are listed of a step are those between each two zones that share a face in its stress period, each once and in
-- order; without a zone file there are none.
abbrev pub ListsPairs : FlowModel → Option (List ℕ) → Step → Type 0
ListsPairs m zones v = map zones_of_flow v.zones ≡ pairs_in m zones v.at.period

-- A run that was asked for so, over these files, that ended Ok, where a sink had the bytes `old` before it and `new` after it,
-- has written a listing of the model that the files read as; and every history of heads that solves the manual's exact
-- equations of these files lies, step by step and cell by cell, between its heads, with each of its budget flows
-- between its terms, and each of its flows between two zones of a zone file between its two numbers. That it is the one
-- listing which the files define stands in `OneListing`.
pub record Headline (asked : ListingOrder) (files : FileSet) (old new : Option (List ℕ)) : Type 0 where
  -- The files read as a model, which is valid, and as zones of its cells where a zone file is named.
  pub model : FlowModel
  pub read : reads asked.limits files asked.name ≡ Ok model
  pub valid : IsModel model
  pub zones : Option (List ℕ)
  pub zoned : zones_read files asked.zones model ≡ Ok zones
  -- The listing of some values, which are the heads, the budget and the flows between zones of each step, was appended, and nothing else.
  pub values : List Step
  pub written : Appends old new (concat (listing (task_of asked model zones) values end_line))
  -- The block of each time step stands under its own line STEP, and lists the flow between each two zones that share a face.
  pub at : map (λ v. v.at) values ≡ times model
  pub pairs : All (ListsPairs model zones) values
  -- Every history over any denominator d that solves the model's exact equations lies between them.
  pub encloses : (d : ℕ) (history : List (ℕ → ℤ)) → Solves model d history → BoundAll (task_of asked model zones) model d (start_head model) values history
  -- And there is one: a history solves them, and any two are the same heads at all active cells, step by step.
  pub solvable : HasHistory model
  pub one : (d e : ℕ) (history other : List (ℕ → ℤ)) → Solves model d history → Solves model e other → AreSame model d e history other
