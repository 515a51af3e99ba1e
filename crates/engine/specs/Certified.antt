-- What a certified listing promises.
use Rattle.std.specs.Prelude.{◌≡◌, ℕ, ℤ, false, List, Ok, Option}
use Rattle.std.specs.Io.KnownBytes.{Appends}
use Rattle.command_line.specs.{AskedCheck}
use Rattle.outside.specs.{FileSet}
use Rattle.model_types.specs.{declared.model.FlowModel.FlowModel, start_head, times, IsModel}
use Rattle.model_reader.specs.{reads}
use Rattle.flow_equations.specs.{Solves}
use Rattle.listing_io.specs.declared.listing.ListedStep.{ListedStep}
use Rattle.listing_run.specs.{BoundAll}
use Rattle.deck_problems.specs.{one_deck}
use Rattle.check_run.specs.{checked_task, steps_of}
use Rattle.exact_histories.specs.{HasHistory, AreSame}
use Rattle.engine.specs.{Cases.steps_read, Cases.zones_read, Checked.certified_line}

-- A check that was asked for so, over these files, that ended Ok, where a sink had the bytes `old` before it and `new` after
-- it: the files have a listing, whoever wrote it, and every history of heads that solves the manual's exact equations
-- of the files lies, step by step and cell by cell, between its heads, with each of its budget flows between its terms, and
-- each of its flows between two zones of a zone file between its two numbers. How it was judged stands in `OneVerdict`.
pub record Certified (asked : AskedCheck) (files : FileSet) (old new : Option (List ℕ)) : Type 0 where
  -- The files read as a model, which is valid, and as zones of its cells where a zone file is named, and the named file as a
  -- listing of it.
  pub model : FlowModel
  pub read : reads asked.limits files asked.name ≡ Ok model
  pub valid : IsModel model
  pub zones : Option (List ℕ)
  pub zoned : zones_read files asked.zones model ≡ Ok zones
  pub steps : List ListedStep
  pub listed : steps_read false files asked model zones ≡ Ok steps
  -- The line CERTIFIED was appended, and nothing else.
  pub written : Appends old new certified_line
  -- Every history over any denominator d that solves the model's exact equations lies within what it lists.
  pub encloses : (d : ℕ) (history : List (ℕ → ℤ)) → Solves model d history →
      BoundAll (checked_task (one_deck model) asked.digits zones) model d (start_head model) (steps_of (times model) steps) history
  -- And there is one: a history solves them, and any two are the same heads at all active cells, step by step.
  pub solvable : HasHistory model
  pub one : (d e : ℕ) (history other : List (ℕ → ℤ)) → Solves model d history → Solves model e other → AreSame model d e history other
