-- What a certified listing of a model with convertible layers promises.
use Rattle.std.specs.Prelude.{◌≡◌, ℕ, ℤ, List, Ok, Option}
use Rattle.std.specs.Io.KnownBytes.{Appends}
use Rattle.command_line.specs.{AskedCheck}
use Rattle.outside.specs.{FileSet}
use Rattle.model_types.specs.{declared.model.FlowModel.FlowModel, start_head, times, IsModel}
use Rattle.listing_io.specs.declared.listing.ListedStep.{ListedStep}
use Rattle.water_table.specs.{declared.convertible_layers.ConvertibleLayers.ConvertibleLayers, NearlySolves}
use Rattle.water_enclosure.specs.{flow_unit}
use Rattle.convertible_reader.specs.{convertible_reads}
use Rattle.gentle_run.specs.{IsVerdict, StepsEnclose, declared.verdict.GentleVerdict.TheVariants.Certified as Holds}
use Rattle.engine.specs.{Cases.convertible_steps_read, Cases.zones_read, Checked.certified_line, ConvertibleChecked.HasGentleHistories}

-- A check with --convertible that was asked for so, over these files, that ended Ok, where a sink had the bytes `old` before it and `new` after it: the files
-- have a listing, whoever wrote it, and every history of gentle heads that balances each variable cell of the files' model at each step to less than one
-- unit of flow of the listing lies, step by step and cell by cell, between its heads, with each of its budget's terms between its two numbers, and each of
-- its flows between two zones of a zone file. How it was judged stands in `ConvertibleVerdict`.
pub record ConvertibleCertified (asked : AskedCheck) (files : FileSet) (old new : Option (List ℕ)) : Type 0 where
  -- The files read as a model, which is valid, and its convertible layers; as zones of its cells where a zone file is named; and the named file as a listing
  -- of it.
  pub model : FlowModel
  pub layers : ConvertibleLayers
  pub read : convertible_reads asked.limits files asked.name ≡ Ok (model, layers)
  pub valid : IsModel model
  pub zones : Option (List ℕ)
  pub zoned : zones_read files asked.zones model ≡ Ok zones
  pub steps : List ListedStep
  pub listed : convertible_steps_read files asked model zones ≡ Ok steps
  -- The line CERTIFIED was appended, and nothing else.
  pub written : Appends old new certified_line
  -- Every history over any denominator d that nearly solves the model's equations by gentle heads lies within what it lists.
  pub encloses : (d : ℕ) (history : List (ℕ → ℤ)) → NearlySolves (flow_unit asked.digits) model layers d history →
      StepsEnclose asked.digits model layers zones d (start_head model) (times model) steps history
  -- And there are such: within the listed heads is one that solves them as nearly as is wanted.
  pub exists : HasGentleHistories asked.digits model layers steps

-- Such a check found that each step of the named listing is certified.
pub record ConvertibleVerdict (asked : AskedCheck) (files : FileSet) (old new : Option (List ℕ)) : Type 0 where
  pub certified : ConvertibleCertified asked files old new
  pub verdict : IsVerdict certified.model certified.layers asked.digits certified.zones certified.steps Holds
