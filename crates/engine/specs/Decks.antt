-- What is promised of a deck that is written.
use Rattle.std.specs.Prelude.{◌≡◌, ℕ, List, Ok, Option}
use Rattle.std.specs.Io.KnownBytes.{Appends}
use Rattle.outside.specs.{FileSet}
use Rattle.model_types.specs.{declared.limits.Limits.Limits, declared.model.FlowModel.FlowModel, IsModel}
use Rattle.model_reader.specs.{reads}
use Rattle.model_text.specs.{deck_text, IsReadAgain}
use Rattle.run_puts.specs.{Text}

-- A run by these limits over these files, of this name, that ended Ok, where a sink had the bytes `old` before it and `new` after it,
-- has written the one deck of the model that the files read as; and the files of that deck are read as the same model.
pub record OneDeck (limits : Limits) (name : Text) (files : FileSet) (old new : Option (List ℕ)) : Type 0 where
  -- The files read as a model, which is valid.
  pub model : FlowModel
  pub read : reads limits files name ≡ Ok model
  pub valid : IsModel model
  -- The text of the model's deck was appended, and nothing else.
  pub written : Appends old new (deck_text model)
  -- Its files are read as the model, where each IBOUND has at most 18 digits and no file is too long.
  pub again : IsReadAgain limits model
