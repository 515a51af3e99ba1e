-- What stands in a text that is read.
use Rattle.std.specs.Prelude.{◌≡◌, ℕ, Bool, List, [], ◌++◌, Option, Some, None}
use Rattle.outside.specs.{lines}
use Rattle.model_types.specs.declared.model.FlowModel.{FlowModel}
use Rattle.model_text.specs.{zoned_text}
use Rattle.zone_pairs.specs.declared.pair.ZonePair.{ZonePair}
use Rattle.listing_io.specs.{declared.listing.ListedStep.ListedStep, AreListed, listing}

-- the text of a model's deck with zones, if there is a model
abbrev pub text_if : Option FlowModel → Option (List ℕ) → List ℕ
text_if None zones = []
text_if (Some m) zones = zoned_text m zones

-- the text of a first deck with zones, and of a second one if there is one
abbrev pub parts_text : FlowModel → Option FlowModel → Option (List ℕ) → List ℕ
parts_text a b zones = zoned_text a zones ++ text_if b zones

-- the bytes are the text of these decks, byte for byte, and then this rest
abbrev pub StandsIn : List ℕ → FlowModel → Option FlowModel → Option (List ℕ) → List ℕ → Type 0
StandsIn bytes a b zones rest = bytes ≡ parts_text a b zones ++ rest

-- the rest is a listing of these steps, line for line
pub record IsStated (between : Bool) (m : FlowModel) (s : ℕ) (pairs : ℕ → List ZonePair) (rest : List ℕ) (steps : List ListedStep) : Type 0 where
  pub is : lines rest ≡ listing between m s steps
  pub listed : AreListed m pairs steps
