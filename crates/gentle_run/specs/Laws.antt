-- Laws of verdicts.
use Rattle.std.specs.Prelude.{◌≡◌, ℕ, ◌<◌, List, Option, map}
use Rattle.decimal_input.specs.{Ratio, Ratios.AtMost}
use Rattle.model_types.specs.{declared.model.FlowModel.FlowModel, IsModel}
use Rattle.zone_pairs.specs.{pairs_in}
use Rattle.listing_io.specs.{declared.listing.ListedStep.ListedStep, AreListed}
use Rattle.water_table.specs.{declared.convertible_layers.ConvertibleLayers.ConvertibleLayers, with_yield}
use Rattle.water_enclosure.specs.{flow_unit, pair_of}
use Rattle.gentle_histories.specs.{HasGentleHistory}
use Rattle.gentle_run.specs.{declared.verdict.GentleVerdict.GentleVerdict, Encloses.ListingEncloses, Verdicts.IsVerdict}
use Rattle.gentle_run.specs.{declared.verdict.GentleVerdict.TheVariants.Certified}

-- a listing has at most one verdict
abbrev pub VerdictIsOne : Type 0
VerdictIsOne = (m : FlowModel) (w : ConvertibleLayers) (s : ℕ) (zones : Option (List ℕ)) (steps : List ListedStep) (a b : GentleVerdict) → IsModel m →
    IsModel (with_yield m w) → AreListed m (pairs_in m zones) steps → IsVerdict m w s zones steps a → IsVerdict m w s zones steps b → a ≡ b

-- Every history of gentle heads that nearly solves the model lies within a certified listing.
abbrev pub CertifiedIsEnclosed : Type 0
CertifiedIsEnclosed = (s : ℕ) (m : FlowModel) (w : ConvertibleLayers) (zones : Option (List ℕ)) (listing : List ListedStep) → IsModel m →
    IsModel (with_yield m w) → AreListed m (pairs_in m zones) listing → IsVerdict m w s zones listing Certified → ListingEncloses s m w zones listing

-- And there is one, by the listing's unit of flow and by each smaller one: as close to solving the model as is wanted.
abbrev pub CertifiedHasHistory : Type 0
CertifiedHasHistory = (s : ℕ) (m : FlowModel) (w : ConvertibleLayers) (zones : Option (List ℕ)) (listing : List ListedStep) (unit : Ratio) → IsModel m →
    IsModel (with_yield m w) → AreListed m (pairs_in m zones) listing → IsVerdict m w s zones listing Certified → 0 < unit.num → AtMost unit (flow_unit s) →
    HasGentleHistory unit m w (map pair_of (map (λ x. x.heads) listing))
