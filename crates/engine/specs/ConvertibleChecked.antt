-- How a check of a listing of a model with convertible layers ends, and with which line.
use Rattle.std.specs.Prelude.{◌≡◌, ◌<◌, ℕ, List, [], ◌∷◌, map}
use Rattle.decimal_input.specs.{Ratio, Ratios.AtMost}
use Rattle.step_problem.specs.{declared.heads.Side.TheVariants.Low, declared.place.Place.TheVariants.Cell}
use Rattle.model_types.specs.{declared.grid.Grid.Grid, declared.model.FlowModel.FlowModel}
use Rattle.listing_io.specs.{no_bound_line, not_certified_line, not_gentle_line, declared.listing.ListedStep.ListedStep}
use Rattle.water_table.specs.declared.convertible_layers.ConvertibleLayers.{ConvertibleLayers}
use Rattle.gentle_run.specs.{IsVerdict, ListingEncloses}
use Rattle.water_enclosure.specs.{flow_unit, pair_of}
use Rattle.gentle_histories.specs.{HasGentleHistory}
use Rattle.gentle_run.specs.declared.verdict.GentleVerdict.{GentleVerdict}
use Rattle.gentle_run.specs.declared.verdict.GentleVerdict.TheVariants.{Certified, Fails, Refused, Steep}
use Rattle.run_puts.specs.{Text, declared.puts.Status.Status}
use Rattle.run_puts.specs.declared.puts.Status.TheVariants as status
use Rattle.engine.specs.{Checked.certified_line, declared.zoned.ZonedListing.ZonedListing}

-- the line of such a check with this verdict
abbrev pub gentle_verdict_line : Grid → GentleVerdict → Text
gentle_verdict_line g Certified = certified_line
gentle_verdict_line g (Steep at c) = not_gentle_line g at c
gentle_verdict_line g (Fails at place) = not_certified_line g at place
gentle_verdict_line g (Refused at n) = no_bound_line g at n

-- its status; of a cell whose heads aren't gentle it has the lower side, since they are too steep at the lower head
abbrev pub gentle_verdict_status : GentleVerdict → Status
gentle_verdict_status Certified = status.Ok
gentle_verdict_status (Steep at c) = status.NotCertified at.period at.step (Cell c Low)
gentle_verdict_status (Fails at place) = status.NotCertified at.period at.step place
gentle_verdict_status (Refused at n) = status.NoBound at.period at.step n

-- By the listing's unit of flow, and by each smaller one, there is a history of gentle heads within the listed heads that balances each variable cell to less
-- than that unit.
abbrev pub HasGentleHistories : ℕ → FlowModel → ConvertibleLayers → List ListedStep → Type 0
HasGentleHistories s m w steps =
    (unit : Ratio) → 0 < unit.num → AtMost unit (flow_unit s) → HasGentleHistory unit m w (map pair_of (map (λ x. x.heads) steps))

-- The check of this listing has this end and this line, by its verdict. A listing that is certified encloses every history of gentle heads that balances
-- each variable cell to less than a unit of flow, and there are such histories.
pub record IsConvertibleCheck (m : FlowModel) (w : ConvertibleLayers) (s : ℕ) (listing : ZonedListing) (end : Status) (pieces : List Text) : Type 0 where
  pub verdict : GentleVerdict
  pub is : IsVerdict m w s listing.zones listing.steps verdict
  pub encloses : verdict ≡ Certified → ListingEncloses s m w listing.zones listing.steps
  pub exists : verdict ≡ Certified → HasGentleHistories s m w listing.steps
  pub status : end ≡ gentle_verdict_status verdict
  pub are : pieces ≡ gentle_verdict_line m.grid verdict ∷ []
