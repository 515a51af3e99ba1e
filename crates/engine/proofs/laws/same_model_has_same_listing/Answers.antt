use Rattle.engine.proofs.Stating.{same_listing, deck_listing}
use Rattle.engine.proofs.laws.same_model_has_same_listing.Goals as goal

pub returns-clause-model : goal.returns-clause-model
returns-clause-model c = same_listing

pub returns-clause-deck : goal.returns-clause-deck
returns-clause-deck c = deck_listing
