use Rattle.engine.proofs.Stating.{deck_and_listing, decks_and_listing}
use Rattle.engine.proofs.laws.deck_and_listing_are_stated.Goals as goal

pub returns-clause-one : goal.returns-clause-one
returns-clause-one c = deck_and_listing

pub returns-clause-two : goal.returns-clause-two
returns-clause-two c = decks_and_listing
