-- The headline of a run with --deck.
use Rattle.std.specs.Prelude.{ℕ, List, Option, ◌++◌}
use Rattle.std.specs.Io.KnownBytes.{Appends}
use Rattle.command_line.specs.{ListingOrder}
use Rattle.outside.specs.{FileSet}
use Rattle.model_text.specs.{zoned_text, IsReadAgain}
use Rattle.run_puts.specs.{Text}
use Rattle.engine.specs.{Cases.span_task_of, Cases.task_of, Headline.Headline, OneListing.AreItsSteps, SpanHeadline.SpanHeadline, Stated.SpanStated}
use Rattle.engine.specs.{Stated.Stated}

-- A run that was asked for so, with --deck, over these files, that ended Ok, where a sink had the bytes `old` before it and `new` after
-- it, has written the deck of the model that the files read as, with the zones of its cells, up to the bytes `mid`; and then what a run
-- without --deck writes.
pub record DeckHeadline (asked : ListingOrder) (files : FileSet) (old new : Option (List ℕ)) : Type 0 where
  pub mid : Option (List ℕ)
  pub listing : Headline asked files mid new
  pub deck : Appends old mid (zoned_text listing.model listing.zones)
  -- The files of the deck are read as the model, where each IBOUND has at most 18 digits and no file is too long.
  pub again : IsReadAgain asked.limits listing.model
  -- So what was written is a text from which alone, without the files, all this can be said.
  pub stated : Stated old new

-- Such a run has written a listing each step of which has a pair that is a certificate; without --quick the one that the files define.
pub record OneDeckListing (asked : ListingOrder) (files : FileSet) (old new : Option (List ℕ)) : Type 0 where
  pub headline : DeckHeadline asked files old new
  pub values : AreItsSteps (task_of asked headline.listing.model headline.listing.zones) headline.listing.values

-- The same of two decks: the first one was written, then the second one, each with the zones of its cells, and then a listing of the two.
pub record DeckSpanHeadline (asked : ListingOrder) (to : Text) (files : FileSet) (old new : Option (List ℕ)) : Type 0 where
  pub mid : Option (List ℕ)
  pub listing : SpanHeadline asked to files mid new
  pub decks : Appends old mid (zoned_text listing.decks.first listing.zones ++ zoned_text listing.decks.second listing.zones)
  pub again : IsReadAgain asked.limits listing.decks.first
  pub again_to : IsReadAgain asked.limits listing.decks.second
  pub stated : SpanStated old new

-- and the listing is by certificates, or the one that the files define
pub record OneDeckSpan (asked : ListingOrder) (to : Text) (files : FileSet) (old new : Option (List ℕ)) : Type 0 where
  pub headline : DeckSpanHeadline asked to files old new
  pub values : AreItsSteps (span_task_of asked headline.listing.decks.first headline.listing.decks.second headline.listing.zones) headline.listing.values
