-- The check of a text that a run put.
use Rattle.std.specs.Prelude.{◌≡◌, ◌≤◌, ℕ, List, [], ◌∷◌, All, length, Ok, Option, Some}
use Rattle.command_line.specs.{AskedText, CheckText, ListingOrder, order_of_words}
use Rattle.outside.specs.{FileSet, file_at}
use Rattle.array_text.specs.{IsShort}
use Rattle.model_types.specs.{declared.model.FlowModel.FlowModel, most_bytes}
use Rattle.model_text.specs.{zoned_text}
use Rattle.run_puts.specs.{Text}
use Rattle.run_puts.specs.declared.puts.Status.TheVariants as status
use Rattle.engine.specs.{Cases.case_of, Cases.read_by_name, Checked.certified_line, DeckListing.OneDeckListing, DeckListing.OneDeckSpan, Defined.Defines}

-- These words ask for the check of a text, and it has these bytes; the limits and the digits are those of a run that was asked for so.
pub record ChecksText (words : List Text) (files : FileSet) (asked : ListingOrder) (bytes : List ℕ) : Type 0 where
  pub check : AskedText
  pub wanted : order_of_words words ≡ Some (CheckText check)
  pub limits : check.limits ≡ asked.limits
  pub digits : check.digits ≡ asked.digits
  pub read : read_by_name check.text (file_at files) ≡ Ok bytes

-- A deck's text can be read: each IBOUND has at most 18 digits, and the text is no longer than a file may be.
pub record IsReadableText (asked : ListingOrder) (zones : Option (List ℕ)) (m : FlowModel) : Type 0 where
  pub short : All IsShort m.ibound
  pub few : length (zoned_text m zones) ≤ most_bytes asked.limits

-- The text that a run with --deck appended to nothing is certified by any check of it, by the same limits and at the same digits.
abbrev pub OneTextIsCertified : Type 0
OneTextIsCertified =
    (asked : ListingOrder) (files : FileSet) (bytes : List ℕ) (h : OneDeckListing asked files (Some []) (Some bytes)) →
    IsReadableText asked h.headline.listing.zones h.headline.listing.model → (checks : List Text) (others : FileSet) → ChecksText checks others asked bytes →
    Defines (case_of (order_of_words checks) others) status.Ok (certified_line ∷ [])

-- And so is that of two decks.
abbrev pub OneSpanTextIsCertified : Type 0
OneSpanTextIsCertified =
    (asked : ListingOrder) (to : Text) (files : FileSet) (bytes : List ℕ) (h : OneDeckSpan asked to files (Some []) (Some bytes)) →
    IsReadableText asked h.headline.listing.zones h.headline.listing.decks.first →
    IsReadableText asked h.headline.listing.zones h.headline.listing.decks.second → (checks : List Text) (others : FileSet) →
    ChecksText checks others asked bytes → Defines (case_of (order_of_words checks) others) status.Ok (certified_line ∷ [])
