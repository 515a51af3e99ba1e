-- The check of what a run wrote.
use Rattle.std.specs.Prelude.{◌≡◌, ℕ, List, [], ◌∷◌, Ok, Option, Some, option_map}
use Rattle.std.specs.List.{concat}
use Rattle.command_line.specs.{ListingOrder, AskedCheck, Check, order_of_words}
use Rattle.outside.specs.{FileSet, file_at}
use Rattle.model_reader.specs.{reads}
use Rattle.zone_pairs.specs.{AreNumbers}
use Rattle.deck_problems.specs.{AreDecks}
use Rattle.run_puts.specs.{Text}
use Rattle.run_puts.specs.declared.puts.Status.TheVariants as status
use Rattle.listing_run.specs.declared.steps.Task.{Task}
use Rattle.engine.specs.{Cases.Listing, Cases.case_of, Cases.read_by_name, Cases.span_task_of, Cases.task_of, Cases.zones_read, Checked.certified_line}
use Rattle.engine.specs.{Defined.Defines, OneListing.OneListing, SpanHeadline.OneSpan}

-- These words ask for the check of a file with these bytes, at most a file's limit, by the task's limits and as a listing with its
-- digits, and the files read as the task's first deck, as its second one if it has one, and, by the zone file that the words name or
-- don't, as its zones.
pub record ChecksWritten (words : List Text) (files : FileSet) (k : Task) (bytes : List ℕ) : Type 0 where
  pub asked : AskedCheck
  pub to : Option Text
  pub wanted : order_of_words words ≡ Some (Check asked to)
  pub limits : asked.limits ≡ k.limits
  pub digits : asked.digits ≡ k.digits
  pub read : read_by_name asked.name (reads asked.limits files) ≡ Ok k.decks.first
  pub read_to : option_map (λ last. read_by_name last (reads asked.limits files)) to ≡ option_map (λ m. Ok m) k.decks.second
  pub zoned : zones_read files asked.zones k.decks.first ≡ Ok k.zones
  pub listing : read_by_name asked.listing (file_at files) ≡ Ok bytes

-- What a run that ends Ok writes is certified, if its decks are valid, two of them alike, and its zones at most 999: a check of it
-- against the same decks ends Ok, with the line CERTIFIED.
abbrev pub WrittenIsCertified : Type 0
WrittenIsCertified =
    (k : Task) (pieces words : List Text) (files : FileSet) → AreDecks k.decks → AreNumbers k.zones → Defines (Listing k) status.Ok pieces →
    ChecksWritten words files k (concat pieces) → Defines (case_of (order_of_words words) files) status.Ok (certified_line ∷ [])

-- The bytes that a run, with or without --quick, appended to nothing are certified by any check of them, by the same limits, at the
-- same digits, of the same model, with the same zones.
abbrev pub OneListingIsCertified : Type 0
OneListingIsCertified =
    (asked : ListingOrder) (files : FileSet) (bytes : List ℕ) (h : OneListing asked files (Some []) (Some bytes)) →
    (checks : List Text) (others : FileSet) →
    ChecksWritten checks others (task_of asked h.headline.model h.headline.zones) bytes →
    Defines (case_of (order_of_words checks) others) status.Ok (certified_line ∷ [])

-- And so are those of a run of two decks, by any check against the same two.
abbrev pub OneSpanIsCertified : Type 0
OneSpanIsCertified =
    (asked : ListingOrder) (to : Text) (files : FileSet) (bytes : List ℕ) (h : OneSpan asked to files (Some []) (Some bytes)) →
    (checks : List Text) (others : FileSet) →
    ChecksWritten checks others (span_task_of asked h.headline.decks.first h.headline.decks.second h.headline.zones) bytes →
    Defines (case_of (order_of_words checks) others) status.Ok (certified_line ∷ [])
