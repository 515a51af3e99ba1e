-- What a certified text promises.
use Rattle.std.specs.Prelude.{◌≡◌, ◌⊎◌, ◌++◌, ℕ, List, [], Ok, Option, Some, codes, is_some}
use Rattle.std.specs.Io.KnownBytes.{Appends}
use Rattle.command_line.specs.{AskedText}
use Rattle.outside.specs.{FileSet, file_at}
use Rattle.deck_problems.specs.declared.decks.Decks.{Decks}
use Rattle.listing_io.specs.{declared.listing.ListedStep.ListedStep, listing, text_of}
use Rattle.check_run.specs.{declared.verdict.ListingVerdict.TheVariants.Certified as Holds, IsVerdict}
use Rattle.engine.specs.{Cases.decks_text, Checked.certified_line, Stated.SpanStated, Stated.Stated}

-- bytes are a text, the last line of which may lack its line feed
abbrev pub AreText : (bytes text : List ℕ) → Type 0
AreText bytes text = (text ≡ bytes) ⊎ (text ≡ bytes ++ codes "\n")

-- A check of a text that was asked for so, over these files, that ended Ok, where a sink had the bytes `old` before it and `new` after it:
-- the file has the text of a deck and then a listing, or of two decks and then a listing of all models between them, as a run with --deck is
-- promised to put it, whoever wrote it. How it was judged stands in `OneTextVerdict`.
pub record TextCertified (asked : AskedText) (files : FileSet) (old new : Option (List ℕ)) : Type 0 where
  -- The bytes under the name are this text.
  pub bytes : List ℕ
  pub read : file_at files asked.text ≡ Ok bytes
  pub text : List ℕ
  pub is : AreText bytes text
  -- It says of itself what a run with --deck says of what it appends: here to nothing.
  pub stated : Stated (Some []) (Some text) ⊎ SpanStated (Some []) (Some text)
  -- The line CERTIFIED was appended, and nothing else.
  pub written : Appends old new certified_line

-- Such a check found that each step of the listing in the text is certified for the decks in the text, with their zones.
pub record OneTextVerdict (asked : AskedText) (files : FileSet) (old new : Option (List ℕ)) : Type 0 where
  pub certified : TextCertified asked files old new
  pub decks : Decks
  pub zones : Option (List ℕ)
  pub steps : List ListedStep
  pub is : certified.text ≡ decks_text decks zones ++ text_of (listing (is_some decks.second) decks.first asked.digits steps)
  pub verdict : IsVerdict asked.limits decks asked.digits zones steps Holds
