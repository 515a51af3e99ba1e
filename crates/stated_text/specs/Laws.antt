-- Statements of laws: a text of a deck is cut in one way, says one model, and is read back.
use Rattle.std.specs.Prelude.{◌≡◌, ◌≤◌, ℕ, Bool, false, List, [], ◌∷◌, ◌++◌, map, length, codes, IfSome, MatchResult, Option, Ok, option_map}
use Rattle.std.specs.List.{flat_map}
use Rattle.outside.specs.{lines}
use Rattle.model_types.specs.{declared.limits.Limits.Limits, declared.model.FlowModel.FlowModel, most_bytes}
use Rattle.model_text.specs.{IsWritable, file_texts, zoned_files, zoned_text}
use Rattle.zone_pairs.specs.{AreZones, declared.pair.ZonePair.ZonePair}
use Rattle.listing_io.specs.{declared.listing.ListedStep.ListedStep, AreListed, AreZonePairs, IsWritable as CanBeListed, Line, ended_line, listing, text_of}
use Rattle.stated_text.specs.{Cut.TextFile, Cut.after_byte, Cut.after_due, Cut.cut_at, Cut.file_of, Cut.first_is, Parts.begins_part, Parts.last_of}
use Rattle.stated_text.specs.{Parts.parts_in, Parts.steps_after, Stated.parts_text, declared.part.Parts.Parts}

-- A text of a deck has one cut: whatever follows it, its files are those of the deck.
pub record IsCutInto (m : FlowModel) (zones : Option (List ℕ)) (n : ℕ) (rest : List ℕ) : Type 0 where
  pub files : List TextFile
  pub cut : cut_at n (lines (zoned_text m zones ++ rest)) ≡ Ok files
  pub are : map file_of files ≡ zoned_files m zones

abbrev pub DecksAreCut : Type 0
DecksAreCut = (m : FlowModel) (zones : Option (List ℕ)) (n : ℕ) (rest : List ℕ) → IsCutInto m zones n rest

-- One text says one model: where bytes are the text of a deck with zones and then something, and also that of another one, both are the same
-- deck, with the same zones, and the same follows them.
abbrev pub OneTextOneModel : Type 0
OneTextOneModel =
    (limits : Limits) (m n : FlowModel) (zones others : Option (List ℕ)) (rest more : List ℕ) → IsWritable limits m → IsWritable limits n →
    AreZones m zones → AreZones n others → zoned_text m zones ++ rest ≡ zoned_text n others ++ more → (m ≡ n) × (zones ≡ others) × (rest ≡ more)

-- What is cut, joined again, is what was there: each file after its line FILE, then the line END, and then the lines that are left.
pub record AreJoined (rows : List Line) (files : List TextFile) : Type 0 where
  pub left : List Line
  pub are : flat_map ended_line rows ≡ file_texts (map file_of files) ++ (codes "END\n" ++ flat_map ended_line left)

abbrev pub CutsAreJoined : Type 0
CutsAreJoined = (n : ℕ) (rows : List Line) (files : List TextFile) → cut_at n rows ≡ Ok files → AreJoined rows files

-- the number of the line after these bytes, which begin in line n
unfoldable pub line_after : ℕ → List ℕ → ℕ
line_after n [] = n
line_after n (b ∷ bytes) = line_after (after_byte n b) bytes

-- Line k is the first one at which a text differs from the one that is due: both have the same bytes up to there, and then the text hasn't the
-- next byte that is due.
pub record DifferFirst (n : ℕ) (text due : List ℕ) (k : ℕ) : Type 0 where
  pub same : List ℕ
  pub byte : ℕ
  pub more : List ℕ
  pub others : List ℕ
  pub of_due : due ≡ same ++ (byte ∷ more)
  pub of_text : text ≡ same ++ others
  pub differs : first_is byte others ≡ false
  pub line : k ≡ line_after n same

-- The comparison gives what follows the due text, and the number of the line there; or the first line at which both differ.
abbrev pub FirstDifferences : Type 0
FirstDifferences = (n : ℕ) (text due : List ℕ) →
    MatchResult (after_due n text due) (λ after. (text ≡ due ++ after.0) × (after.1 ≡ line_after n due)) (DifferFirst n text due)

-- What is read of the text of decks with zones, and then this rest: these decks, these zones, and this rest.
pub record AreReadBack (limits : Limits) (text bytes : List ℕ) (a : FlowModel) (b : Option FlowModel) (zones : Option (List ℕ)) (rest : List ℕ) : Type 0 where
  pub parts : Parts
  pub read : parts_in limits text bytes ≡ Ok parts
  pub first : parts.first.model ≡ a
  pub second : option_map (λ p. p.model) parts.second ≡ b
  pub zoned : parts.first.zones ≡ zones
  pub left : (last_of parts).rest ≡ rest

-- a deck whose text, with zones of its cells, can be read by these limits
pub record CanBeRead (limits : Limits) (zones : Option (List ℕ)) (m : FlowModel) : Type 0 where
  pub writable : IsWritable limits m
  pub zoned : AreZones m zones
  pub short : length (zoned_text m zones) ≤ most_bytes limits

-- The text of decks is read back as these decks, where no deck's text is longer than a file may be and what follows is no part of a deck.
abbrev pub DecksAreReadBack : Type 0
DecksAreReadBack =
    (limits : Limits) (text : List ℕ) (a : FlowModel) (b : Option FlowModel) (zones : Option (List ℕ)) (rest : List ℕ) → CanBeRead limits zones a →
    IfSome b (CanBeRead limits zones) → begins_part (lines rest) ≡ false → AreReadBack limits text (parts_text a b zones ++ rest) a b zones rest

-- What follows the decks is read back as these steps of a listing, wherever it begins, and is no part of a deck.
pub record ListingIsReadBack (between : Bool) (m : FlowModel) (s : ℕ) (pairs : ℕ → List ZonePair) (rest : List ℕ) (steps : List ListedStep) : Type 0 where
  pub apart : begins_part (lines rest) ≡ false
  pub read : (text : List ℕ) (n : ℕ) → steps_after between m s pairs text n rest ≡ Ok steps

-- So is a written listing.
abbrev pub ListingsAreReadBack : Type 0
ListingsAreReadBack =
    (between : Bool) (m : FlowModel) (s : ℕ) (pairs : ℕ → List ZonePair) (steps : List ListedStep) → CanBeListed m s → AreZonePairs pairs →
    AreListed m pairs steps → ListingIsReadBack between m s pairs (text_of (listing between m s steps)) steps
