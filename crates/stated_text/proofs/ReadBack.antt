-- The text of decks and a listing are read back.
use Rattle.stated_text.proofs.Common.{◌≡◌, ◌≤◌, ◌-◌, ◌∷◌, ◌++◌, ◌∙◌, ℕ, Bool, true, false, List, [], Option, Some, None, Ok, Result, refl, sym, ap, subst, append-nil, append_assoc, map, length, All}
use Rattle.stated_text.proofs.Common.{AreReadBack, DecksAreReadBack, File, FileSet, FlowModel, CanBeRead, Limits, Line, ListingIsReadBack, ListingsAreReadBack, Part, Refusal, TextFile, at_lines}
use Rattle.stated_text.proofs.Common.{begins_part, bytes_eq, deck_name, deck_names, end_line, file_of, files_of, first_line, has_zones, is_current, later_by, line_after, lines, list_any, listing}
use Rattle.stated_text.proofs.Common.{listing_in, most_bytes, package_file, packages, part_at, parts_in, times, unwrap_or, with_limit, written, zone_file, zone_name, zoned_files, zoned_model}
use Rattle.stated_text.proofs.Common.{zoned_text, zones_in, IsListing, first_text, all_step_lines, bytes_eq-Decides, codes, drop, filter, first_line_before, inl, inr, or_bad_listing, take, ◌||◌}
use Rattle.stated_text.proofs.Common.{listings_were_written, ListedStep, all_lines, listing_at, text_of, ZonePair, reads, has, zoned_reads, zones_read}
use Rattle.stated_text.proofs.{DeckCuts.deck_begins, DeckCuts.decks_are_cut, DueTexts.due_there, OneModel.files_fit, OneModel.size_of, OneModel.unsigned_back}
use Rattle.listing_io.proofs.Feeds.{listings_are_read_again}
use Rattle.name_file.specs.{declared.package.Package.Package, declared.package.Package.TheVariants.Dis}

-- whether there is a file of zones, by the files of the deck
named_there : (files : List TextFile) → has_zones files ≡ list_any (λ (f : File). bytes_eq f.name zone_name) (map file_of files)
named_there [] = refl
named_there (f ∷ files) = ap (λ (b : Bool). bytes_eq f.name zone_name || b) (named_there files)

named : (files : List TextFile) (fs : List File) → map file_of files ≡ fs → has_zones files ≡ list_any (λ (f : File). bytes_eq f.name zone_name) fs
named files fs is = named_there files ∙ ap (list_any (λ (f : File). bytes_eq f.name zone_name)) is

other_name : (k : Package) → bytes_eq (deck_names k) zone_name ≡ false
other_name Dis = refl
other_name k = refl

module _ (m : FlowModel) where
  abbrev is_zones : File → Bool
  is_zones f = bytes_eq f.name zone_name

  after_packages : (ks : List Package) (more : List File) → list_any is_zones (map (package_file m deck_names) ks ++ more) ≡ list_any is_zones more
  after_packages [] more = refl
  after_packages (k ∷ ks) more = rw (other_name k) (after_packages ks more)

  none_named : list_any is_zones (zoned_files m None) ≡ false
  unfolding written
  none_named = ap (list_any is_zones) (sym (append-nil (map (package_file m deck_names) (filter (has m) packages)))) ∙ after_packages (filter (has m) packages) []

  some_named : (zones : List ℕ) → list_any is_zones (zoned_files m (Some zones)) ≡ true
  unfolding written
  some_named zones = after_packages (filter (has m) packages) (zone_file m.grid zones ∷ [])

-- A deck's part of a text is read back.
module _ (limits : Limits) (text : List ℕ) (m : FlowModel) (zones : Option (List ℕ)) (r : CanBeRead limits zones m) (n : ℕ) (rest : List ℕ) where
  small : All (λ f. length f.bytes ≤ most_bytes limits) (zoned_files m zones)
  small = files_fit m zones (most_bytes limits) r.short

  abbrev files : List TextFile
  files = (decks_are_cut m zones n rest).files

  folder_is : files_of limits files ≡ with_limit (most_bytes limits) (zoned_files m zones)
  folder_is = ap (λ (fs : List File). with_limit (most_bytes limits) fs) (decks_are_cut m zones n rest).are

  model_back : at_lines text files (reads limits (files_of limits files) deck_name) ≡ Ok m
  model_back =
      let R : FileSet → Type 0 = λ fs. reads limits fs deck_name ≡ Ok m in
      let back = subst R (sym folder_is) (zoned_reads limits m r.writable (most_bytes limits) zones small) in
      rw back refl

  zones_back : at_lines text files (zones_in (files_of limits files) (has_zones files) m) ≡ Ok zones
  zones_back =
      let there = named files (zoned_files m zones) (decks_are_cut m zones n rest).are in
      let Z : FileSet → Type 0 = λ fs. zones_in fs (has_zones files) m ≡ Ok zones in
      let back : zones_in (files_of limits files) (has_zones files) m ≡ Ok zones = subst Z (sym folder_is) (by_zones zones r small there) in
      rw back refl
    where
      by_zones : (zs : Option (List ℕ)) → CanBeRead limits zs m → All (λ f. length f.bytes ≤ most_bytes limits) (zoned_files m zs) →
          has_zones files ≡ list_any (is_zones m) (zoned_files m zs) →
          zones_in (with_limit (most_bytes limits) (zoned_files m zs)) (has_zones files) m ≡ Ok zs
      by_zones None q few is = rw (is, none_named m) refl
      by_zones (Some zs) q few is =
          let read = zones_read m zs (most_bytes limits) (size_of limits m q.writable) q.zoned.count q.zoned.limits few in
          rw (is, some_named m zs, read, unsigned_back zs) refl

  zoned_back : zoned_model limits text files ≡ Ok (m, zones)
  zoned_back = rw (model_back, zones_back) refl

  abbrev part : Part
  part = record { files = files; model = m; zones = zones; rest = rest; line = line_after n (zoned_text m zones) }

  pub part_back : (given : Option (Option (List ℕ))) → unwrap_or given zones ≡ zones → part_at limits text n given (zoned_text m zones ++ rest) ≡ Ok part
  unfolding part_at
  part_back given same = rw ((decks_are_cut m zones n rest).cut, zoned_back, same, due_there n (zoned_text m zones) rest) refl

-- Both parts.
module _ (limits : Limits) (text : List ℕ) (a : FlowModel) (zones : Option (List ℕ)) (r : CanBeRead limits zones a) where
  one_back : (rest : List ℕ) → begins_part (lines rest) ≡ false → AreReadBack limits text (zoned_text a zones ++ rest) a None zones rest
  unfolding parts_in
  one_back rest apart =
      let first = part_back limits text a zones r 1 rest None refl in
      record {
        parts = record { first = part limits text a zones r 1 rest; second = None };
        read = rw (first, apart) refl;
        first = refl;
        second = refl;
        zoned = refl;
        left = refl;
      }

  two_back : (b : FlowModel) → CanBeRead limits zones b → (rest : List ℕ) → AreReadBack limits text (zoned_text a zones ++ (zoned_text b zones ++ rest)) a (Some b) zones rest
  unfolding parts_in
  two_back b q rest =
      let more = zoned_text b zones ++ rest in
      let first = part_back limits text a zones r 1 more None refl in
      let n = line_after 1 (zoned_text a zones) in
      let begins = deck_begins b zones rest in
      let another : begins_part (lines more) ≡ true = rw begins.2 begins.3 in
      let second = part_back limits text b zones q n rest (Some zones) refl in
      record {
        parts = record { first = part limits text a zones r 1 more; second = Some (part limits text b zones q n rest) };
        read = rw (first, another, second) refl;
        first = refl;
        second = refl;
        zoned = refl;
        left = refl;
      }

pub decks_are_read_back : DecksAreReadBack
decks_are_read_back limits text a None zones rest r q apart =
    let T : List ℕ → Type 0 = λ t. AreReadBack limits text (t ++ rest) a None zones rest in
    subst T (sym (append-nil (zoned_text a zones))) (one_back limits text a zones r rest apart)
decks_are_read_back limits text a (Some b) zones rest r q apart =
    let T : List ℕ → Type 0 = λ t. AreReadBack limits text t a (Some b) zones rest in
    subst T (sym (append_assoc (zoned_text a zones) (zoned_text b zones) rest)) (two_back limits text a zones r b q rest)

-- The listing.
-- a text that begins with the words of a listing of version 2
abbrev pub word : List ℕ
word = codes "HEADS 2"

first_row : (t : List ℕ) → (r : List ℕ) × (rows : List Line) × (lines (word ++ t) ≡ (word ++ r) ∷ rows)
unfolding lines
first_row t = by_rows (lines t) refl
  where
    by_rows : (x : List Line) → lines t ≡ x → (r : List ℕ) × (rows : List Line) × (lines (word ++ t) ≡ (word ++ r) ∷ rows)
    by_rows [] e = ([], [], rw e refl)
    by_rows (r ∷ rows) e = (r, rows, rw e refl)

-- the first line of a listing, and what follows it
pub listed_begins : (between : Bool) (m : FlowModel) (s : ℕ) (others : List ℕ) → (t : List ℕ) × (first_text between m s ++ others ≡ word ++ t)
unfolding first_text
listed_begins false m s others = (_, refl)
listed_begins true m s others = (_, refl)

listed_word : (between : Bool) (m : FlowModel) (s : ℕ) (steps : List ListedStep) → (t : List ℕ) × (text_of (listing between m s steps) ≡ word ++ t)
unfolding listing
listed_word false m s steps = (_, refl)
listed_word true m s steps = (_, refl)

-- no line FILE
word_apart : (t : List ℕ) → begins_part (lines (word ++ t)) ≡ false
word_apart t = let x = first_row t in rw x.2 refl

-- whether the first line is one of version 2
abbrev is_second : List Line → Bool
is_second [] = false
is_second (row ∷ rows) = bytes_eq (take 1 (drop 6 row)) (codes "2")

later_ok : {T : Type 0} (n : ℕ) (r : Result T Refusal) (x : T) → r ≡ Ok x → later_by n r ≡ Ok x
later_ok n r x h = rw h refl

-- a text that begins so, and is read as steps
module _ (between : Bool) (m : FlowModel) (s : ℕ) (pairs : ℕ → List ZonePair) (rest t : List ℕ) (steps : List ListedStep) (begins : rest ≡ word ++ t)
    (again : listing_at between m s pairs (all_lines rest) ≡ Ok steps) where
  -- its lines are those of version 2
  current : is_current between m s (lines rest) ≡ true
  unfolding listing
  current = by_form (listings_were_written between m s pairs rest steps again)
    where
      by_form : IsListing between m s steps (lines rest) → is_current between m s (lines rest) ≡ true
      by_form (inl is) = rw is ((bytes_eq-Decides (first_line between m s) (first_line between m s)).1 refl)
      by_form (inr (model, is)) =
          let x = first_row t in
          let rows : (word ++ x.0) ∷ x.1 ≡ first_line_before ∷ (all_step_lines m s (times m) steps ++ (end_line ∷ [])) = sym x.2 ∙ ap lines (sym begins) ∙ is in
          absurd (let clash : true ≡ false = ap is_second rows in cc)

  pub rest_back : ListingIsReadBack between m s pairs rest steps
  rest_back = record {
    apart = rw begins (word_apart t);
    read = λ text n. rw current (later_ok (n - 1) (listing_in between m s pairs text rest) steps (ap (or_bad_listing text) again));
  }

pub listings_are_read_back : ListingsAreReadBack
listings_are_read_back between m s pairs steps good few listed =
    let w = listed_word between m s steps in
    rest_back between m s pairs (text_of (listing between m s steps)) w.0 steps w.1 (listings_are_read_again between m s pairs steps good few listed)
