-- The decks, the zones and the listing that are read from a text.
use Rattle.std.specs.Prelude.{ℕ, ◌-◌, Bool, true, false, cond, if◌then◌else◌, List, [], ◌∷◌, unsigned_abs, map, option_map, unwrap_or, Option, Some, None}
use Rattle.std.specs.Prelude.{Result, Ok, Err}
use Rattle.std.specs.{List.list_any, Str.bytes_eq}
use Rattle.outside.specs.{FileSet, lines, refusal, declared.codes.Code.TheVariants.BadListing, declared.codes.Code.TheVariants.NotAlike}
use Rattle.outside.specs.{declared.inputs.Refusal.Refusal}
use Rattle.record_lines.specs.{◌>>=◌}
use Rattle.model_types.specs.{declared.limits.Limits.Limits, declared.model.FlowModel.FlowModel, place}
use Rattle.model_reader.specs.{reads}
use Rattle.zone_file.specs.{zones_of}
use Rattle.zone_pairs.specs.declared.pair.ZonePair.{ZonePair}
use Rattle.model_text.specs.{deck_name, deck_names, has, zone_name, zoned_text}
use Rattle.deck_span.specs.declared.difference.Difference.{Difference}
use Rattle.listing_io.specs.{declared.listing.ListedStep.ListedStep, Line, first_line, listing_in}
use Rattle.stated_text.specs.{Cut.TextFile, Cut.after_due, Cut.cut_at, Cut.files_of, Cut.is_file_line, Cut.later, declared.part.Part.Part}
use Rattle.stated_text.specs.{declared.part.Parts.Parts}

-- the line of a text where a file of this name has its line FILE
abbrev pub line_of : List ℕ → List TextFile → Option ℕ
line_of name [] = None
line_of name (f ∷ files) = cond (bytes_eq name f.name) (Some f.line) (line_of name files)

-- a refusal of a file of the text is one of the text, at its line there; one of another file stays
abbrev pub moved : List ℕ → Refusal → Option ℕ → Refusal
moved text r None = r
moved text r (Some line) = record r { file = text; line = later line r.line }

abbrev pub in_text : List ℕ → List TextFile → Refusal → Refusal
in_text text files r = moved text r (line_of r.file files)

abbrev pub at_lines : {T : Type 0} → List ℕ → List TextFile → Result T Refusal → Result T Refusal
at_lines text files (Ok x) = Ok x
at_lines text files (Err r) = Err (in_text text files r)

-- another line than the one that is due is refused
abbrev pub or_bad : {T : Type 0} → List ℕ → Result T ℕ → Result T Refusal
or_bad text (Ok x) = Ok x
or_bad text (Err n) = Err (refusal BadListing text n)

-- the zones in the file of zones, if there is one
abbrev pub has_zones : List TextFile → Bool
has_zones files = list_any (λ f. bytes_eq f.name zone_name) files

abbrev pub zones_in : FileSet → Bool → FlowModel → Result (Option (List ℕ)) Refusal
zones_in files false m = Ok None
zones_in files true m = zones_of files m.grid zone_name >>= λ zones. Ok (Some (map unsigned_abs zones))

-- the model and the zones that the files of a part are read as
abbrev pub zoned_model : Limits → List ℕ → List TextFile → Result (FlowModel × Option (List ℕ)) Refusal
zoned_model limits text files = do
  m ← at_lines text files (reads limits (files_of limits files) deck_name)
  zones ← at_lines text files (zones_in (files_of limits files) (has_zones files) m)
  Ok (m, zones)

-- the part of these files, where its bytes, from line n on, are the text of the model with its zones, or with those that are given
abbrev pub part_of : List ℕ → ℕ → Option (Option (List ℕ)) → List ℕ → List TextFile → FlowModel → Option (List ℕ) → Result Part Refusal
part_of text n given bytes files m zones = do
  after ← or_bad text (after_due n bytes (zoned_text m (unwrap_or given zones)))
  Ok (record { files = files; model = m; zones = zones; rest = after.0; line = after.1 })

-- a deck's part of a text, from line n on
unfoldable pub part_at : Limits → List ℕ → ℕ → Option (Option (List ℕ)) → List ℕ → Result Part Refusal
part_at limits text n given bytes = do
  files ← or_bad text (cut_at n (lines bytes))
  read ← zoned_model limits text files
  part_of text n given bytes files read.0 read.1

abbrev pub begins_part : List Line → Bool
begins_part [] = false
begins_part (line ∷ lines) = is_file_line line

-- the decks of a text: a second one where a line FILE follows the first one, with the first one's zones
abbrev pub second_at : Limits → List ℕ → Part → Result (Option Part) Refusal
second_at limits text first =
    if begins_part (lines first.rest) then (part_at limits text first.line (Some first.zones) first.rest >>= λ part. Ok (Some part)) else Ok None

unfoldable pub parts_in : Limits → List ℕ → List ℕ → Result Parts Refusal
parts_in limits text bytes = do
  first ← part_at limits text 1 None bytes
  second ← second_at limits text first
  Ok (record { first = first; second = second })

-- the last part, which the listing follows
abbrev pub last_of : Parts → Part
last_of p = unwrap_or p.second p.first

-- the refusal of a second part whose deck isn't alike the first one: at its file of the package of the first difference, or at its name file
-- where it has no such package, with the cell where there is one
abbrev pub unlike : List ℕ → Part → Difference → Refusal
unlike text b d =
    in_text text b.files (record {
      code = NotAlike;
      file = cond (has b.model d.package) (deck_names d.package) deck_name;
      line = 0;
      at = option_map (λ c. place b.model.grid c.0) d.cell;
    })

-- The steps of the listing that follows the parts. Its first line is that of version 2.
abbrev pub is_current : Bool → FlowModel → ℕ → List Line → Bool
is_current between m s [] = false
is_current between m s (line ∷ lines) = bytes_eq (first_line between m s) line

abbrev pub later_by : {T : Type 0} → ℕ → Result T Refusal → Result T Refusal
later_by n (Ok x) = Ok x
later_by n (Err r) = Err (record r { line = later n r.line })

abbrev pub steps_after : Bool → FlowModel → ℕ → (ℕ → List ZonePair) → List ℕ → ℕ → List ℕ → Result (List ListedStep) Refusal
steps_after between m s pairs text n rest =
    if is_current between m s (lines rest) then later_by (n - 1) (listing_in between m s pairs text rest) else Err (refusal BadListing text n)
