-- The lists of a stress period.
use Rattle.std.specs.Prelude.{ℕ, List, [], Bool, ◌∷◌, ◌++◌, if◌then◌else◌, Option, Some, None}
use Rattle.decimal_input.specs.declared.dec.Dec.{Dec}
use Rattle.model_types.specs.{declared.grid.Grid.Grid, declared.model.FlowModel.FlowModel, declared.entry.Entry.Entry, declared.period.Period.Period}
use Rattle.array_text.specs.{Line, line_text}
use Rattle.model_text.specs.{deck_names, file_text, list_item_6, name_item, package_file, zone_file}
use Rattle.name_file.specs.declared.package.Package.{Package}
use Rattle.name_file.specs.declared.package.Package.TheVariants.{Wel, Riv, Drn, Ghb}
use Rattle.std.specs.List.{flat_map}

-- the list of WEL, RIV, DRN or GHB; the other packages have none of this kind
abbrev pub entries_in : Package → Period → List Entry
entries_in Wel p = p.stresses.wells
entries_in Riv p = p.stresses.rivers
entries_in Drn p = p.stresses.drains
entries_in Ghb p = p.stresses.generals
entries_in kind p = []

-- item 6 of an entry
unfoldable pub entry_line : {E : Type 0} → Grid → (E → ℕ) → (E → List Dec) → E → Line
entry_line g number numbers x = list_item_6 g (number x) (numbers x)

-- The bytes of lines.
-- a line with its line feed
unfoldable pub line_bytes : Line → List ℕ
line_bytes line = line_text line ++ (10 ∷ [])

-- words with a blank after each
unfoldable pub spaced_words : {X : Type 0} → (X → List ℕ) → List X → List ℕ
spaced_words word xs = flat_map (λ x. word x ++ (32 ∷ [])) xs

-- the bytes of an item that is chosen, and none of another one
unfoldable pub chosen_bytes : {X : Type 0} → (X → Bool) → (X → List ℕ) → X → List ℕ
chosen_bytes is bytes x = if is x then bytes x else []

-- the file of zones after its line, if there are any
abbrev pub zone_bytes : Grid → Option (List ℕ) → List ℕ
zone_bytes g None = []
zone_bytes g (Some zones) = file_text (zone_file g zones)

-- a package's line in the name file, or its file after its line
unfoldable pub part_bytes : FlowModel → Bool → Package → List ℕ
part_bytes m named k = if named then line_bytes (name_item deck_names k) else file_text (package_file m deck_names k)
