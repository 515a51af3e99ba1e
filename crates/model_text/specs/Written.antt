-- A model as the files of a deck.
use Rattle.std.specs.Prelude.{ℕ, Bool, true, not, nat_lt, List, ◌∷◌, map, filter, length, ◌≡◌, ◌≤◌, [], ◌++◌, All, codes, Ok, Option, Some, None, pos, take}
use Rattle.std.specs.Prelude.{◌||◌}
use Rattle.std.specs.{List.list_any, List.flat_map, Str.bytes_eq}
use Rattle.outside.specs.{File, with_limit}
use Rattle.name_file.specs.declared.package.Package.{Package}
use Rattle.name_file.specs.declared.package.Package.TheVariants.{Dis, Bas, Lpf, Wel, Riv, Drn, Ghb, Rch, Chd, Evt}
use Rattle.model_types.specs.{declared.grid.Grid.Grid, declared.model.FlowModel.FlowModel, declared.period.Period.Period, is_int, most_bytes}
use Rattle.model_types.specs.{declared.limits.Limits.Limits}
use Rattle.array_text.specs.{Line, text, IsShort, IsWord}
use Rattle.model_text.specs.Discretization.{dis_lines, bas_lines, lpf_lines, each_layer, integer_layer}
use Rattle.model_text.specs.Lists.{entry_lines, evt_lines, heads_of, list_lines, rch_lines}
use Rattle.model_reader.specs.{reads}

-- The name file (TM 6-A16, input instructions, name file), and what is asked of the names of files.
-- the packages that this program reads, in the order in which it reads them
abbrev pub packages : List Package
packages = Dis ∷ Bas ∷ Lpf ∷ Wel ∷ Riv ∷ Drn ∷ Ghb ∷ Rch ∷ Chd ∷ Evt ∷ []

-- of each package: Ftype, the file type; Nunit, the file unit, another one for each; and the name of its file in the text of a deck
abbrev pub package_words : Package → List ℕ × List ℕ × List ℕ
package_words Dis = (codes "DIS", codes "11", codes "p.dis")
package_words Bas = (codes "BAS6", codes "12", codes "p.bas")
package_words Lpf = (codes "LPF", codes "13", codes "p.lpf")
package_words Wel = (codes "WEL", codes "14", codes "p.wel")
package_words Riv = (codes "RIV", codes "15", codes "p.riv")
package_words Drn = (codes "DRN", codes "16", codes "p.drn")
package_words Ghb = (codes "GHB", codes "17", codes "p.ghb")
package_words Rch = (codes "RCH", codes "18", codes "p.rch")
package_words Chd = (codes "CHD", codes "19", codes "p.chd")
package_words Evt = (codes "EVT", codes "20", codes "p.evt")

abbrev pub file_type : Package → List ℕ
file_type k = (package_words k).0

abbrev pub file_unit : Package → List ℕ
file_unit k = (package_words k).1

-- a line of the name file: Ftype Nunit Fname
unfoldable pub name_item : (Package → List ℕ) → Package → Line
name_item names k = file_type k ∷ file_unit k ∷ names k ∷ []

-- a file's name: a word of at most 255 bytes without a backslash, which a folder takes as a slash
pub record IsFileName (name : List ℕ) : Type 0 where
  pub word : IsWord name
  pub few : length name ≤ 255
  pub plain : All (λ b. b ≡ 92 → ⊥) name

-- names of the files of packages, and of the name file: no two are the same
pub record AreNames (names : Package → List ℕ) (name : List ℕ) : Type 0 where
  pub each : (k : Package) → IsFileName (names k)
  pub first : IsFileName name
  pub distinct : (a b : Package) → names a ≡ names b → a ≡ b
  pub apart : (k : Package) → names k ≡ name → ⊥

-- whether a stress period has an entry in its list
abbrev pub is_listed : {E : Type 0} → (Period → List E) → List Period → Bool
is_listed list ps = list_any (λ p. nat_lt 0 (length (list p))) ps

module _ (m : FlowModel) where
  -- the packages that the model has: those of each model, a list package that has an entry, RCH and EVT by NRCHOP and NEVTOP
  abbrev pub has : Package → Bool
  has Dis = true
  has Bas = true
  has Lpf = true
  has Wel = is_listed (λ p. p.stresses.wells) m.periods
  has Riv = is_listed (λ p. p.stresses.rivers) m.periods
  has Drn = is_listed (λ p. p.stresses.drains) m.periods
  has Ghb = is_listed (λ p. p.stresses.generals) m.periods
  has Rch = not (is_int m.nrchop 0)
  has Chd = is_listed (λ p. p.stresses.given) m.periods
  has Evt = not (is_int m.nevtop 0)

  -- the lines of a package's file
  abbrev pub lines_of : Package → List Line
  lines_of Dis = dis_lines m
  lines_of Bas = bas_lines m
  lines_of Lpf = lpf_lines m
  lines_of Wel = entry_lines m (λ p. p.stresses.wells)
  lines_of Riv = entry_lines m (λ p. p.stresses.rivers)
  lines_of Drn = entry_lines m (λ p. p.stresses.drains)
  lines_of Ghb = entry_lines m (λ p. p.stresses.generals)
  lines_of Rch = rch_lines m
  lines_of Chd = list_lines m.grid (λ x. x.cell.0) heads_of (map (λ p. p.stresses.given) m.periods)
  lines_of Evt = evt_lines m

  -- a package's file
  abbrev pub package_file : (Package → List ℕ) → Package → File
  package_file names k = record { name = names k; bytes = text (lines_of k) }

  -- the name file
  abbrev pub name_file : (Package → List ℕ) → List ℕ → File
  name_file names name = record { name = name; bytes = text (map (name_item names) (filter has packages)) }

  -- the files of a deck: the name file, and a file for each package that the model has
  unfoldable pub written : (Package → List ℕ) → List ℕ → List File
  written names name = name_file names name ∷ map (package_file names) (filter has packages)

-- The text of a model's deck: its files, one after another, as `heads write` puts them.
-- the name of the name file, and of each package's file
abbrev pub deck_name : List ℕ
deck_name = codes "p.nam"

abbrev pub deck_names : Package → List ℕ
deck_names k = (package_words k).2

-- the files of a model's deck
abbrev pub deck_files : FlowModel → List File
deck_files m = written m deck_names deck_name

-- the line before a file: the word FILE and the file's name
unfoldable pub file_line : List ℕ → List ℕ
file_line name = codes "FILE " ++ (name ++ (10 ∷ []))

-- a file's line and its bytes, which end with a line feed
unfoldable pub file_text : File → List ℕ
file_text f = file_line f.name ++ f.bytes

-- files, one after another
unfoldable pub file_texts : List File → List ℕ
file_texts files = flat_map file_text files

-- the text of a model's deck: its files, and the line END
unfoldable pub deck_text : FlowModel → List ℕ
deck_text m = file_texts (deck_files m) ++ codes "END\n"

-- a line at which a text is cut into its files: it begins with the word FILE and a blank, or it is the word END
abbrev pub is_mark : List ℕ → Bool
is_mark line = bytes_eq (take 5 line) (codes "FILE ") || bytes_eq line (codes "END")

-- the file of the zones of a grid's cells: an array for each layer, (NCOL,NROW) - U2DINT
abbrev pub zone_name : List ℕ
zone_name = codes "p.zon"

abbrev pub zone_file : Grid → List ℕ → File
zone_file g zones = record { name = zone_name; bytes = text (each_layer g (integer_layer g (map pos zones))) }

-- the files of a model's deck, and last that of the zones of its cells, if there are any
abbrev pub zoned_files : FlowModel → Option (List ℕ) → List File
zoned_files m None = deck_files m
zoned_files m (Some zones) = deck_files m ++ (zone_file m.grid zones ∷ [])

-- the text of a model's deck with zones: its files, and the line END
unfoldable pub zoned_text : FlowModel → Option (List ℕ) → List ℕ
zoned_text m zones = file_texts (zoned_files m zones) ++ codes "END\n"

-- The files are read as the model by these limits, where each IBOUND has at most 18 digits and no file is too long.
abbrev pub IsReadAgain : Limits → FlowModel → Type 0
IsReadAgain limits m = All IsShort m.ibound → All (λ f. length f.bytes ≤ most_bytes limits) (deck_files m) →
    reads limits (with_limit (most_bytes limits) (deck_files m)) deck_name ≡ Ok m
