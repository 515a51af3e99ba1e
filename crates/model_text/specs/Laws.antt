-- Statements of laws: a model is read as written.
use Rattle.std.specs.Prelude.{◌≡◌, ℕ, ◌≤◌, List, All, length, Ok, map, ◌⊎◌, pos, [], Some, ◌∷◌, ◌++◌, false, Option}
use Rattle.name_file.specs.declared.package.Package.{Package}
use Rattle.outside.specs.{with_limit, FileSet, File, lines}
use Rattle.model_types.specs.{declared.limits.Limits.Limits, declared.model.FlowModel.FlowModel, HasSize, cell_count, cell_of, most_bytes}
use Rattle.model_types.specs.{declared.grid.Grid.Grid, declared.period.Period.Period, declared.limits.Limits.TheVariants.Plain}
use Rattle.model_reader.specs.{reads}
use Rattle.zone_file.specs.{zones_of}
use Rattle.model_text.specs.Written.{AreNames, written, deck_name, deck_names, is_mark, IsReadAgain, zone_name, zoned_files}
use Rattle.stress_packages.specs.{rch_of, recharge_arrays, wells, rivers, drains, generals}
use Rattle.evt_package.specs.{evaporation_arrays, evt_of}
use Rattle.array_text.specs.{text, IsShort}
use Rattle.model_text.specs.Lists.{rch_lines, evt_lines, numbers_of, heads_of, list_lines}
use Rattle.model_text.specs.Readable.{HasPackage, LacksPackage, with_areas, IsBasic}
use Rattle.dis_package.specs.{IsDiscretized, IsGridWithin, model_of_grid, dis_of, without_stresses}
use Rattle.lpf_package.specs.{HasFlow, with_properties, lpf_of}
use Rattle.std.specs.List.{AllZip, flat_map}
use Rattle.decimal_input.specs.declared.dec.Dec.{Dec}
use Rattle.list_package.specs.{given_heads, Kind, IsListOf, lists_of, with_list}
use Rattle.bas_package.specs.{with_basics, bas_of}
use Rattle.model_text.specs.Discretization.{dis_lines, bas_lines, lpf_lines}
use Rattle.number_limits.specs.{check_result, declared.passing.Check.Check}
use Rattle.flow_equations.specs.{three_cells}

-- What is asked of a model, so that files can say it.
-- the periods with these lists
abbrev pub with_lists : {E : Type 0} → Kind E → List Period → List (List E) → List Period
with_lists kind [] lists = []
with_lists kind (p ∷ ps) [] = []
with_lists kind (p ∷ ps) (xs ∷ lists) = with_list kind p xs ∷ with_lists kind ps lists

-- each stress period has a list of this package that its file can say
abbrev pub HasLists : {E : Type 0} → Limits → Kind E → FlowModel → Type 0
HasLists limits kind m = All (λ p. IsListOf limits kind (cell_count m.grid) p (kind.list p.stresses)) m.periods

-- each package is as its file can say it by these limits, and the cells pass the tests of thickness, starting heads and properties
pub record IsWritable (limits : Limits) (m : FlowModel) : Type 0 where
  pub discretization : IsDiscretized m
  pub within : IsGridWithin limits m.grid
  pub basic : IsBasic m
  pub flow : HasFlow m
  pub passed : (check : Check) (file : List ℕ) → check_result m file check ≡ Ok tt
  pub wel : HasLists limits wells m
  pub riv : HasLists limits rivers m
  pub drn : HasLists limits drains m
  pub ghb : HasLists limits generals m
  pub rch : HasPackage recharge_arrays m.nrchop m ⊎ LacksPackage recharge_arrays m.nrchop m
  pub chd : HasLists limits given_heads m
  pub evt : HasPackage evaporation_arrays m.nevtop m ⊎ LacksPackage evaporation_arrays m.nevtop m

-- the files of a model, of which none is too long, are read as the model by limits that it keeps
abbrev pub ModelsReadAsWritten : Type 0
ModelsReadAsWritten = (limits : Limits) (m : FlowModel) (names : Package → List ℕ) (name : List ℕ) → IsWritable limits m → AreNames names name →
    (most : ℕ) → All (λ f. length f.bytes ≤ most) (written m names name) → reads limits (with_limit most (written m names name)) name ≡ Ok m

-- the names of the files of a deck are good ones, so no two are the same
abbrev pub DeckNamesAreNames : Type 0
DeckNamesAreNames = AreNames deck_names deck_name

-- the file of RCH gives the recharge to a model with this grid and as many periods
abbrev pub RchReadsAsWritten : Type 0
RchReadsAsWritten = (files : FileSet) (file : List ℕ) (m before : FlowModel) → HasSize m.grid → HasPackage recharge_arrays m.nrchop m → before.grid ≡ m.grid →
    length before.periods ≡ length m.periods →
    rch_of files file (text (rch_lines m)) before ≡ Ok (record before { nrchop = m.nrchop; periods = with_areas recharge_arrays before.periods m.periods })

-- the file of EVT gives the evapotranspiration to a model with this grid, this IBOUND and as many periods
abbrev pub EvtReadsAsWritten : Type 0
EvtReadsAsWritten = (files : FileSet) (file : List ℕ) (m before : FlowModel) → HasSize m.grid → HasPackage evaporation_arrays m.nevtop m →
    before.grid ≡ m.grid → before.ibound ≡ m.ibound → length before.periods ≡ length m.periods →
    evt_of files file (text (evt_lines m)) before ≡ Ok (record before { nevtop = m.nevtop; periods = with_areas evaporation_arrays before.periods m.periods })

-- a file of lists for these periods gives them these lists, by limits that they keep
abbrev pub ListsReadAsWritten : {E : Type 0} → Kind E → (E → ℕ) → (E → List Dec) → Type 0
ListsReadAsWritten {E} kind cell numbers =
    (limits : Limits) (file : List ℕ) (g : Grid) (ps : List Period) (lists : List (List E)) → HasSize g →
    AllZip (IsListOf limits kind (cell_count g)) ps lists →
    lists_of limits kind file (text (list_lines g cell numbers lists)) g ps ≡ Ok (with_lists kind ps lists)

-- WEL, RIV, DRN, GHB and CHD
pub record ListPackagesReadAsWritten : Type 0 where
  pub wel : ListsReadAsWritten wells cell_of numbers_of
  pub riv : ListsReadAsWritten rivers cell_of numbers_of
  pub drn : ListsReadAsWritten drains cell_of numbers_of
  pub ghb : ListsReadAsWritten generals cell_of numbers_of
  pub chd : ListsReadAsWritten given_heads (λ x. x.cell.0) heads_of

-- the file of DIS gives the grid, LENUNI and the stress periods by limits that the grid keeps
abbrev pub DisReadsAsWritten : Type 0
DisReadsAsWritten = (limits : Limits) (files : FileSet) (file : List ℕ) (m : FlowModel) → IsDiscretized m → IsGridWithin limits m.grid →
    dis_of limits files file (text (dis_lines m)) ≡ Ok (model_of_grid m.grid m.lenuni (map without_stresses m.periods))

-- the file of BAS6 gives IBOUND and STRT to a model with this grid
abbrev pub BasReadsAsWritten : Type 0
BasReadsAsWritten = (files : FileSet) (file : List ℕ) (m model_of_grid : FlowModel) → IsDiscretized m → IsBasic m → model_of_grid.grid ≡ m.grid →
    bas_of files file (text (bas_lines m)) model_of_grid ≡ Ok (with_basics model_of_grid m.ibound m.strt)

-- the file of LPF gives the properties to a model with this grid and these times
abbrev pub LpfReadsAsWritten : Type 0
LpfReadsAsWritten = (files : FileSet) (file : List ℕ) (m basic : FlowModel) → IsDiscretized m → HasFlow m → basic.grid ≡ m.grid →
    map without_stresses basic.periods ≡ map without_stresses m.periods →
    lpf_of files file (text (lpf_lines m)) basic
    ≡ Ok (with_properties basic m.coefficient m.layvka (record { hk = m.hk; hani = m.hani; vka = m.vka; ss = m.ss; vkcb = m.vkcb }))

-- A model that is read is writable by the same limits. Each other integer of a file is a word of at most 18 digits; an IBOUND is a word times a multiplier.
abbrev pub ModelsReadAreWritable : Type 0
ModelsReadAreWritable = (limits : Limits) (files : FileSet) (name : List ℕ) (m : FlowModel) → reads limits files name ≡ Ok m →
    All IsShort m.ibound → IsWritable limits m

-- So is read as itself what is written of a model that was read, under names of files that may be, where no file is too long.
abbrev pub ModelsReadAreReadAsWritten : Type 0
ModelsReadAreReadAsWritten = (limits : Limits) (files : FileSet) (name : List ℕ) (m : FlowModel) → reads limits files name ≡ Ok m → All IsShort m.ibound →
    (names : Package → List ℕ) (anew : List ℕ) → AreNames names anew → (most : ℕ) → All (λ f. length f.bytes ≤ most) (written m names anew) →
    reads limits (with_limit most (written m names anew)) anew ≡ Ok m

-- So of the deck that `heads write` puts, under the names that it gives.
abbrev pub DecksAreReadAgain : Type 0
DecksAreReadAgain = (limits : Limits) (files : FileSet) (name : List ℕ) (m : FlowModel) → reads limits files name ≡ Ok m → IsReadAgain limits m

-- bytes that are whole lines, at none of which a text is cut
pub record HasNoMark (bytes : List ℕ) : Type 0 where
  pub whole : bytes ≡ flat_map (λ line. line ++ (10 ∷ [])) (lines bytes)
  pub none : All (λ line. is_mark line ≡ false) (lines bytes)

-- A text of a deck is cut at no line of its files, whatever the model.
abbrev pub NoLineIsAMark : Type 0
NoLineIsAMark = (m : FlowModel) (zones : Option (List ℕ)) → All (λ f. HasNoMark f.bytes) (zoned_files m zones)

-- the file of zones of a grid's cells, of a deck none of whose files is too long, gives these zones, each of which is at most 999
abbrev pub ZonesReadAsWritten : Type 0
ZonesReadAsWritten =
    (m : FlowModel) (zones : List ℕ) (most : ℕ) → HasSize m.grid → length zones ≡ cell_count m.grid → All (λ z. z ≤ 999) zones →
    All (λ f. length f.bytes ≤ most) (zoned_files m (Some zones)) →
    zones_of (with_limit most (zoned_files m (Some zones))) m.grid zone_name ≡ Ok (map pos zones)

-- A worked model: three cells in a row, with constant heads at both ends.
abbrev pub deck : List File
deck = written three_cells deck_names deck_name

-- the model is writable, and its deck is read as it
pub record ThreeCells : Type 0 where
  pub writable : IsWritable Plain three_cells
  pub read : reads Plain (with_limit (most_bytes Plain) deck) deck_name ≡ Ok three_cells
