-- A file of the layer-property flow package with convertible layers, item by item (TM 6-A16, LPF).
use Rattle.std.specs.Prelude.{◌≡◌, ℕ, ℤ, pos, List, [], ◌++◌, Bool, false, ◌&&◌, ◌||◌, Result, Ok, Err, int_lt, if◌then◌else◌, codes, cond, length, All}
use Rattle.std.specs.List.{list_any}
use Rattle.decimal_input.specs.{declared.dec.Dec.Dec, IsDec}
use Rattle.outside.specs.{FileSet, refusal, words, declared.inputs.Refusal.Refusal, declared.codes.Code.TheVariants.OutOfProfile}
use Rattle.record_lines.specs.{◌>>=◌, Left, Taking, beginning, each_number, is_word, left_from, line_at, repeated_reading, without_comments}
use Rattle.array_reader.specs.{free_list, integer, layer_or, number, number_at, value_at, zero_list}
use Rattle.model_types.specs.{declared.grid.Grid.Grid, declared.model.FlowModel.FlowModel, cell_count, int_at, is_nonzero, no_number}
use Rattle.lpf_package.specs.{declared.layer.Layer.Layer, declared.model.Contents.Contents, is_transient, joined_properties, nth_layer, properties_of}
use Rattle.lpf_package.specs.{with_contents}
use Rattle.water_table.specs.declared.convertible_layers.ConvertibleLayers.{ConvertibleLayers}
use Rattle.convertible_reader.specs.{declared.settings.Options.Options, declared.settings.LayerSettings.LayerSettings}
use Rattle.convertible_reader.specs.{declared.layers.YieldProperties.YieldProperties}

-- The items before the layers' arrays (TM 6-A16, LPF, items 1 to 7).
-- whether a line has this word, in any letter case
abbrev pub has_option : List ℕ → List (List ℕ) → Bool
has_option keyword line = list_any (is_word keyword) line

-- the options of a line that change how vertical branches follow from heads
abbrev pub changes_vertical : List ℕ → Bool
changes_vertical bytes =
    has_option (codes "CONSTANTCV") (words bytes) || (has_option (codes "NOCVCORRECTION") (words bytes) || has_option (codes "NOVFC") (words bytes))

abbrev pub options_of : List ℕ → Options
options_of bytes = record { coefficient = has_option (codes "STORAGECOEFFICIENT") (words bytes); thickstrt = has_option (codes "THICKSTRT") (words bytes) }

-- ILPFCB HDRY NPLPF and option words: no parameters, and no option that changes vertical branches
unfoldable pub option_line : List ℕ → Left → Result (Options × Left) Refusal
option_line file left = do
  line ← line_at file left
  ilpfcb ← number_at integer file line.0.number (words line.0.bytes)
  hdry ← number_at number file line.0.number ilpfcb.1
  nplpf ← number_at integer file line.0.number hdry.1
  if int_lt (pos 0) nplpf.0 || changes_vertical line.0.bytes then Err (refusal OutOfProfile file line.0.number) else Ok (options_of line.0.bytes, line.1)

-- LAYTYP of a layer: under THICKSTRT one below 0, a thickness from starting heads, is refused on its own line
unfoldable pub laytyp_at : Bool → List ℕ → (Taking × Left) → Result (ℤ × (Taking × Left)) Refusal
laytyp_at thickstrt file s = do
  z ← value_at integer file s
  if thickstrt && int_lt z.0.0 (pos 0) then Err (refusal OutOfProfile file z.0.1) else Ok (z.0.0, z.1)

unfoldable pub laytyp_list : Bool → List ℕ → ℕ → Left → Result (List ℤ × Left) Refusal
laytyp_list thickstrt file count left = repeated_reading count (laytyp_at thickstrt file) (beginning, left) >>= λ x. Ok (x.0, x.1.1)

-- by layer: LAYTYP, not 0 where it is convertible; LAYAVG 0, harmonic mean; CHANI; LAYVKA; LAYWET 0, no wetting
unfoldable pub settings_of : List ℕ → Bool → ℕ → Left → Result (LayerSettings × Left) Refusal
settings_of file thickstrt layers left = do
  laytyp ← laytyp_list thickstrt file layers left
  layavg ← zero_list file layers laytyp.1
  chani ← free_list number file layers layavg.1
  layvka ← free_list integer file layers chani.1
  laywet ← zero_list file layers layvka.1
  Ok (record { laytyp = laytyp.0; chani = chani.0; layvka = layvka.0 }, laywet.1)

-- The arrays of the layers (TM 6-A16, LPF, items 10 to 16).
-- SY, which the file has only for a convertible layer with storage; else 0 in a layer with storage
unfoldable pub yield_layer : FileSet → List ℕ → Layer → Bool → Left → Result (List Dec × Left) Refusal
yield_layer files file x convertible left = if x.stores then layer_or files file x.rows x.cols convertible no_number left else Ok ([], left)

-- HK, HANI, VKA and SS, as in a confined layer; SY; VKCB where a bed lies below, else 0
unfoldable pub layer_properties : FileSet → List ℕ → Layer → Bool → Left → Result (YieldProperties × Left) Refusal
layer_properties files file x convertible left = do
  upper ← properties_of files file (record x { has_bed = false }) left
  sy ← yield_layer files file x convertible upper.1
  vkcb ← layer_or files file x.rows x.cols x.has_bed no_number sy.1
  Ok (record { properties = record upper.0 { vkcb = vkcb.0 }; sy = sy.0 }, vkcb.1)

abbrev pub with_layer : YieldProperties → YieldProperties → YieldProperties
with_layer above p = record { properties = joined_properties above.properties p.properties; sy = above.sy ++ p.sy }

-- layer k, from 0, after those above it
unfoldable pub layer_at : FileSet → List ℕ → Grid → LayerSettings → Bool → ℕ → (YieldProperties × Left) → Result (YieldProperties × Left) Refusal
layer_at files file g settings stores k s =
    layer_properties files file (nth_layer g settings.chani stores k) (is_nonzero (int_at settings.laytyp k)) s.1 >>= λ x. Ok (with_layer s.0 x.0, x.1)

-- layer by layer
unfoldable pub layers_of : FileSet → List ℕ → Grid → LayerSettings → Bool → ℕ → Left → Result (YieldProperties × Left) Refusal
layers_of files file g settings stores count left =
    each_number (layer_at files file g settings stores) 0 count
    (record { properties = record { hk = []; hani = []; vka = []; ss = []; vkcb = [] }; sy = [] }, left)

-- The contents of a file for a grid, as of a confined model, and its convertible layers; the flag says whether the file has SS and SY.
unfoldable pub contents_of : FileSet → List ℕ → List ℕ → Grid → Bool → Result (Contents × ConvertibleLayers) Refusal
contents_of files file bytes grid stores = do
  options ← option_line file (without_comments (left_from 1 bytes))
  settings ← settings_of file options.0.thickstrt grid.layers options.1
  layers ← layers_of files file grid settings.0 stores grid.layers settings.1
  Ok (
    record { coefficient = options.0.coefficient; layvka = settings.0.layvka; properties = layers.0.properties },
    record { laytyp = settings.0.laytyp; sy = layers.0.sy },
  )

-- the file has SS and SY where a period is transient
unfoldable pub convertible_lpf_of : FileSet → List ℕ → List ℕ → FlowModel → Result (FlowModel × ConvertibleLayers) Refusal
convertible_lpf_of files file bytes m = do
  contents ← contents_of files file bytes m.grid (is_transient m.periods)
  Ok (with_contents m contents.0, contents.1)

-- LAYTYP for each layer, and SY for each cell, only where a period is transient
pub record AreLayersOf (m : FlowModel) (w : ConvertibleLayers) : Type 0 where
  pub laytyp : length w.laytyp ≡ m.grid.layers
  pub sy : (length w.sy ≡ cond (is_transient m.periods) (cell_count m.grid) 0) × All IsDec w.sy
