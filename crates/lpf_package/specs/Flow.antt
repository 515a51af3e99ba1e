-- A file of the layer-property flow package, item by item (TM 6-A16, LPF).
use Rattle.std.specs.Prelude.{◌≡◌, ℕ, ℤ, List, Bool, not, Result, Ok, pos, int_lt, Err, if◌then◌else◌, codes, [], ◌++◌, cond, All, length}
use Rattle.std.specs.List.{list_any}
use Rattle.outside.specs.{FileSet, refusal, words, declared.inputs.Refusal.Refusal, declared.codes.Code.TheVariants.OutOfProfile}
use Rattle.record_lines.specs.{left_from, without_comments, Left, ◌>>=◌, each_number, is_word, line_at}
use Rattle.model_types.specs.{declared.grid.Grid.Grid, declared.model.FlowModel.FlowModel, declared.period.Period.Period, dec_at, int_at, no_number, is_nonzero}
use Rattle.model_types.specs.{cell_count}
use Rattle.lpf_package.specs.{declared.layer.Properties.Properties, declared.model.Contents.Contents, declared.settings.Settings.Settings}
use Rattle.lpf_package.specs.{declared.layer.Layer.Layer}
use Rattle.array_reader.specs.{number_at, free_list, zero_list, real_layer, layer_or, number, integer}
use Rattle.decimal_input.specs.{declared.dec.Dec.Dec, IsDec}
use Rattle.number_limits.specs.{is_positive}
use Rattle.array_text.specs.{IsShort}
use Rattle.dis_package.specs.{IsOfBeds}

-- The items before the layers' arrays (TM 6-A16, LPF, items 1 to 7).
-- ILPFCB HDRY NPLPF and option words: no parameters; whether the option STORAGECOEFFICIENT is there
unfoldable pub option_line : List ℕ → Left → Result (Bool × Left) Refusal
option_line file left = do
  line ← line_at file left
  ilpfcb ← number_at integer file line.0.number (words line.0.bytes)
  hdry ← number_at number file line.0.number ilpfcb.1
  nplpf ← number_at integer file line.0.number hdry.1
  if int_lt (pos 0) nplpf.0 then Err (refusal OutOfProfile file line.0.number) else Ok (list_any (is_word (codes "STORAGECOEFFICIENT")) nplpf.1, line.1)

-- by layer: LAYTYP 0, confined; LAYAVG 0, harmonic mean; CHANI; LAYVKA; LAYWET 0, no wetting
unfoldable pub settings_of : List ℕ → ℕ → Left → Result (Settings × Left) Refusal
settings_of file layers left = do
  laytyp ← zero_list file layers left
  layavg ← zero_list file layers laytyp.1
  chani ← free_list number file layers layavg.1
  layvka ← free_list integer file layers chani.1
  laywet ← zero_list file layers layvka.1
  Ok (record { chani = chani.0; layvka = layvka.0 }, laywet.1)

-- The arrays of the layers (TM 6-A16, LPF, items 10 to 16).
-- SS, which the file has only for a layer with storage
unfoldable pub storage_layer : FileSet → List ℕ → Layer → Left → Result (List Dec × Left) Refusal
storage_layer files file x left = if x.stores then real_layer files file x.rows x.cols left else Ok ([], left)

-- HK; HANI where CHANI isn't above 0, else CHANI everywhere; VKA; SS; VKCB where a bed lies below, else 0
unfoldable pub properties_of : FileSet → List ℕ → Layer → Left → Result (Properties × Left) Refusal
properties_of files file x left = do
  hk ← real_layer files file x.rows x.cols left
  hani ← layer_or files file x.rows x.cols (not (is_positive x.chani)) x.chani hk.1
  vka ← real_layer files file x.rows x.cols hani.1
  ss ← storage_layer files file x vka.1
  vkcb ← layer_or files file x.rows x.cols x.has_bed no_number ss.1
  Ok (record { hk = hk.0; hani = hani.0; vka = vka.0; ss = ss.0; vkcb = vkcb.0 }, vkcb.1)

abbrev pub joined_properties : Properties → Properties → Properties
joined_properties above p = record {
  hk = above.hk ++ p.hk;
  hani = above.hani ++ p.hani;
  vka = above.vka ++ p.vka;
  ss = above.ss ++ p.ss;
  vkcb = above.vkcb ++ p.vkcb;
}

-- what is read for layer k, from 0
abbrev pub nth_layer : Grid → List Dec → Bool → ℕ → Layer
nth_layer g chani stores k = record { rows = g.rows; cols = g.cols; chani = dec_at chani k; stores = stores; has_bed = is_nonzero (int_at g.laycbd k) }

unfoldable pub layer_at : FileSet → List ℕ → Grid → List Dec → Bool → ℕ → (Properties × Left) → Result (Properties × Left) Refusal
layer_at files file g chani stores k s = properties_of files file (nth_layer g chani stores k) s.1 >>= λ x. Ok (joined_properties s.0 x.0, x.1)

-- layer by layer
unfoldable pub layers_of : FileSet → List ℕ → Grid → List Dec → Bool → ℕ → Left → Result (Properties × Left) Refusal
layers_of files file g chani stores count left =
    each_number (layer_at files file g chani stores) 0 count
    (record { hk = []; hani = []; vka = []; ss = []; vkcb = [] }, left)

-- whether a stress period is transient
abbrev pub is_transient : List Period → Bool
is_transient periods = list_any (λ p. not p.steady) periods

abbrev pub with_properties : FlowModel → Bool → List ℤ → Properties → FlowModel
with_properties m coefficient layvka p =
    record m {
      coefficient = coefficient;
      layvka = layvka;
      hk = p.hk;
      hani = p.hani;
      vka = p.vka;
      ss = p.ss;
      vkcb = p.vkcb;
    }

-- a model with the contents of a file of the package
abbrev pub with_contents : FlowModel → Contents → FlowModel
with_contents m c = with_properties m c.coefficient c.layvka c.properties

-- The contents of a file for a grid; the flag says whether the file has SS.
unfoldable pub contents_of : FileSet → List ℕ → List ℕ → Grid → Bool → Result Contents Refusal
contents_of files file bytes grid stores = do
  coefficient ← option_line file (without_comments (left_from 1 bytes))
  settings ← settings_of file grid.layers coefficient.1
  layers ← layers_of files file grid settings.0.chani stores grid.layers settings.1
  Ok (record { coefficient = coefficient.0; layvka = settings.0.layvka; properties = layers.0 })

-- the file has SS where a period is transient
unfoldable pub lpf_of : FileSet → List ℕ → List ℕ → FlowModel → Result FlowModel Refusal
lpf_of files file bytes m = do
  contents ← contents_of files file bytes m.grid (is_transient m.periods)
  Ok (with_contents m contents)

-- another model differs only in what this package reads
abbrev pub SameBut : FlowModel → FlowModel → Type 0
SameBut m n = n ≡ with_properties m n.coefficient n.layvka (record { hk = n.hk; hani = n.hani; vka = n.vka; ss = n.ss; vkcb = n.vkcb })

-- LPF: LAYVKA for each layer, and properties for each cell; SS only where a period is transient
pub record HasFlow (m : FlowModel) : Type 0 where
  pub layvka : (length m.layvka ≡ m.grid.layers) × All IsShort m.layvka
  pub hk : (length m.hk ≡ cell_count m.grid) × All IsDec m.hk
  pub hani : (length m.hani ≡ cell_count m.grid) × All IsDec m.hani
  pub vka : (length m.vka ≡ cell_count m.grid) × All IsDec m.vka
  pub ss : (length m.ss ≡ cond (is_transient m.periods) (cell_count m.grid) 0) × All IsDec m.ss
  pub vkcb : (length m.vkcb ≡ cell_count m.grid) × All IsDec m.vkcb
  pub beds : IsOfBeds m.grid m.vkcb
