-- What a file of the layer-property flow package with convertible layers gives.
use Rattle.convertible_reader.proofs.Common.{All, AreLayersOf, Bool, FileSet, FlowModel, GivesOnly, Grid, HasFlow, IsDec, LayerSettings, Left, List, Ok, SameBut, [], arith, beginning, cond}
use Rattle.convertible_reader.proofs.Common.{contents_of, convertible_lpf_of, counted_gives, false, goes_on, if◌then◌else◌, is_transient, layer_at, layer_or, layer_properties, layer_size, layers_of}
use Rattle.convertible_reader.proofs.Common.{laytyp_at, laytyp_list, left_from, length, no_number, nth_layer, ok_gives_only, option_line, refl, settings_of, then_, true, without_comments, yield_layer}
use Rattle.convertible_reader.proofs.Common.{zero_list, ℕ, ◌*◌, ◌+◌, ◌≡◌, int_at, is_nonzero, dec_at_is, no_number_is, gives_only_less, repeated_are, All-nil}
use Rattle.convertible_reader.specs.declared.layers.YieldProperties.{YieldProperties}
use Rattle.array_text.proofs.{ArrayForms.list_files_have_form, LayerForms.layer_or_is, LayerForms.one_more}
use Rattle.array_text.specs.{IsShort}
use Rattle.lpf_package.proofs.LpfForms.{AreProperties, IsLayer, cells_stored, has_flow, joined_are, no_properties, properties_are}
use Rattle.lpf_package.specs.declared.layer.Layer.{Layer}

-- the arrays of one layer, and its SY
record IsYieldLayer (cells : ℕ) (x : Layer) (p : YieldProperties) : Type 0 where
  pub layer : IsLayer cells x p.properties
  pub sy : (length p.sy ≡ cond x.stores cells 0) × All IsDec p.sy

module _ (files : FileSet) (file : List ℕ) where
  yields_by : (stores convertible : Bool) (rows cols : ℕ) (left : Left) →
      GivesOnly (λ y. (length y.0 ≡ cond stores (rows * cols) 0) × All IsDec y.0) (if stores then layer_or files file rows cols convertible no_number left else Ok ([], left))
  yields_by true convertible rows cols left = gives_only_less (layer_or_is files file rows cols convertible no_number left no_number_is) (λ y is. (is.0, is.1))
  yields_by false convertible rows cols left = ok_gives_only (refl, All-nil IsDec)

  yields_are : (x : Layer) (convertible : Bool) (left : Left) →
      GivesOnly (λ y. (length y.0 ≡ cond x.stores (x.rows * x.cols) 0) × All IsDec y.0) (yield_layer files file x convertible left)
  unfolding yield_layer
  yields_are x convertible left = yields_by x.stores convertible x.rows x.cols left

  layer_is : (x : Layer) (convertible : Bool) (left : Left) → IsDec x.chani → GivesOnly (λ y. IsYieldLayer (x.rows * x.cols) x y.0) (layer_properties files file x convertible left)
  unfolding layer_properties
  layer_is x convertible left chani =
      then_ _ (properties_are files file (record x { has_bed = false }) left chani) (λ upper u. then_ _ (yields_are x convertible upper.1)
      (λ sy s. then_ _ (layer_or_is files file x.rows x.cols x.has_bed no_number sy.1 no_number_is)
      (λ vkcb e. ok_gives_only (record { layer = record { hk = u.hk; hani = u.hani; vka = u.vka; ss = u.ss; vkcb = (e.0, e.1); bed = e.2 }; sy = s }))))

-- the arrays of i layers, and their SY
record AreYieldLayers (g : Grid) (stores : Bool) (i : ℕ) (p : YieldProperties) : Type 0 where
  pub properties : AreProperties g stores i p.properties
  pub sy : (length p.sy ≡ i * cond stores (layer_size g) 0) × All IsDec p.sy

module _ (files : FileSet) (file : List ℕ) (g : Grid) (settings : LayerSettings) (stores : Bool) (decimals : All IsDec settings.chani) where
  abbrev Are : ℕ → YieldProperties × Left → Type 0
  Are i s = AreYieldLayers g stores i s.0

  one_layer : (i : ℕ) (s : YieldProperties × Left) → Are i s → GivesOnly (Are (i + 1)) (layer_at files file g settings stores i s)
  unfolding layer_at
  one_layer i s so =
      then_ _ (layer_is files file (nth_layer g settings.chani stores i) (is_nonzero (int_at settings.laytyp i)) s.1 (dec_at_is settings.chani i decimals)) (λ x p. ok_gives_only (record {
        properties = joined_are g stores settings.chani i s.0.properties x.0.properties so.properties p.layer;
        sy = one_more IsDec (cond stores (layer_size g) 0) i s.0.sy x.0.sy so.sy p.sy;
      }))

  layers_are : (count : ℕ) (left : Left) → GivesOnly (Are count) (layers_of files file g settings stores count left)
  unfolding layers_of
  layers_are count left =
      counted_gives (layer_at files file g settings stores) Are one_layer count _ (record { properties = no_properties g stores; sy = (omega arith, All-nil IsDec) })

module _ (files : FileSet) (file : List ℕ) where
  laytyps_are : (thickstrt : Bool) (count : ℕ) (left : Left) → GivesOnly (λ x. length x.0 ≡ count) (laytyp_list thickstrt file count left)
  unfolding laytyp_list
  laytyps_are thickstrt count left =
      then_ _ (repeated_are (laytyp_at thickstrt file) (λ z. Unit {0}) (λ s. record { gives = λ x e. tt }) count (beginning, left)) (λ x are. ok_gives_only are.0)

  settings_are : (thickstrt : Bool) (layers : ℕ) (left : Left) →
      GivesOnly (λ x. (length x.0.laytyp ≡ layers) × All IsDec x.0.chani × ((length x.0.layvka ≡ layers) × All IsShort x.0.layvka)) (settings_of file thickstrt layers left)
  unfolding settings_of
  settings_are thickstrt layers left =
      then_ _ (laytyps_are thickstrt layers left) (λ laytyp a. goes_on (zero_list file layers laytyp.1) _ (λ layavg b. then_ _ (list_files_have_form.numbers file layers layavg.1)
      (λ chani c. then_ _ (list_files_have_form.integers file layers chani.1) (λ layvka d. goes_on (zero_list file layers layvka.1) _ (λ laywet e. ok_gives_only (a, c.1, d))))))

  contents_are : (bytes : List ℕ) (g : Grid) (stores : Bool) →
      GivesOnly (λ c. ((length c.0.layvka ≡ g.layers) × All IsShort c.0.layvka) × AreYieldLayers g stores g.layers (record { properties = c.0.properties; sy = c.1.sy }) ×
      (length c.1.laytyp ≡ g.layers))
      (contents_of files file bytes g stores)
  unfolding contents_of
  contents_are bytes g stores =
      goes_on (option_line file (without_comments (left_from 1 bytes))) _ (λ options e. then_ _ (settings_are options.0.thickstrt g.layers options.1)
      (λ settings s. then_ _ (layers_are files file g settings.0 stores s.1 g.layers settings.1) (λ layers p. ok_gives_only (s.2, p, s.0))))

  pub lpf_is : (bytes : List ℕ) (m : FlowModel) → GivesOnly (λ x. HasFlow x.0 × SameBut m x.0 × AreLayersOf x.0 x.1) (convertible_lpf_of files file bytes m)
  unfolding convertible_lpf_of
  lpf_is bytes m =
      then_ _ (contents_are bytes m.grid (is_transient m.periods)) (λ c are. ok_gives_only (
        has_flow files file m c.0 are.0 are.1.properties,
        refl,
        record { laytyp = are.2; sy = (cells_stored m.grid (is_transient m.periods) (length c.1.sy) are.1.sy.0, are.1.sy.1) },
      ))
