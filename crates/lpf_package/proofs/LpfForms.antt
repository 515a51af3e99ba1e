-- What a file of the layer-property flow package gives.
use Rattle.lpf_package.proofs.Common.{◌≡◌, ℕ, ◌*◌, Bool, true, false, cond, List, length, All, Ok, refl, arith, ◌+◌, not, [], replicate, FileSet, Left, left_from, without_comments, zero_list}
use Rattle.lpf_package.proofs.Common.{real_layer, is_transient, contents_of, with_contents, lpf_of, SameBut, layers_of, storage_layer, properties_of, joined_properties, nth_layer, layer_at}
use Rattle.lpf_package.proofs.Common.{settings_of, HasFlow, option_line, if◌then◌else◌, ok_gives_only, goes_on, then_, gives_only_less, GivesOnly, counted_gives}
use Rattle.decimal_input.specs.{IsDec, declared.dec.Dec.Dec}
use Rattle.model_types.specs.{declared.grid.Grid.Grid, declared.model.FlowModel.FlowModel, cell_count, layer_size, no_number}
use Rattle.array_text.proofs.{ArrayForms.list_files_have_form, LayerForms.layer_is, LayerForms.layer_or_is, LayerForms.one_more, LayerForms.AreLayers, LayerForms.no_layers, LayerForms.one_more_layer}
use Rattle.array_text.specs.{IsShort}
use Rattle.std.proofs.lemmas.List.Elements.{All-nil, All-append}
use Rattle.number_limits.specs.{is_positive}
use Rattle.number_limits.proofs.Canonical.{no_number_is, dec_at_is}
use Rattle.lpf_package.specs.{declared.layer.Properties.Properties, declared.model.Contents.Contents, declared.layer.Layer.Layer}
use Rattle.dis_package.proofs.GridForms.{IsBedLayer}

-- What is read of the properties of layers.
-- the properties of one layer of this many cells
pub record IsLayer (cells : ℕ) (x : Layer) (p : Properties) : Type 0 where
  pub hk : (length p.hk ≡ cells) × All IsDec p.hk
  pub hani : (length p.hani ≡ cells) × All IsDec p.hani
  pub vka : (length p.vka ≡ cells) × All IsDec p.vka
  pub ss : (length p.ss ≡ cond x.stores cells 0) × All IsDec p.ss
  pub vkcb : (length p.vkcb ≡ cells) × All IsDec p.vkcb
  pub bed : x.has_bed ≡ false → p.vkcb ≡ replicate cells no_number

module _ (files : FileSet) (file : List ℕ) where
  storage_by : (stores : Bool) (rows cols : ℕ) (left : Left) →
      GivesOnly (λ y. (length y.0 ≡ cond stores (rows * cols) 0) × All IsDec y.0) (if stores then real_layer files file rows cols left else Ok ([], left))
  storage_by true rows cols left = layer_is files file rows cols left
  storage_by false rows cols left = ok_gives_only (refl, All-nil IsDec)

  storage_is : (x : Layer) (left : Left) → GivesOnly (λ y. (length y.0 ≡ cond x.stores (x.rows * x.cols) 0) × All IsDec y.0) (storage_layer files file x left)
  unfolding storage_layer
  storage_is x left = storage_by x.stores x.rows x.cols left

  pub properties_are : (x : Layer) (left : Left) → IsDec x.chani → GivesOnly (λ y. IsLayer (x.rows * x.cols) x y.0) (properties_of files file x left)
  unfolding properties_of
  properties_are x left chani =
      then_ _ (layer_is files file x.rows x.cols left) (λ hk a. then_ _ (layer_or_is files file x.rows x.cols (not (is_positive x.chani)) x.chani hk.1 chani)
      (λ hani b. then_ _ (layer_is files file x.rows x.cols hani.1) (λ vka c. then_ _ (storage_is x vka.1) (λ ss d. then_ _ (layer_or_is files file x.rows x.cols x.has_bed no_number ss.1 no_number_is)
      (λ vkcb e. ok_gives_only (record { hk = a; hani = (b.0, b.1); vka = c; ss = d; vkcb = (e.0, e.1); bed = e.2 }))))))

-- the properties of i layers
pub record AreProperties (g : Grid) (stores : Bool) (i : ℕ) (p : Properties) : Type 0 where
  pub hk : (length p.hk ≡ i * layer_size g) × All IsDec p.hk
  pub hani : (length p.hani ≡ i * layer_size g) × All IsDec p.hani
  pub vka : (length p.vka ≡ i * layer_size g) × All IsDec p.vka
  pub ss : (length p.ss ≡ i * cond stores (layer_size g) 0) × All IsDec p.ss
  pub vkcb : All IsDec p.vkcb
  pub beds : AreLayers (layer_size g) (IsBedLayer g.laycbd (layer_size g)) i p.vkcb

module _ (g : Grid) (stores : Bool) where
  -- before the first layer
  pub no_properties : AreProperties g stores 0 (record { hk = []; hani = []; vka = []; ss = []; vkcb = [] })
  no_properties = record {
    hk = (omega arith, All-nil IsDec);
    hani = (omega arith, All-nil IsDec);
    vka = (omega arith, All-nil IsDec);
    ss = (omega arith, All-nil IsDec);
    vkcb = All-nil IsDec;
    beds = no_layers (layer_size g) (IsBedLayer g.laycbd (layer_size g));
  }

  -- one more layer
  pub joined_are : (chani : List Dec) (i : ℕ) (above p : Properties) → AreProperties g stores i above → IsLayer (layer_size g) (nth_layer g chani stores i) p →
      AreProperties g stores (i + 1) (joined_properties above p)
  joined_are chani i above p so more = record {
    hk = one_more IsDec (layer_size g) i above.hk p.hk so.hk more.hk;
    hani = one_more IsDec (layer_size g) i above.hani p.hani so.hani more.hani;
    vka = one_more IsDec (layer_size g) i above.vka p.vka so.vka more.vka;
    ss = one_more IsDec (cond stores (layer_size g) 0) i above.ss p.ss so.ss more.ss;
    vkcb = All-append IsDec above.vkcb p.vkcb so.vkcb more.vkcb.1;
    beds = one_more_layer (layer_size g) (IsBedLayer g.laycbd (layer_size g)) i above.vkcb p.vkcb so.beds more.vkcb.0 more.bed;
  }

module _ (files : FileSet) (file : List ℕ) (g : Grid) (chani : List Dec) (stores : Bool) (decimals : All IsDec chani) where
  abbrev Are : ℕ → Properties × Left → Type 0
  Are i s = AreProperties g stores i s.0

  one_layer : (i : ℕ) (s : Properties × Left) → Are i s → GivesOnly (Are (i + 1)) (layer_at files file g chani stores i s)
  unfolding layer_at
  one_layer i s so =
      then_ _ (properties_are files file (nth_layer g chani stores i) s.1 (dec_at_is chani i decimals))
      (λ x p. ok_gives_only (joined_are g stores chani i s.0 x.0 so p))

  pub layers_are : (count : ℕ) (left : Left) → GivesOnly (Are count) (layers_of files file g chani stores count left)
  unfolding layers_of
  layers_are count left =
      counted_gives (layer_at files file g chani stores) Are one_layer count _ (no_properties g stores)

-- where there is storage, as many as there are cells
pub cells_stored : (g : Grid) (stores : Bool) (n : ℕ) → n ≡ g.layers * cond stores (layer_size g) 0 → n ≡ cond stores (cell_count g) 0
cells_stored g true n h = h
cells_stored g false n h = omega (arith, h)

module _ (files : FileSet) (file : List ℕ) where
  settings_are : (layers : ℕ) (left : Left) → GivesOnly (λ x. All IsDec x.0.chani × ((length x.0.layvka ≡ layers) × All IsShort x.0.layvka)) (settings_of file layers left)
  unfolding settings_of
  settings_are layers left =
      goes_on (zero_list file layers left) _ (λ laytyp a. goes_on (zero_list file layers laytyp.1) _ (λ layavg b. then_ _ (list_files_have_form.numbers file layers layavg.1)
      (λ chani c. then_ _ (list_files_have_form.integers file layers chani.1) (λ layvka d. goes_on (zero_list file layers layvka.1) _ (λ laywet e. ok_gives_only (c.1, d))))))

  contents_are : (bytes : List ℕ) (g : Grid) (stores : Bool) →
      GivesOnly (λ c. ((length c.layvka ≡ g.layers) × All IsShort c.layvka) × AreProperties g stores g.layers c.properties)
      (contents_of files file bytes g stores)
  unfolding contents_of
  contents_are bytes g stores =
      goes_on (option_line file (without_comments (left_from 1 bytes))) _ (λ coefficient e. then_ _ (settings_are g.layers coefficient.1)
      (λ settings s. then_ _ (layers_are files file g settings.0.chani stores s.0 g.layers settings.1) (λ layers p. ok_gives_only (s.1, p))))

  pub has_flow : (m : FlowModel) (c : Contents) → (length c.layvka ≡ m.grid.layers) × All IsShort c.layvka →
      AreProperties m.grid (is_transient m.periods) m.grid.layers c.properties → HasFlow (with_contents m c)
  has_flow m c layvka are = record {
    layvka = layvka;
    hk = are.hk;
    hani = are.hani;
    vka = are.vka;
    ss = (cells_stored m.grid (is_transient m.periods) (length c.properties.ss) are.ss.0, are.ss.1);
    vkcb = (are.beds.count, are.vkcb);
    beds = are.beds.each;
  }

  pub lpf_is : (bytes : List ℕ) (m : FlowModel) → GivesOnly (λ n. HasFlow n × SameBut m n) (lpf_of files file bytes m)
  unfolding lpf_of
  lpf_is bytes m = then_ _ (contents_are bytes m.grid (is_transient m.periods)) (λ c are. ok_gives_only (has_flow m c are.0 are.1, refl))

  pub flow_is : (bytes : List ℕ) (m : FlowModel) → GivesOnly HasFlow (lpf_of files file bytes m)
  flow_is bytes m = gives_only_less (lpf_is bytes m) (λ n is. is.0)
