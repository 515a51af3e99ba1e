-- A model with convertible layers that is read is valid, and so is the one with SY for its storage coefficient.
use Rattle.convertible_reader.proofs.Common.{AreLayersOf, ConvertibleLayers, FileSet, FlowModel, GivesOnly, HasFlow, IsModel, List, Ok, SameBut, ap, cell_count, convertible_lpf_in, convertible_lpf_of}
use Rattle.convertible_reader.proofs.Common.{convertible_model_of, dec_at, false, file_at, goes_on, is_active, length, ok_gives_only, refl, subst, sym, then_, true, with_yield, yields_tested, ℕ, ◌<◌}
use Rattle.convertible_reader.proofs.Common.{◌>>=◌, ◌∙◌, ◌≡◌, check_result}
use Rattle.convertible_reader.proofs.{FlowForms.lpf_is, YieldForms.yield_model_is, YieldForms.yields_passed}
use Rattle.model_reader.proofs.{ModelLimits.model_valid, ReadForms.IsRead, ReadForms.basic_is, ReadForms.begun_is, ReadForms.stressed_is, StageForms.IsStressed}
use Rattle.model_reader.specs.{needed_file}
use Rattle.model_types.specs.declared.limits.Limits.{Limits}
use Rattle.name_file.specs.{Pairs.Pairs, declared.package.Package.TheVariants.Bas, declared.package.Package.TheVariants.Dis, declared.package.Package.TheVariants.Lpf}
use Rattle.number_limits.specs.declared.passing.Check.TheVariants.{Properties}

-- the file and its reading, and then the tests
pub lpf_next : (files : FileSet) (lpf bytes : List ℕ) (basic read : FlowModel) (x : FlowModel × ConvertibleLayers) → file_at files lpf ≡ Ok bytes → read ≡ basic →
    convertible_lpf_of files lpf bytes read ≡ Ok x →
    convertible_lpf_in files lpf basic ≡ (check_result x.0 lpf Properties >>= λ good. yields_tested x.0 x.1 lpf >>= λ yields. Ok x)
unfolding convertible_lpf_in
lpf_next files lpf bytes basic read x a same b = rw (a, ← same, b) refl

-- a model whose properties were read and passed their tests, and its convertible layers
record IsFlowRead (lpf : List ℕ) (basic flow : FlowModel) (w : ConvertibleLayers) : Type 0 where
  pub properties : HasFlow flow
  pub others : SameBut basic flow
  pub layers : AreLayersOf flow w
  pub good : check_result flow lpf Properties ≡ Ok tt
  pub yields : yields_tested flow w lpf ≡ Ok tt

-- a valid model with convertible layers
pub record IsConvertible (m : FlowModel) (w : ConvertibleLayers) : Type 0 where
  pub model : IsModel m
  pub laytyp : length w.laytyp ≡ m.grid.layers
  pub yields : IsModel (with_yield m w)

module _ (limits : Limits) (lpf : List ℕ) (basic flow m : FlowModel) (w : ConvertibleLayers) (f : IsFlowRead lpf basic flow w) (r : IsRead limits m) (s : IsStressed limits flow m) where
  -- stresses leave all but NRCHOP, NEVTOP and the periods
  many : length w.sy ≡ length m.ss
  many = f.layers.sy.0 ∙ sym f.properties.ss.0 ∙ sym (ap (λ (n : FlowModel). length n.ss) s.stage.is)

  signs : (c : ℕ) → c < cell_count m.grid → is_active m c ≡ true → (dec_at w.sy c).neg ≡ false
  signs = subst (λ (n : FlowModel). (c : ℕ) → c < cell_count n.grid → is_active n c ≡ true → (dec_at w.sy c).neg ≡ false) (sym s.stage.is) (yields_passed flow w lpf f.yields)

  convertible_is : IsConvertible m w
  convertible_is = record {
    model = model_valid limits m r;
    laytyp = f.layers.laytyp ∙ sym (ap (λ (n : FlowModel). n.grid.layers) s.stage.is);
    yields = yield_model_is m w (model_valid limits m r) many f.layers.sy.1 signs;
  }

module _ (limits : Limits) (files : FileSet) where
  lpf_read : (lpf : List ℕ) (basic : FlowModel) → GivesOnly (λ x. IsFlowRead lpf basic x.0 x.1) (convertible_lpf_in files lpf basic)
  unfolding convertible_lpf_in
  lpf_read lpf basic =
      goes_on (file_at files lpf) _ (λ bytes a. then_ _ (lpf_is files lpf bytes basic) (λ x is. goes_on (check_result x.0 lpf Properties) _
      (λ good b. goes_on (yields_tested x.0 x.1 lpf) _ (λ yields c. ok_gives_only (record { properties = is.0; others = is.1; layers = is.2; good = b; yields = c })))))

  model_is : (names : Pairs) → GivesOnly (λ x. IsConvertible x.0 x.1) (convertible_model_of limits files names)
  unfolding convertible_model_of
  model_is names =
      let dis = needed_file Dis names in
      let bas = needed_file Bas names in
      let lpf = needed_file Lpf names in
      then_ _ (begun_is limits files dis) (λ begun a. then_ _ (basic_is limits files dis bas begun) (λ basic b. then_ _ (lpf_read lpf basic)
      (λ x f. then_ _ (stressed_is limits files names dis bas lpf begun basic x.0 a b f.properties f.others f.good)
      (λ m r. ok_gives_only (convertible_is limits lpf basic x.0 m x.1 f r.0 r.1)))))

pub read_valid : (limits : Limits) (files : FileSet) (names : Pairs) (x : FlowModel × ConvertibleLayers) → convertible_model_of limits files names ≡ Ok x →
    IsConvertible x.0 x.1
read_valid limits files names x h = (model_is limits files names).gives x h
