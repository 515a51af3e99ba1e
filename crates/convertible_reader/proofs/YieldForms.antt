-- Where no cell was refused for its SY, none is below 0, and the model with SY for its storage coefficient is valid.
use Rattle.convertible_reader.proofs.Common.{All, Bool, ConvertibleLayers, FlowModel, Grid, IsDec, IsModel, List, Ok, arith, cell_count, dec_at, false, inl, inr, if◌then◌else◌, is_active, length}
use Rattle.convertible_reader.proofs.Common.{refl, true, with_yield, yield_step, yields_tested, ℕ, ◌&&◌, ◌<◌, ◌∙◌, ◌≡◌, IsCellValid, at_cell, dec_at_is, each_step, None, Some, ◌⊎◌, IsBedChecked}
use Rattle.convertible_reader.proofs.Common.{IsPeriod, All-weaker}
use Rattle.outside.specs.declared.codes.Code.TheVariants.{BadProperty}
use Rattle.model_types.specs.declared.period.Period.{Period}

not_below : (g : Grid) (file : List ℕ) (c : ℕ) (active neg : Bool) → active ≡ true → at_cell g file c (if active && neg then Some BadProperty else None) ≡ Ok tt → neg ≡ false
not_below g file c true true a e = absurd cc
not_below g file c true false a e = refl
not_below g file c false neg a e = absurd (let clash : false ≡ true = a in cc)

pub yields_passed : (m : FlowModel) (w : ConvertibleLayers) (file : List ℕ) → yields_tested m w file ≡ Ok tt → (c : ℕ) → c < cell_count m.grid → is_active m c ≡ true →
    (dec_at w.sy c).neg ≡ false
unfolding yields_tested
yields_passed m w file h c lt active =
    not_below m.grid file c (is_active m c) (dec_at w.sy c).neg active (each_step (yield_step m w file) (cell_count m.grid) 0 h c (omega arith) (omega (arith, lt)))

module _ (m : FlowModel) (w : ConvertibleLayers) (h : IsModel m) (many : length w.sy ≡ length m.ss) (decimals : All IsDec w.sy)
    (signs : (c : ℕ) → c < cell_count m.grid → is_active m c ≡ true → (dec_at w.sy c).neg ≡ false) where
  storage : (All (λ (p : Period). p.steady ≡ true) m.periods ⊎ (length m.ss ≡ cell_count m.grid)) → (All (λ (p : Period). p.steady ≡ true) m.periods ⊎ (length w.sy ≡ cell_count m.grid))
  storage (inl steady) = inl steady
  storage (inr e) = inr (many ∙ e)

  cell : (c : ℕ) → c < cell_count m.grid → is_active m c ≡ true → IsCellValid (with_yield m w) c
  cell c lt active = let v = h.cells c lt active in record {
    thick = v.thick;
    strt = v.strt;
    hk = v.hk;
    hani = v.hani;
    vka = v.vka;
    ss = record { decimal = dec_at_is w.sy c decimals; sign = signs c lt active };
  }

  checked_bed : (c : ℕ) → IsBedChecked m c → IsBedChecked (with_yield m w) c
  checked_bed c (inl same) = inl same
  checked_bed c (inr bed) = inr (record { thick = bed.thick; vkcb = bed.vkcb })

  pub yield_model_is : IsModel (with_yield m w)
  yield_model_is = record {
    grid = h.grid;
    ibound = h.ibound;
    strt = h.strt;
    layvka = h.layvka;
    hk = h.hk;
    hani = h.hani;
    vka = h.vka;
    vkcb = h.vkcb;
    ss = storage h.ss;
    cells = cell;
    beds = λ c inside a b bed. checked_bed c (h.beds c inside a b bed);
    nrchop = h.nrchop;
    nevtop = h.nevtop;
    some = h.some;
    few = h.few;
    steps = h.steps;
    periods = All-weaker (IsPeriod m) (IsPeriod (with_yield m w)) (λ p q. record { times = q.times; stresses = q.stresses }) m.periods h.periods;
    evaps = h.evaps;
  }
