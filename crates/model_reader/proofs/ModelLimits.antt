-- A model that is read is in limits.
use Rattle.model_reader.proofs.Common.{◌≡◌, ◌⊎◌, inl, inr, ℕ, ◌+◌, ◌<◌, ℤ, pos, ◌≤ℤ◌, Bool, true, false, not, ◌&&◌, ◌||◌, nat_le, nat_lt, List, [], ◌∷◌, All, length, refl, sym, ap, arith, FlowModel}
use Rattle.model_reader.proofs.Common.{layer_size, cell_count, IsModel, IsCellValid, IsBedValid, IsBedChecked, IsPeriod, Properties, StartHead, Thickness, is_transient, HasFlow, is_checked_bed}
use Rattle.model_reader.proofs.Common.{dec_at, is_active, has_bed, top_at, bottom_at, lowest, negsuc, Result, Ok, Err, IfOk, FileSet, InputFault, Has, Pairs, model_of, All-nil, All-cons, All-weaker}
use Rattle.model_reader.proofs.Common.{Dec, number, IsLayerArray, is_int, Grid, Limits, Period, Wells, Rivers, Drains, Generals, IsReals, is_option, Area, HasArrays, evaporation_arrays, entry_list}
use Rattle.model_reader.proofs.Common.{given_list, is_thick, is_positive, is_same_number}
use Rattle.std.proofs.{lemmas.Bool.and_parts, lemmas.Bool.or_parts, lemmas.Bool.not-true, lemmas.Bool.lt-leb, lemmas.Bool.lt-ltb, lemmas.Bool.leb-true, lemmas.Int.ints}
use Rattle.number_limits.proofs.{PassedCells.each_passed, Canonical.dec_at_is, HeadLemmas.head_of, FloorLemmas.thick_sound, SignLemmas.one_dec, SignLemmas.positive_of}
use Rattle.evt_package.proofs.ModelLemmas.{evaps}
use Rattle.model_reader.proofs.{CheckForms.IsSound, PeriodForms.IsKnown, PeriodForms.IsOption, ReadForms.IsRead, ReadForms.model_is}

second : (a b : Bool) → (not a || b) ≡ true → a ≡ true → b ≡ true
second true b e f = e
second false b e f = absurd (let clash : false ≡ true = f in cc)

other : (a b : Bool) → (a || b) ≡ true → a ≡ false → b ≡ true
other false b e f = e
other true b e f = absurd (let clash : true ≡ false = f in cc)

-- the tests of properties from the last on
abbrev has_vkcb : FlowModel → ℕ → Bool
has_vkcb m c = not (is_checked_bed m c) || is_positive (dec_at m.vkcb c)

abbrev has_ss : FlowModel → ℕ → Bool
has_ss m c = not (dec_at m.ss c).neg && has_vkcb m c

abbrev has_vka : FlowModel → ℕ → Bool
has_vka m c = (nat_le m.grid.layers 1 || is_positive (dec_at m.vka c)) && has_ss m c

abbrev has_hani : FlowModel → ℕ → Bool
has_hani m c = is_positive (dec_at m.hani c) && has_vka m c

all_but_last : (a b c d : Bool) → a ≡ true → b ≡ true → c ≡ true → d ≡ false → (a && (b && (c && not d))) ≡ true
all_but_last a b c d p q r s = rw (p, q, r, s) refl

checked_bed : (m : FlowModel) (c : ℕ) → c + layer_size m.grid < cell_count m.grid → is_active m (c + layer_size m.grid) ≡ true → has_bed m c ≡ true →
    is_same_number (bottom_at m c) (lowest m c) ≡ false → is_checked_bed m c ≡ true
checked_bed m c lt active bed differ = all_but_last (has_bed m c) (nat_lt (c + layer_size m.grid) (cell_count m.grid)) (is_active m (c + layer_size m.grid))
    (is_same_number (bottom_at m c) (lowest m c)) bed (lt-ltb (c + layer_size m.grid) (cell_count m.grid) lt) active differ

one_number : (a b : Dec) → is_same_number a b ≡ true → number b ≡ number a
one_number a b e = sym (ap number (one_dec a b e))

all_steady : (ps : List Period) → is_transient ps ≡ false → All (λ p. p.steady ≡ true) ps
all_steady [] e = All-nil (λ p. p.steady ≡ true)
all_steady (p ∷ ps) e =
    let q = or_parts (not p.steady) (is_transient ps) e in
    All-cons (λ p. p.steady ≡ true) p ps (by_case p.steady q.0) (all_steady ps q.1)
  where
    by_case : (b : Bool) → not b ≡ false → b ≡ true
    by_case true f = refl
    by_case false f = absurd (let clash : true ≡ false = f in cc)

storage : (m : FlowModel) → HasFlow m → All (λ p. p.steady ≡ true) m.periods ⊎ (length m.ss ≡ cell_count m.grid)
storage m h = grind (arith, all_steady)

module _ (limits : Limits) (m : FlowModel) (h : IsSound limits m) where
  cell : (c : ℕ) → c < cell_count m.grid → is_active m c ≡ true → IsCellValid m c
  cell c lt active =
      let thick = and_parts (is_thick (top_at m c) (bottom_at m c)) (not (is_checked_bed m c) || is_thick (bottom_at m c) (lowest m c))
      (each_passed m [] Thickness (h.passed Thickness []) c lt active) in
      let hk = and_parts (is_positive (dec_at m.hk c)) (has_hani m c) (each_passed m [] Properties (h.passed Properties []) c lt active) in
      let hani = and_parts (is_positive (dec_at m.hani c)) (has_vka m c) hk.1 in
      let vka = and_parts (nat_le m.grid.layers 1 || is_positive (dec_at m.vka c)) (has_ss m c) hani.1 in
      let ss = and_parts (not (dec_at m.ss c).neg) (has_vkcb m c) vka.1 in
      record {
        thick = thick_sound (top_at m c) (bottom_at m c) thick.0;
        strt = head_of (dec_at m.strt c) (dec_at_is m.strt c h.strt.1) (each_passed m [] StartHead (h.passed StartHead []) c lt active);
        hk = positive_of (dec_at m.hk c) (dec_at_is m.hk c h.flow.hk.1) hk.0;
        hani = positive_of (dec_at m.hani c) (dec_at_is m.hani c h.flow.hani.1) hani.0;
        vka = λ several. positive_of (dec_at m.vka c) (dec_at_is m.vka c h.flow.vka.1) (other (nat_le m.grid.layers 1) (is_positive (dec_at m.vka c)) vka.0 (lt-leb m.grid.layers 1 several));
        ss = record { decimal = dec_at_is m.ss c h.flow.ss.1; sign = not-true (dec_at m.ss c).neg ss.0 };
      }

  good_bed : (c : ℕ) → c < cell_count m.grid → is_active m c ≡ true → is_checked_bed m c ≡ true → IsBedValid m c
  good_bed c lt active bed =
      let thick = and_parts (is_thick (top_at m c) (bottom_at m c)) (not (is_checked_bed m c) || is_thick (bottom_at m c) (lowest m c))
      (each_passed m [] Thickness (h.passed Thickness []) c lt active) in
      let hk = and_parts (is_positive (dec_at m.hk c)) (has_hani m c) (each_passed m [] Properties (h.passed Properties []) c lt active) in
      let hani = and_parts (is_positive (dec_at m.hani c)) (has_vka m c) hk.1 in
      let vka = and_parts (nat_le m.grid.layers 1 || is_positive (dec_at m.vka c)) (has_ss m c) hani.1 in
      let ss = and_parts (not (dec_at m.ss c).neg) (has_vkcb m c) vka.1 in
      record {
        thick = thick_sound (bottom_at m c) (lowest m c) (second (is_checked_bed m c) (is_thick (bottom_at m c) (lowest m c)) thick.1 bed);
        vkcb = positive_of (dec_at m.vkcb c) (dec_at_is m.vkcb c h.flow.vkcb.1) (second (is_checked_bed m c) (is_positive (dec_at m.vkcb c)) ss.1 bed);
      }

  bed_of : (c : ℕ) → c + layer_size m.grid < cell_count m.grid → is_active m c ≡ true → is_active m (c + layer_size m.grid) ≡ true → has_bed m c ≡ true → IsBedChecked m c
  bed_of c lt active below bed = by_case (is_same_number (bottom_at m c) (lowest m c)) refl
    where
      by_case : (b : Bool) → is_same_number (bottom_at m c) (lowest m c) ≡ b → IsBedChecked m c
      by_case true e = inl (one_number (bottom_at m c) (lowest m c) e)
      by_case false e = inr (good_bed c (omega (arith, lt)) active (checked_bed m c lt below bed e))

-- Options, arrays and periods.
-- an option that is not 0, as any that is 2, is from 1 to 3
chosen : (z : ℤ) → IsOption z → is_int z 0 ≡ false → is_option z ≡ true
chosen z (inl e) some = absurd (let clash : true ≡ false = rw e at some in cc)
chosen z (inr e) some = e

two : (z : ℤ) → IsOption z → is_int z 2 ≡ true → is_option z ≡ true
two z (inl e) h = absurd (let clash : false ≡ true = rw e at h in cc)
two z (inr e) h = e

in_range : (z : ℤ) → IsOption z → (pos 0 ≤ℤ z) × (z ≤ℤ pos 3)
in_range z (inl e) = (omega (arith, ints, e), omega (arith, ints, e))
in_range (pos n) (inr e) = let few = leb-true n 3 (and_parts (nat_lt 0 n) (nat_le n 3) e).1 in (omega (arith, ints), omega (arith, ints, few))
in_range (negsuc n) (inr e) = absurd (let clash : false ≡ true = e in cc)

array : (g : Grid) (xs : List Dec) → IsReals g xs → IsLayerArray g xs
array g xs h = record { whole = h.0; decimals = h.1 }

module _ (limits : Limits) (m : FlowModel) (r : IsRead limits m) where
  period : (p : Period) → IsKnown limits m.grid m.ibound m.nrchop m.nevtop p → IsPeriod m p
  period p k = record {
    times = k.times;
    stresses = record {
      wells = entry_list limits Wells (cell_count m.grid) p p.stresses.wells (k.entries Wells);
      rivers = entry_list limits Rivers (cell_count m.grid) p p.stresses.rivers (k.entries Rivers);
      drains = entry_list limits Drains (cell_count m.grid) p p.stresses.drains (k.entries Drains);
      generals = entry_list limits Generals (cell_count m.grid) p p.stresses.generals (k.entries Generals);
      given = given_list limits (cell_count m.grid) p p.stresses.given k.given;
      recharge = λ f. array m.grid p.stresses.recharge (k.arrays.rch.some (chosen m.nrchop r.options.0 f)).is.rates;
      irch = λ f. (k.arrays.rch.some (two m.nrchop r.options.0 f)).is.layers.whole f;
      surf = λ f. array m.grid p.stresses.surf ((k.arrays.evt.some (chosen m.nevtop r.options.1 f)).is.surfaces refl);
      evtr = λ f. array m.grid p.stresses.evtr (k.arrays.evt.some (chosen m.nevtop r.options.1 f)).is.rates;
      exdp = λ f. array m.grid p.stresses.exdp ((k.arrays.evt.some (chosen m.nevtop r.options.1 f)).is.depths refl);
      ievt = λ f. (k.arrays.evt.some (two m.nevtop r.options.1 f)).is.layers.whole f;
    };
  }

  evaporation : IsOption m.nevtop → (p : Period) → IsKnown limits m.grid m.ibound m.nrchop m.nevtop p →
      HasArrays evaporation_arrays m.grid m.ibound m.nevtop (evaporation_arrays.area p.stresses) ⊎ (p.stresses.evtr ≡ [])
  evaporation (inl e) p k = inr (ap (λ (a : Area). a.rates) (k.arrays.evt.none e))
  evaporation (inr e) p k = inl (k.arrays.evt.some e)

  pub model_valid : IsModel m
  model_valid = let h = r.sound in record {
    grid = h.discretized.grid;
    ibound = h.ibound;
    strt = h.strt.0;
    layvka = h.flow.layvka.0;
    hk = h.flow.hk.0;
    hani = h.flow.hani.0;
    vka = h.flow.vka.0;
    vkcb = h.flow.vkcb.0;
    ss = storage m h.flow;
    cells = cell limits m h;
    beds = bed_of limits m h;
    nrchop = in_range m.nrchop r.options.0;
    nevtop = in_range m.nevtop r.options.1;
    some = h.discretized.some;
    few = h.discretized.few;
    steps = h.discretized.steps;
    periods = All-weaker (IsKnown limits m.grid m.ibound m.nrchop m.nevtop) (IsPeriod m) period m.periods r.each;
    evaps = evaps m h.discretized.grid.size
        (All-weaker (IsKnown limits m.grid m.ibound m.nrchop m.nevtop) (λ p.
        HasArrays evaporation_arrays m.grid m.ibound m.nevtop (evaporation_arrays.area p.stresses) ⊎ (p.stresses.evtr ≡ []))
        (evaporation r.options.1) m.periods r.each);
  }

pub read_valid : (limits : Limits) (files : FileSet) (names : Pairs) (r : Result FlowModel InputFault) → Has (λ m. m) r (model_of limits files names) → IfOk r IsModel
read_valid limits files names (Ok m) h = model_valid limits m ((model_is limits files names).gives m h)
read_valid limits files names (Err fault) h = tt
