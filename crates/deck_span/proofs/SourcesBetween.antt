-- What flows into a cell of three models of one frame lies between, source by source.
use Rattle.deck_span.proofs.Common.{◌≡◌, ℕ, ◌-◌, refl, ap, ◌∙◌, Bool, true, false, cond, Some, None, List, map, take, reverse, pos, ℤ, not, ◌&&◌, ◌==◌, int_lt, filter, filter_map, range_with_len, Dec}
use Rattle.deck_span.proofs.Common.{number, size, CellId, FlowModel, Period, Given, Entry, Face, place_in_layer, no_number, dec_at, int_at, is_active, no_period, period_at, entries, given_in}
use Rattle.deck_span.proofs.Common.{last_given, is_variable, variable_below, is_chosen, EvapSource, recharge_at, evap_source, evap_at, FixedSource, FlowSource, RiverSource, DrainSource, cell_of}
use Rattle.deck_span.proofs.Common.{as_well, as_river, as_drain, as_general, entries_of, local_entries, variable_faces, constant_faces, storage_at, flow_sources, fixed_sources, river_sources}
use Rattle.deck_span.proofs.Common.{drain_sources, evap_sources, faces, through, ToConstant, ToGeneral, FromStorage, Pumped, Received, AllThree, none, IsDecBetween, IsSizeBetween, IsEntryBetween}
use Rattle.deck_span.proofs.Common.{IsGivenBetween, IsRateBetween, IsPeriodBetween, wells, rivers, drains, generals, IsRiverBetween, IsDrainBetween, exact_river, exact_drain}
use Rattle.deck_span.proofs.{ThreeLists.OptionThree, ThreeLists.option_all_or_none, ThreeLists.option_list, ThreeLists.three_append, ThreeLists.three_at, ThreeLists.three_flat_map}
use Rattle.deck_span.proofs.{ThreeLists.three_images, ThreeLists.three_map, ThreeLists.three_reverse, ThreeLists.three_take, ThreeLists.three_filter, ThreeLists.three_find}
use Rattle.deck_span.proofs.{ThreeLists.three_filter_map, ThreeLists.OptionThree.nothing, ThreeLists.OptionThree.something, HullBounds.number_itself, HullBounds.size_itself}

-- sources of each kind
pub data IsFlowSourceBetween : FlowSource → FlowSource → FlowSource → Type 0 where
  pumped : {q₁ q₂ q₃ : Dec} → IsDecBetween q₁ q₂ q₃ → IsFlowSourceBetween (Pumped q₁) (Pumped q₂) (Pumped q₃)
  received : {q₁ q₂ q₃ : Dec} → IsDecBetween q₁ q₂ q₃ → IsFlowSourceBetween (Received q₁) (Received q₂) (Received q₃)

pub data IsFixedSourceBetween : FixedSource → FixedSource → FixedSource → Type 0 where
  constant : {x : Face} → IsFixedSourceBetween (ToConstant x) (ToConstant x) (ToConstant x)
  general : {h₁ h₂ h₃ k₁ k₂ k₃ : Dec} → IsDecBetween h₁ h₂ h₃ → IsSizeBetween k₁ k₂ k₃ → IsFixedSourceBetween (ToGeneral h₁ k₁) (ToGeneral h₂ k₂) (ToGeneral h₃ k₃)
  stored : IsFixedSourceBetween FromStorage FromStorage FromStorage

abbrev pub IsRiverSourceBetween : RiverSource → RiverSource → RiverSource → Type 0
IsRiverSourceBetween a m b = IsRiverBetween (exact_river a) (exact_river m) (exact_river b)

abbrev pub IsDrainSourceBetween : DrainSource → DrainSource → DrainSource → Type 0
IsDrainSourceBetween a m b = IsDrainBetween (exact_drain a) (exact_drain m) (exact_drain b)

pub record IsEvapSourceBetween (a m b : EvapSource) : Type 0 where
  pub rate : IsSizeBetween a.rate m.rate b.rate
  pub surface : IsDecBetween a.surface m.surface b.surface
  pub depth : m.depth ≡ a.depth
  pub ends : b.depth ≡ a.depth

-- the same frame with starting heads and periods
abbrev pub framed : FlowModel → List Dec → List Period → FlowModel
framed f s ps = record f { strt = s; periods = ps }

idle : IsPeriodBetween no_period no_period no_period
idle = record { same = refl; alike = refl; wells = none; rivers = none; drains = none; generals = none; given = none; recharge = none; surf = none; evtr = none }

pub no_dec : IsDecBetween no_number no_number no_number
no_dec = number_itself (number no_number)

no_rate : IsRateBetween no_number no_number no_number
no_rate = record { rate = size_itself (size no_number); idle = refl; alike = refl }

-- lists of CHD

named : (c : ℕ) (x y z : Given) → IsGivenBetween x y z → ((y.cell.0 == c) ≡ (x.cell.0 == c)) × ((z.cell.0 == c) ≡ (x.cell.0 == c))
named c x y z h = (ap (λ (k : CellId). k.0 == c) h.cell, ap (λ (k : CellId). k.0 == c) h.alike)

pub given_three : (c : ℕ) (xs ys zs : List Given) → AllThree IsGivenBetween xs ys zs → OptionThree IsGivenBetween (given_in xs c) (given_in ys c) (given_in zs c)
unfolding given_in
given_three c xs ys zs h = three_find IsGivenBetween (λ x. x.cell.0 == c) (λ x. x.cell.0 == c) (λ x. x.cell.0 == c) (named c) (reverse xs) (reverse ys)
    (reverse zs) (three_reverse IsGivenBetween xs ys zs h)

pub last_three : (c k : ℕ) (ps qs rs : List Period) → AllThree IsPeriodBetween ps qs rs → OptionThree IsGivenBetween (last_given (take k ps) c) (last_given (take k qs) c) (last_given (take k rs) c)
last_three c k ps qs rs h =
    given_three c _ _ _ (three_flat_map IsPeriodBetween IsGivenBetween (λ p. p.stresses.given) (λ p. p.stresses.given) (λ p. p.stresses.given) (λ x y z b.
    b.given) (take k ps) (take k qs) (take k rs) (three_take IsPeriodBetween k ps qs rs h))

-- entries of lists

same_cell : (x y z : Entry) → IsEntryBetween x y z → (cell_of y ≡ cell_of x) × (cell_of z ≡ cell_of x)
same_cell x y z (wells h) = (refl, refl)
same_cell x y z h = (refl, refl)

in_cell : (c : ℕ) (x y z : Entry) → IsEntryBetween x y z → ((cell_of y == c) ≡ (cell_of x == c)) × ((cell_of z == c) ≡ (cell_of x == c))
in_cell c x y z h = let (e, d) = same_cell x y z h in (ap (λ k. k == c) e, ap (λ k. k == c) d)

three_entries : (c : ℕ) (xs ys zs : List Entry) → AllThree IsEntryBetween xs ys zs → AllThree IsEntryBetween (entries_of c xs) (entries_of c ys) (entries_of c zs)
unfolding entries_of
three_entries c xs ys zs h = three_filter IsEntryBetween (λ x. cell_of x == c) (λ x. cell_of x == c) (λ x. cell_of x == c) (in_cell c) xs ys zs h

period_entries : (p q r : Period) → IsPeriodBetween p q r → AllThree IsEntryBetween (entries p) (entries q) (entries r)
period_entries p q r h =
    three_append IsEntryBetween _ _ _ _ _ _ h.wells (three_append IsEntryBetween _ _ _ _ _ _ h.rivers (three_append IsEntryBetween _ _ _ _ _ _ h.drains h.generals))

by_well : (x y z : Entry) → IsEntryBetween x y z → OptionThree IsFlowSourceBetween (as_well x) (as_well y) (as_well z)
by_well x y z (wells h) = something (pumped h)
by_well x y z h = nothing

by_river : (x y z : Entry) → IsEntryBetween x y z → OptionThree IsRiverSourceBetween (as_river x) (as_river y) (as_river z)
by_river x y z (rivers h k r) = something (record { conductance = k; stage = h; bottom = r })
by_river x y z h = nothing

by_drain : (x y z : Entry) → IsEntryBetween x y z → OptionThree IsDrainSourceBetween (as_drain x) (as_drain y) (as_drain z)
by_drain x y z (drains h k) = something (record { conductance = k; elevation = h })
by_drain x y z h = nothing

by_general : (x y z : Entry) → IsEntryBetween x y z → OptionThree IsFixedSourceBetween (as_general x) (as_general y) (as_general z)
by_general x y z (generals h k) = something (general h k)
by_general x y z h = nothing

-- what stands under one test
pub under : {X Y Z : Type 0} (R : X → Y → Z → Type 0) (a m b : Bool) (x : X) (y : Y) (z : Z) → m ≡ a → b ≡ a → (a ≡ true → R x y z) →
    OptionThree R (cond a (Some x) None) (cond m (Some y) None) (cond b (Some z) None)
under R a m b x y z e d h = rw (e, d) (by a h)
  where
    by : (a : Bool) → (a ≡ true → R x y z) → OptionThree R (cond a (Some x) None) (cond a (Some y) None) (cond a (Some z) None)
    by true h = something (h refl)
    by false h = nothing

unless : {X Y Z : Type 0} (R : X → Y → Z → Type 0) (a m b : Bool) (x : X) (y : Y) (z : Z) → m ≡ a → b ≡ a → R x y z → OptionThree R (cond a None (Some x)) (cond m None (Some y)) (cond b None (Some z))
unless R a m b x y z e d h = rw (e, d) (by a h)
  where
    by : (a : Bool) → R x y z → OptionThree R (cond a None (Some x)) (cond a None (Some y)) (cond a None (Some z))
    by true h = nothing
    by false h = something h

module _ (f : FlowModel) (s₁ s₂ s₃ : List Dec) (ps qs rs : List Period) (periods : AllThree IsPeriodBetween ps qs rs) where
  abbrev A : FlowModel
  A = framed f s₁ ps

  abbrev M : FlowModel
  M = framed f s₂ qs

  abbrev B : FlowModel
  B = framed f s₃ rs

  pub at_period : (p : ℕ) → IsPeriodBetween (period_at A p) (period_at M p) (period_at B p)
  at_period p = three_at IsPeriodBetween ps qs rs (p - 1) no_period no_period no_period periods idle

  -- kinds of cells

  pub variable_is : (p c : ℕ) → (is_variable M p c ≡ is_variable A p c) × (is_variable B p c ≡ is_variable A p c)
  variable_is p c =
      let (e, d) = option_all_or_none IsGivenBetween _ _ _ (last_three c p ps qs rs periods) in
      (ap (λ b. int_lt (pos 0) (int_at f.ibound c) && not b) e, ap (λ b. int_lt (pos 0) (int_at f.ibound c) && not b) d)

  pub tests : (p : ℕ) → (is_variable M p ≡ is_variable A p) × (is_variable B p ≡ is_variable A p)
  tests p = ((λ i c. (variable_is p c).0 i), (λ i c. (variable_is p c).1 i))

  pub cells_are : (p n : ℕ) → (variable_below M p n ≡ variable_below A p n) × (variable_below B p n ≡ variable_below A p n)
  unfolding variable_below
  cells_are p n = (ap (λ t. filter t (range_with_len 0 n)) (tests p).0, ap (λ t. filter t (range_with_len 0 n)) (tests p).1)

  pub faces_are : (p c : ℕ) → (variable_faces M p c ≡ variable_faces A p c) × (variable_faces B p c ≡ variable_faces A p c)
  faces_are p c = (ap (λ t. filter_map (through t) (faces f.grid c)) (tests p).0, ap (λ t. filter_map (through t) (faces f.grid c)) (tests p).1)

  pub fixed_faces_are : (p c : ℕ) → (constant_faces M p c ≡ constant_faces A p c) × (constant_faces B p c ≡ constant_faces A p c)
  fixed_faces_are p c = (
    ap (λ (t : ℕ → Bool). filter_map (through (λ k. is_active f k && not (t k))) (faces f.grid c)) (tests p).0,
    ap (λ (t : ℕ → Bool). filter_map (through (λ k. is_active f k && not (t k))) (faces f.grid c)) (tests p).1,
  )

  -- sources

  local : (p c : ℕ) → AllThree IsEntryBetween (local_entries A p c) (local_entries M p c) (local_entries B p c)
  local p c = three_entries c _ _ _ (period_entries _ _ _ (at_period p))

  chosen : (p c : ℕ) → (is_chosen f f.nrchop (period_at M p).stresses.irch c ≡ is_chosen f f.nrchop (period_at A p).stresses.irch c) ×
      (is_chosen f f.nrchop (period_at B p).stresses.irch c ≡ is_chosen f f.nrchop (period_at A p).stresses.irch c)
  chosen p c = (ap (λ (x : Period). is_chosen f f.nrchop x.stresses.irch c) (at_period p).same, ap (λ (x : Period). is_chosen f f.nrchop x.stresses.irch c) (at_period p).alike)

  recharge : (p c : ℕ) → OptionThree IsDecBetween (recharge_at A p c) (recharge_at M p c) (recharge_at B p c)
  recharge p c = under IsDecBetween _ _ _ _ _ _ (chosen p c).0 (chosen p c).1 (λ e. three_at IsDecBetween _ _ _ (place_in_layer f.grid c) no_number no_number no_number (at_period p).recharge no_dec)

  pub three_flows : (p c : ℕ) → AllThree IsFlowSourceBetween (flow_sources A p c) (flow_sources M p c) (flow_sources B p c)
  three_flows p c =
      three_append IsFlowSourceBetween _ _ _ _ _ _
      (three_map IsDecBetween IsFlowSourceBetween Received Received Received (λ x y z h. received h) _ _ _ (option_list IsDecBetween _ _ _ (recharge p c)))
      (three_filter_map IsEntryBetween IsFlowSourceBetween as_well as_well as_well by_well _ _ _ (local p c))

  stores : (p : ℕ) → OptionThree IsFixedSourceBetween (storage_at A p) (storage_at M p) (storage_at B p)
  stores p = unless IsFixedSourceBetween _ _ _ FromStorage FromStorage FromStorage (ap (λ (x : Period). x.steady) (at_period p).same) (ap (λ (x : Period). x.steady) (at_period p).alike) stored

  constants : (p c : ℕ) → AllThree IsFixedSourceBetween (map ToConstant (constant_faces A p c)) (map ToConstant (constant_faces M p c)) (map ToConstant (constant_faces B p c))
  constants p c = rw ((fixed_faces_are p c).0, (fixed_faces_are p c).1) (three_images IsFixedSourceBetween ToConstant ToConstant ToConstant (λ x. constant) (constant_faces A p c))

  pub three_fixed : (p c : ℕ) → AllThree IsFixedSourceBetween (fixed_sources A p c) (fixed_sources M p c) (fixed_sources B p c)
  three_fixed p c =
      three_append IsFixedSourceBetween _ _ _ _ _ _
      (three_append IsFixedSourceBetween _ _ _ _ _ _ (option_list IsFixedSourceBetween _ _ _ (stores p)) (constants p c))
      (three_filter_map IsEntryBetween IsFixedSourceBetween as_general as_general as_general by_general _ _ _ (local p c))

  pub three_rivers : (p c : ℕ) → AllThree IsRiverSourceBetween (river_sources A p c) (river_sources M p c) (river_sources B p c)
  three_rivers p c = three_filter_map IsEntryBetween IsRiverSourceBetween as_river as_river as_river by_river _ _ _ (local p c)

  pub three_drains : (p c : ℕ) → AllThree IsDrainSourceBetween (drain_sources A p c) (drain_sources M p c) (drain_sources B p c)
  three_drains p c = three_filter_map IsEntryBetween IsDrainSourceBetween as_drain as_drain as_drain by_drain _ _ _ (local p c)

  rates : (p c : ℕ) → IsRateBetween (evap_source A p c).rate (evap_source M p c).rate (evap_source B p c).rate
  rates p c = three_at IsRateBetween _ _ _ (place_in_layer f.grid c) no_number no_number no_number (at_period p).evtr no_rate

  evaporating : (l₁ l₂ : List ℤ) (b d : Bool) (c : ℕ) → l₂ ≡ l₁ → d ≡ b → (is_chosen f f.nevtop l₂ c && not d) ≡ (is_chosen f f.nevtop l₁ c && not b)
  evaporating l₁ l₂ b d c e g = ap (λ l. is_chosen f f.nevtop l c && not d) e ∙ ap (λ x. is_chosen f f.nevtop l₁ c && not x) g

  evap_three : (p c : ℕ) → OptionThree IsEvapSourceBetween (evap_at A p c) (evap_at M p c) (evap_at B p c)
  evap_three p c =
      let h = at_period p in
      under IsEvapSourceBetween _ _ _ _ _ _
      (evaporating _ _ _ _ c (ap (λ (x : Period). x.stresses.ievt) h.same) (rates p c).idle)
      (evaporating _ _ _ _ c (ap (λ (x : Period). x.stresses.ievt) h.alike) (rates p c).alike)
      (λ e. record {
        rate = (rates p c).rate;
        surface = three_at IsDecBetween _ _ _ (place_in_layer f.grid c) no_number no_number no_number h.surf no_dec;
        depth = ap (λ (x : Period). dec_at x.stresses.exdp (place_in_layer f.grid c)) h.same;
        ends = ap (λ (x : Period). dec_at x.stresses.exdp (place_in_layer f.grid c)) h.alike;
      })

  pub three_evaps : (p c : ℕ) → AllThree IsEvapSourceBetween (evap_sources A p c) (evap_sources M p c) (evap_sources B p c)
  three_evaps p c = option_list IsEvapSourceBetween _ _ _ (evap_three p c)
