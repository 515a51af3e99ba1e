-- The exact step of a model with a plan's wells.
use Rattle.plan_histories.proofs.Common.{◌≡◌, ◌-◌, ◌*◌, ◌<◌, ◌^◌, ◌∙◌, ℕ, ap, arith, refl, subst, sym, ℤ, pos, ◌-ℤ◌, ◌*ℤ◌, ◌≤ℤ◌, All, List, [], ◌∷◌, ◌++◌, None, Option, Some, cond, get_or, length}
use Rattle.plan_histories.proofs.Common.{map, not, take, AllZip, filter, filter_map, range_with_len, int_lt, is_some, ◌&&◌, ◌==◌, inl, inr, append_assoc, get_or-map, get_or_default, get_or_past}
use Rattle.plan_histories.proofs.Common.{length-map, map-append, All-append, All-nil, All-weaker, EnclosesSigned, Fraction, Ratio, as_fraction, number, size, over, exact_cell, exact_drain, exact_evap}
use Rattle.plan_histories.proofs.Common.{exact_fixed, exact_flow, exact_link, exact_river, exact_step, Entry, FlowModel, DrainSource, EvapSource, FixedSource, FlowSource, FromStorage, Pumped}
use Rattle.plan_histories.proofs.Common.{Received, RiverSource, ToConstant, ToGeneral, as_drain, as_general, as_river, as_well, between_heads, cell_count, conductance, constant_faces, dec_at, entries}
use Rattle.plan_histories.proofs.Common.{evap_sources, faces, fixed_sources, head_or_kept, int_at, is_active, is_chosen, is_variable, kept_head, last_given, period_at, place_in_layer, recharge_at}
use Rattle.plan_histories.proofs.Common.{through, variable_cells, variable_faces, constant_head, given_in, variable_below, area, column_conductance, row_conductance, vertical_conductance}
use Rattle.plan_histories.proofs.Common.{vertical_half, storage, part_passed, lists_kept, period_is, IsWell, with_plan, with_wells, KeepsWellsApart, PlannedSteps, plan_flows, cases_lt, Period}
use Rattle.std.specs.Option.{option_to_list}
use Rattle.std.proofs.{Math.IntN.zero-*ℤ, lemmas.Int.ints}
use Rattle.decimal_input.specs.{Fractions.den, Fractions.times as product, Ratios.times}
use Rattle.cell_balance.proofs.{Denominators.fraction_over, Enclosing.enclosed_over, Scaling.IsOver-minus}
use Rattle.cell_balance.specs.{ExactCell, ExactFixed, cell_at, minus, no_cell}
use Rattle.model_types.specs.{declared.entry.Entry.TheVariants.Well, declared.entry.Entry.TheVariants.River, declared.entry.Entry.TheVariants.Drain, declared.entry.Entry.TheVariants.General}
use Rattle.model_types.specs.{declared.face.Axis.Axis, declared.face.Axis.TheVariants.Column, declared.face.Axis.TheVariants.Row, declared.face.Axis.TheVariants.Vertical, declared.face.Face.Face}
use Rattle.model_types.specs.declared.entry.Given.{Given}
use Rattle.step_problem.specs.declared.heads.Bound.{Bound}
use Rattle.plan_step.specs.{IsApartBy, IsPlannedCell, bound_at}
use Rattle.plan_histories.proofs.Picked.{added, kept, picked}

-- a number less itself
pub nothing_apart : (f : Fraction) → EnclosesSigned (pos 0) (pos 0) 9 (minus f f)
nothing_apart f =
    let (z, over_z) = fraction_over (den f) (10 ^ 9) f (1, omega arith) in
    enclosed_over (pos 0) (pos 0) 9 (den f) (minus f f) (z -ℤ z) (omega arith) (IsOver-minus (den f * 10 ^ 9) f f z z over_z over_z) (low (den f) z) (high (den f) z)
  where
    low : (n : ℕ) (z : ℤ) → (pos 0 *ℤ pos n) ≤ℤ (z -ℤ z)
    low n z = rw (zero-*ℤ (pos n)) (omega (arith, ints))

    high : (n : ℕ) (z : ℤ) → (z -ℤ z) ≤ℤ (pos 0 *ℤ pos n)
    high n z = rw (zero-*ℤ (pos n)) (omega (arith, ints))

pub zip_images : {X A B : Type 0} (R : A → B → Type 0) (f : X → A) (g : X → B) → ((x : X) → R (f x) (g x)) → (xs : List X) → AllZip R (map f xs) (map g xs)
zip_images R f g each [] = tt
zip_images R f g each (x ∷ xs) = (each x, zip_images R f g each xs)

passed_wells : (q : Period) (w : List Entry) (n : ℕ) → part_passed (with_wells q w) n ≡ part_passed q n
unfolding part_passed
passed_wells q w n = refl

-- wells are wells alone
no_river : (cells : ℕ) (x : Entry) → IsWell cells x → as_river x ≡ None
no_river cells (Well c q) h = refl
no_river cells (River c s k b) h = absurd h
no_river cells (Drain c e k) h = absurd h
no_river cells (General c e k) h = absurd h

no_drain : (cells : ℕ) (x : Entry) → IsWell cells x → as_drain x ≡ None
no_drain cells (Well c q) h = refl
no_drain cells (River c s k b) h = absurd h
no_drain cells (Drain c e k) h = absurd h
no_drain cells (General c e k) h = absurd h

no_general : (cells : ℕ) (x : Entry) → IsWell cells x → as_general x ≡ None
no_general cells (Well c q) h = refl
no_general cells (River c s k b) h = absurd h
no_general cells (Drain c e k) h = absurd h
no_general cells (General c e k) h = absurd h

module _ (m : FlowModel) (plan : List (List Entry)) (long : length plan ≡ length m.periods) (p n : ℕ) where
  abbrev M : FlowModel
  M = with_plan plan m

  abbrev P : Period
  P = period_at m p

  abbrev w : List Entry
  w = get_or plan (p - 1) []

  abbrev others : List Entry
  others = P.stresses.rivers ++ (P.stresses.drains ++ P.stresses.generals)

  here : period_at M p ≡ with_wells P w
  here = period_is m plan p long

  given_same : (k c : ℕ) → last_given (take k M.periods) c ≡ last_given (take k m.periods) c
  given_same k c = ap (λ (xs : List Given). given_in xs c) (lists_kept (λ q. q.stresses.given) (λ q v. refl) k m.periods plan long)

  pub variable_same : (c : ℕ) → is_variable M p c ≡ is_variable m p c
  variable_same c = ap (λ (o : Option Given). int_lt (pos 0) (int_at m.ibound c) && not (is_some o)) (given_same p c)

  pub cells_same : (k : ℕ) → variable_below M p k ≡ variable_below m p k
  unfolding variable_below
  cells_same k = λ i. filter (λ c. (variable_same c) i) (range_with_len 0 k)

  faces_same : (c : ℕ) → variable_faces M p c ≡ variable_faces m p c
  faces_same c = λ i. filter_map (through (λ k. (variable_same k) i)) (faces m.grid c)

  constant_faces_same : (c : ℕ) → constant_faces M p c ≡ constant_faces m p c
  constant_faces_same c = λ i. filter_map (through (λ k. is_active m k && not ((variable_same k) i))) (faces m.grid c)

  conductance_same : (axis : Axis) (c : ℕ) → conductance M axis c ≡ conductance m axis c
  unfolding row_conductance column_conductance vertical_conductance vertical_half
  conductance_same Row c = refl
  conductance_same Column c = refl
  conductance_same Vertical c = refl

  area_same : (c : ℕ) → area M c ≡ area m c
  unfolding area
  area_same c = refl

  storage_wells : (c : ℕ) (q : Period) (v : List Entry) → storage M (with_wells q v) n c ≡ storage m q n c
  unfolding storage
  storage_wells c q v = refl

  passed : part_passed (period_at M p) n ≡ part_passed P n
  passed = ap (λ (q : Period). part_passed q n) here ∙ passed_wells P w n

  kept_same : (o : Option Given) (c : ℕ) → kept_head M o c ≡ kept_head m o c
  kept_same None c = refl
  kept_same (Some x) c = refl

  by_given : (o : Option Given) (c : ℕ) → head_or_kept M p n o c ≡ head_or_kept m p n o c
  by_given (Some x) c = ap (λ (r : Ratio). between_heads x r) passed
  by_given None c = ap (λ (o : Option Given). kept_head M o c) (given_same (p - 1) c) ∙ kept_same (last_given (take (p - 1) m.periods) c) c

  pub head_same : (c : ℕ) → constant_head M p n c ≡ constant_head m p n c
  unfolding constant_head
  head_same c = ap (λ (q : Period). head_or_kept M p n (given_in q.stresses.given c) c) here ∙ by_given (given_in P.stresses.given c) c

  module _ (old older : ℕ → Fraction) where
    link_same : (x : Face) → exact_link M p n older x ≡ exact_link m p n old x
    link_same x = λ i. record { cell = length ((cells_same x.end) i); conductance = (conductance_same x.axis x.first) i }

    links_same : (c : ℕ) → map (exact_link M p n older) (variable_faces M p c) ≡ map (exact_link m p n old) (variable_faces m p c)
    links_same c = λ i. map (λ x. (link_same x) i) ((faces_same c) i)

    flow_same : (c : ℕ) (x : FlowSource) → exact_flow M p n older c x ≡ exact_flow m p n old c x
    flow_same c (Pumped q) = refl
    flow_same c (Received rate) = ap (λ (r : Ratio). record (exact_flow m p n old c (Received rate)) { flow = product (number rate) (as_fraction r) }) (area_same c)

    evap_same : (c : ℕ) (x : EvapSource) → exact_evap M p n older c x ≡ exact_evap m p n old c x
    evap_same c x = ap (λ (r : Ratio). record (exact_evap m p n old c x) { conductance = over (times (size x.rate) r) (size x.depth) }) (area_same c)

    abbrev evap_in : Period → ℕ → EvapSource
    evap_in q c = record {
      rate = dec_at q.stresses.evtr (place_in_layer m.grid c);
      surface = dec_at q.stresses.surf (place_in_layer m.grid c);
      depth = dec_at q.stresses.exdp (place_in_layer m.grid c);
    }

    recharge_same : (c : ℕ) → recharge_at M p c ≡ recharge_at m p c
    recharge_same c = ap (λ (q : Period). cond (is_chosen m m.nrchop q.stresses.irch c) (Some (dec_at q.stresses.recharge (place_in_layer m.grid c))) None) here

    evaps_same : (c : ℕ) → evap_sources M p c ≡ evap_sources m p c
    evaps_same c = ap (λ (q : Period). option_to_list (cond (is_chosen m m.nevtop q.stresses.ievt c && not ((evap_in q c).rate.digits == 0)) (Some (evap_in q c)) None)) here

    module _ (wells : All (IsWell (cell_count m.grid)) w) (apart : KeepsWellsApart P) where
      entries_are : entries (period_at M p) ≡ (P.stresses.wells ++ w) ++ others
      entries_are = ap (λ (q : Period). entries q) here

      no_wells : All (λ x. as_well x ≡ None) others
      no_wells =
          All-append (λ (x : Entry). as_well x ≡ None) P.stresses.rivers (P.stresses.drains ++ P.stresses.generals) apart.rivers
          (All-append (λ (x : Entry). as_well x ≡ None) P.stresses.drains P.stresses.generals apart.drains apart.generals)

      sources_same : {X : Type 0} (f : Entry → Option X) → ((x : Entry) → IsWell (cell_count m.grid) x → f x ≡ None) → (c : ℕ) → picked f c (entries (period_at M p)) ≡ picked f c (entries P)
      sources_same f none c =
          ap (λ (xs : List Entry). picked f c xs) entries_are ∙ kept f c P.stresses.wells w others (All-weaker (IsWell (cell_count m.grid)) (λ x. f x ≡ None) none w wells)

      flows_are : (c : ℕ) → map (exact_flow M p n older c) (map Received (option_to_list (recharge_at M p c)) ++ picked as_well c (entries (period_at M p)))
          ≡ map (exact_flow m p n old c) (map Received (option_to_list (recharge_at m p c)) ++ picked as_well c (entries P)) ++ map (exact_flow m p n old c) (picked as_well c w)
      flows_are c =
          let r = map Received (option_to_list (recharge_at m p c)) in
          let own = picked as_well c (entries P) in
          let more = picked as_well c w in
          (λ i. map (λ x. (flow_same c x) i)
          (map Received (option_to_list ((recharge_same c) i)) ++
          ((ap (λ (xs : List Entry). picked as_well c xs) entries_are ∙ added as_well c P.stresses.wells w others no_wells) i)))
          ∙ ap (λ (xs : List FlowSource). map (exact_flow m p n old c) xs) (sym (append_assoc r own more)) ∙ map-append (exact_flow m p n old c) (r ++ own) more

      pub fixed_same : (c : ℕ) → fixed_sources M p c ≡ fixed_sources m p c
      fixed_same c =
          λ i. option_to_list ((ap (λ (q : Period). cond q.steady None (Some FromStorage)) here) i) ++ map ToConstant ((constant_faces_same c) i) ++
          ((sources_same as_general (no_general (cell_count m.grid)) c) i)

      conducts_same : (c : ℕ) (x : FixedSource) → (exact_fixed M p n older c x).conductance ≡ (exact_fixed m p n old c x).conductance
      conducts_same c (ToConstant x) = conductance_same x.axis x.first
      conducts_same c (ToGeneral h k) = refl
      conducts_same c FromStorage = ap (λ (q : Period). storage M q n c) here ∙ storage_wells c P w

      heads_apart : (c : ℕ) (b : Bound) → EnclosesSigned b.low b.high 9 (minus (old c) (older c)) → (x : FixedSource) → IsApartBy b (exact_fixed m p n old c x) (exact_fixed M p n older c x)
      heads_apart c b within (ToConstant x) =
          record { head = subst (λ (f : Fraction). EnclosesSigned (pos 0) (pos 0) 9 (minus (constant_head m p n x.end) f)) (sym (head_same x.end)) (nothing_apart (constant_head m p n x.end)) }
      heads_apart c b within (ToGeneral h k) = record { head = nothing_apart (number h) }
      heads_apart c b within FromStorage = record { head = within }

      planned_cell : (c : ℕ) (b : Bound) → EnclosesSigned b.low b.high 9 (minus (old c) (older c)) →
          IsPlannedCell b (map (exact_flow m p n old c) (picked as_well c w)) (exact_cell m p n old c) (exact_cell M p n older c)
      planned_cell c b within = record {
        weather = record {
          links = links_same c;
          known = subst (λ (xs : List FixedSource). AllZip (λ a q. q.conductance ≡ a.conductance) (map (exact_fixed m p n old c) (fixed_sources m p c))
              (map (exact_fixed M p n older c) xs)) (sym (fixed_same c))
              (zip_images (λ (a q : ExactFixed). q.conductance ≡ a.conductance) (exact_fixed m p n old c) (exact_fixed M p n older c) (conducts_same c) (fixed_sources m p c));
          rivers = ap (λ (xs : List RiverSource). map exact_river xs) (sources_same as_river (no_river (cell_count m.grid)) c);
          drains = ap (λ (xs : List DrainSource). map exact_drain xs) (sources_same as_drain (no_drain (cell_count m.grid)) c);
          evaps = λ i. map (λ x. (evap_same c x) i) ((evaps_same c) i);
        };
        apart = subst (λ (xs : List FixedSource). AllZip (IsApartBy b) (map (exact_fixed m p n old c) (fixed_sources m p c)) (map (exact_fixed M p n older c) xs)) (sym (fixed_same c))
            (zip_images (IsApartBy b) (exact_fixed m p n old c) (exact_fixed M p n older c) (heads_apart c b within) (fixed_sources m p c));
        flows = flows_are c;
      }

pub well_list : (cells : ℕ) (plan : List (List Entry)) (i : ℕ) → All (All (IsWell cells)) plan → All (IsWell cells) (get_or plan i [])
well_list cells plan i all = elim (cases_lt i (length plan)) [
  | inl inside ↦ all i [] inside
  | inr past ↦ subst (λ (xs : List Entry). All (IsWell cells) xs) (sym (get_or_past plan i [] past)) (All-nil (IsWell cells))
]

pub planned_steps : PlannedSteps
planned_steps m plan p n old older olds long wells apart within = record {
  as_many = length-map (variable_cells (with_plan plan m) p) (exact_cell (with_plan plan m) p n older) ∙ ap (λ (xs : List ℕ). length xs) same ∙ sym
      (length-map (variable_cells m p) (exact_cell m p n old));
  cells = λ c lt. cell c (subst (λ (k : ℕ). c < k) (length-map (variable_cells m p) (exact_cell m p n old)) lt);
}
  where
    same : variable_cells (with_plan plan m) p ≡ variable_cells m p
    same = cells_same m plan long p n (cell_count m.grid)

    cell : (c : ℕ) → c < length (variable_cells m p) → IsPlannedCell (bound_at olds (cell_at (exact_step m p n old) c).id) (plan_flows m plan p n old c)
        (cell_at (exact_step m p n old) c) (cell_at (exact_step (with_plan plan m) p n older) c)
    cell c lt =
        let k = get_or (variable_cells m p) c 0 in
        let first : cell_at (exact_step m p n old) c ≡ exact_cell m p n old k = get_or-map (exact_cell m p n old) (variable_cells m p) c 0 no_cell lt in
        let second : cell_at (exact_step (with_plan plan m) p n older) c ≡ exact_cell (with_plan plan m) p n older k =
        ap (λ (xs : List ℕ). get_or (map (exact_cell (with_plan plan m) p n older) xs) c no_cell) same ∙ get_or-map (exact_cell (with_plan plan m) p n older) (variable_cells m p) c 0 no_cell lt in
        subst (λ (x : ExactCell). IsPlannedCell (bound_at olds x.id) (plan_flows m plan p n old c) x (cell_at (exact_step (with_plan plan m) p n older) c)) (sym first)
        (subst (λ (y : ExactCell). IsPlannedCell (bound_at olds k) (plan_flows m plan p n old c) (exact_cell m p n old k) y) (sym second)
        (planned_cell m plan long p n old older (well_list (cell_count m.grid) plan (p - 1) wells) apart k (bound_at olds k) (within k (c, lt, get_or_default (variable_cells m p) c k 0 lt))))
