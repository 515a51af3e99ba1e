-- The bounds of the flow of stored water enclose it.
use Rattle.water_storage.proofs.Common.{◌≡◌, ℕ, ◌+◌, Bool, true, false, cond, refl, pos, ℤ, Encloses, EnclosesSigned, Fraction, Ratio, number, size, over, times, as_fraction, greater, lesser, minus}
use Rattle.water_storage.proofs.Common.{whole, none_encloses, plus_encloses, Bound, High, Low, FlowModel, Period, IsModel, dec_at, one, period_at, storage_capacity, top_at, Lasts, ConvertibleLayers}
use Rattle.water_storage.proofs.Common.{stored, ArePairs, StoredFlowsEnclose, confined_flow, crossing_flow, greater_bound, lesser_bound, stored_flow, top_bound, with_yield, IsSmallPair, arith}
use Rattle.water_storage.proofs.Common.{yield_pair, le_of_mul-le-mul_right, storage_term, units_ceiling, units_floor, IsActive, IsTimeOf, storage_pair, capped_encloses, time_of, is_convertible, Side}
use Rattle.decimal_input.specs.Ratios.{den as ratio_den, times as product}
use Rattle.model_types.specs.declared.time_steps.TimeStep.{TimeStep}
use Rattle.conductance_bounds.proofs.ModelBounds.{storages_enclose}
use Rattle.water_storage.proofs.Clipped.{Within, fall_within, greater_within, lesser_within}
use Rattle.water_storage.proofs.Waters.{compressed_is, drained_is, enclosed_same, fall_over_step, falls_over_step}
unfoldable use Rattle.model_types.specs.{area, step_length, storage}
unfoldable use Rattle.water_table.specs.{storage_flow, stored_water}

-- the floor and the ceiling of the top
top_within : (m : FlowModel) (c : ℕ) → Within (top_bound m c) (number (top_at m c))
top_within m c =
    let low = units_floor (top_at m c) 9 in
    let high = units_ceiling (top_at m c) 9 in
    record { lower = low.at_most; upper = high.at_least }

module _ (m : FlowModel) (w : ConvertibleLayers) (s : ℕ) (at : TimeStep) (c : ℕ) (old new : Bound) (o v : Fraction) (valid : IsModel m)
    (yields : IsModel (with_yield m w)) (time : IsTimeOf m at) (here : IsActive m c) (pairs : ArePairs m w s at c) (before : Within old o)
    (after : Within new v) where
  abbrev top : Fraction
  top = number (top_at m c)

  abbrev p : Period
  p = period_at m at.period

  abbrev l : Ratio
  l = over one (step_length p at.step)

  -- per unit of head below the top, and above it
  abbrev q : Ratio
  q = product (size (dec_at w.sy c)) (area m c)

  abbrev r : Ratio
  r = storage_capacity m c

  abbrev flow : Side → ℤ
  flow side = cond (is_convertible m w c) (crossing_flow m w s at c side old new) (confined_flow m w s at c side old new)

  module _ (transient : p.steady ≡ false) where
    lasts : Lasts p
    lasts = record { transient = transient; perlen = time.valid.times.lasts transient; tsmult = time.valid.times.tsmult; nstp = time.valid.times.nstp.0 }

    -- the pairs enclose the conductances that stand for storage
    compressed : Encloses (storage_pair m s at c).lo (storage_pair m s at c).hi s (storage m p at.step c)
    compressed = capped_encloses (storage_term m p at.step c) s (storage m p at.step c)
        (storages_enclose m valid p at.step c s time.valid.times transient here.within here.active) (pairs transient).compressed

    drained : Encloses (yield_pair m w s at c).lo (yield_pair m w s at c).hi s (storage (with_yield m w) p at.step c)
    drained = capped_encloses (storage_term (with_yield m w) p at.step c) s (storage (with_yield m w) p at.step c)
        (storages_enclose (with_yield m w) yields p at.step c s time.valid.times transient here.within here.active) (pairs transient).drained

    confined : EnclosesSigned (confined_flow m w s at c Low old new) (confined_flow m w s at c High old new) (s + 9)
        (times (as_fraction l) (minus (times (as_fraction r) o) (times (as_fraction r) v)))
    confined = enclosed_same _ _ (s + 9) _ _
        (fall_over_step (storage m p at.step c) l r o v (compressed_is m w p at.step c lasts))
        (fall_within old new o v before after s (storage m p at.step c) (storage_pair m s at c) compressed)

    crossing : EnclosesSigned (crossing_flow m w s at c Low old new) (crossing_flow m w s at c High old new) (s + 9)
        (times (as_fraction l) (minus (stored q r top o) (stored q r top v)))
    crossing =
        let t = top_bound m c in
        let b = top_within m c in
        let S = storage m p at.step c in
        let Y = storage (with_yield m w) p at.step c in
        enclosed_same _ _ (s + 9) _ _
        (falls_over_step Y S l q r top o v (drained_is m w p at.step c lasts) (compressed_is m w p at.step c lasts))
        (plus_encloses _ _ _ _ (s + 9) _ _
        (fall_within (lesser_bound old t) (lesser_bound new t) (lesser o top) (lesser v top) (lesser_within old t o top before b) (lesser_within new t v top after b) s Y
        (yield_pair m w s at c) drained)
        (fall_within (greater_bound old t) (greater_bound new t) (greater o top) (greater v top) (greater_within old t o top before b)
        (greater_within new t v top after b) s S (storage_pair m s at c) compressed))

    by_layer : (b : Bool) → EnclosesSigned (cond b (crossing_flow m w s at c Low old new) (confined_flow m w s at c Low old new))
        (cond b (crossing_flow m w s at c High old new) (confined_flow m w s at c High old new)) (s + 9)
        (times (as_fraction l) (minus (cond b (stored q r top o) (times (as_fraction r) o)) (cond b (stored q r top v) (times (as_fraction r) v))))
    by_layer true = crossing
    by_layer false = confined

    moving : EnclosesSigned (flow Low) (flow High) (s + 9) (times (as_fraction l) (minus (stored_water m w c o) (stored_water m w c v)))
    unfolding stored_water
    moving = by_layer (is_convertible m w c)

  by_steady : (b : Bool) → p.steady ≡ b → EnclosesSigned (cond b (pos 0) (flow Low)) (cond b (pos 0) (flow High)) (s + 9)
      (cond b (whole (pos 0)) (times (as_fraction l) (minus (stored_water m w c o) (stored_water m w c v))))
  by_steady true e = none_encloses (s + 9)
  by_steady false e = moving e

  encloses : EnclosesSigned (stored_flow m w s at c Low old new) (stored_flow m w s at c High old new) (s + 9) (storage_flow m w at.period at.step c o v)
  unfolding storage_flow
  encloses = by_steady p.steady refl

-- both pairs are in order, since they enclose a number
pub small_pairs : (m : FlowModel) (w : ConvertibleLayers) (s : ℕ) (at : TimeStep) (c : ℕ) → IsModel m → IsModel (with_yield m w) → IsTimeOf m at → IsActive m c →
    ArePairs m w s at c → (period_at m at.period).steady ≡ false → IsSmallPair (yield_pair m w s at c) × IsSmallPair (storage_pair m s at c)
small_pairs m w s at c valid yields time here pairs transient =
    let p = period_at m at.period in
    let small = pairs transient in
    let y = capped_encloses (storage_term (with_yield m w) p at.step c) s (storage (with_yield m w) p at.step c)
    (storages_enclose (with_yield m w) yields p at.step c s time.valid.times transient here.within here.active) small.drained in
    let x = capped_encloses (storage_term m p at.step c) s (storage m p at.step c)
    (storages_enclose m valid p at.step c s time.valid.times transient here.within here.active) small.compressed in (
      record { order = le_of_mul-le-mul_right {k = ratio_den (storage (with_yield m w) p at.step c)} (omega (arith, y.lower, y.upper)) (omega arith); small = small.drained },
      record { order = le_of_mul-le-mul_right {k = ratio_den (storage m p at.step c)} (omega (arith, x.lower, x.upper)) (omega arith); small = small.compressed },
    )

pub stored_flows_enclose : StoredFlowsEnclose
stored_flows_enclose m w s at c old new o v valid yields time here pairs before after =
    encloses m w s at c old new o v valid yields (time_of m at valid time) here pairs before after
