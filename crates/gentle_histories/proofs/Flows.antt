-- As a cell's head rises by at most 1 / d, a flow by its own head falls by at most its rate over d.
use Rattle.gentle_histories.proofs.Common.{ℕ, ◌+◌, ◌*◌, ◌<◌, pos, refl, arith, List, [], ◌∷◌, ◌++◌, map, inl, inr, Bool, true, false, cond, Fraction, Ratio, as_fraction, number, opposite, over}
use Rattle.gentle_histories.proofs.Common.{fraction_total, size, whole, plus, times, ExactDrain, ExactEvap, ExactFixed, ExactRiver, drain_flow, evap_flow, fixed_flow, greater, lesser, minus}
use Rattle.gentle_histories.proofs.Common.{river_flow, FlowModel, area, dec_at, one, period_at, step_length, storage_capacity, top_at, In, AtMost-of, ConvertibleLayers, compressed_water}
use Rattle.gentle_histories.proofs.Common.{drainable_water, is_convertible}
use Rattle.decimal_input.specs.Ratios.{times as product}
use Rattle.gentle_histories.proofs.Near.{IsNear, near_greater, near_lesser, near_opposite, near_order, near_plus, near_times, near_weaker}
unfoldable use Rattle.water_table.specs.{storage_flow, stored_water}

-- the rate of the flow of stored water in step n of period p
abbrev pub storage_rate : FlowModel → ConvertibleLayers → ℕ → ℕ → ℕ → ℕ
storage_rate m w c p n = (over one (step_length (period_at m p) n)).num * ((product (size (dec_at w.sy c)) (area m c)).num + (storage_capacity m c).num)

module _ (d : ℕ) (some : 0 < d) where
  pub near_itself : (f : Fraction) → IsNear d 0 f f
  near_itself f = near_order d some 0 f f (AtMost-of f f refl)

  near_scaled : (r : Ratio) (f g : Fraction) → IsNear d 1 f g → IsNear d r.num (times (as_fraction r) f) (times (as_fraction r) g)
  near_scaled r f g h = near_weaker d some (r.num * 1) r.num _ _ (omega arith) (near_times d some r 1 f g h)

  less_same : (f g x : Fraction) → IsNear d 1 f g → IsNear d 1 (minus f x) (minus g x)
  less_same f g x h = near_plus d some 1 0 f g (opposite x) (opposite x) h (near_itself (opposite x))

  from_same : (k : ℕ) (f g x : Fraction) → IsNear d k g f → IsNear d k (minus x f) (minus x g)
  from_same k f g x h = near_weaker d some (0 + k) k _ _ (omega arith) (near_plus d some 0 k x x (opposite f) (opposite g) (near_itself x) (near_opposite d some k g f h))

  -- the head rises from v to v'
  module _ (v v' : Fraction) (near : IsNear d 1 v' v) where
    pub fixed_near : (x : ExactFixed) → IsNear d x.conductance.num (fixed_flow v x) (fixed_flow v' x)
    fixed_near x = near_scaled x.conductance _ _ (from_same 1 v v' x.head near)

    pub river_near : (x : ExactRiver) → IsNear d x.conductance.num (river_flow v x) (river_flow v' x)
    river_near x = near_scaled x.conductance _ _ (from_same 1 (greater v x.bottom) (greater v' x.bottom) x.stage (near_greater d some 1 v' v x.bottom near))

    pub drain_near : (x : ExactDrain) → IsNear d x.conductance.num (drain_flow v x) (drain_flow v' x)
    drain_near x = near_opposite d some x.conductance.num _ _
        (near_scaled x.conductance _ _ (near_greater d some 1 (minus v' x.elevation) (minus v x.elevation) (whole (pos 0)) (less_same v' v x.elevation near)))

    pub evap_near : (x : ExactEvap) → IsNear d x.conductance.num (evap_flow v x) (evap_flow v' x)
    evap_near x = near_opposite d some x.conductance.num _ _ (near_scaled x.conductance _ _
        (near_greater d some 1 (minus (lesser v' x.surface) x.extinction) (minus (lesser v x.surface) x.extinction) (whole (pos 0))
        (less_same (lesser v' x.surface) (lesser v x.surface) x.extinction (near_lesser d some 1 v' v x.surface near))))

    module _ (m : FlowModel) (w : ConvertibleLayers) (c : ℕ) where
      stored_near : IsNear d ((product (size (dec_at w.sy c)) (area m c)).num + (storage_capacity m c).num) (stored_water m w c v') (stored_water m w c v)
      unfolding stored_water
      stored_near = by_layer (is_convertible m w c)
        where
          by_layer : (b : Bool) → IsNear d ((product (size (dec_at w.sy c)) (area m c)).num + (storage_capacity m c).num)
              (cond b (plus (drainable_water m w c v') (compressed_water m w c v')) (times (as_fraction (storage_capacity m c)) v'))
              (cond b (plus (drainable_water m w c v) (compressed_water m w c v)) (times (as_fraction (storage_capacity m c)) v))
          by_layer true = near_plus d some _ _ _ _ _ _ (near_scaled _ _ _ (near_lesser d some 1 v' v (number (top_at m c)) near))
              (near_scaled _ _ _ (near_greater d some 1 _ _ (whole (pos 0)) (less_same v' v (number (top_at m c)) near)))
          by_layer false = near_weaker d some (storage_capacity m c).num _ _ _ (omega arith) (near_scaled (storage_capacity m c) v' v near)

      pub storage_near : (p n : ℕ) (old : Fraction) → IsNear d (storage_rate m w c p n) (storage_flow m w p n c old v) (storage_flow m w p n c old v')
      unfolding storage_flow
      storage_near p n old = by_steady (period_at m p).steady
        where
          by_steady : (b : Bool) → IsNear d (storage_rate m w c p n)
              (cond b (whole (pos 0)) (times (as_fraction (over one (step_length (period_at m p) n))) (minus (stored_water m w c old) (stored_water m w c v))))
              (cond b (whole (pos 0)) (times (as_fraction (over one (step_length (period_at m p) n))) (minus (stored_water m w c old) (stored_water m w c v'))))
          by_steady true = near_order d some _ _ _ (AtMost-of (whole (pos 0)) (whole (pos 0)) refl)
          by_steady false = near_times d some (over one (step_length (period_at m p) n)) _ _ _
              (from_same _ (stored_water m w c v) (stored_water m w c v') (stored_water m w c old) stored_near)

-- the sum of the rates of a list of flows
abbrev pub total_rate : {S : Type 0} → (S → ℕ) → List S → ℕ
total_rate rate [] = 0
total_rate rate (x ∷ xs) = rate x + total_rate rate xs

module _ (d : ℕ) (some : 0 < d) where
  pub near_total : {S : Type 0} (f f' : S → Fraction) (rate : S → ℕ) (xs : List S) → ((s : S) → IsNear d (rate s) (f s) (f' s)) →
      IsNear d (total_rate rate xs) (fraction_total f xs) (fraction_total f' xs)
  near_total f f' rate [] each = near_itself d some (whole (pos 0))
  near_total f f' rate (x ∷ xs) each = near_plus d some (rate x) (total_rate rate xs) _ _ _ _ (each x) (near_total f f' rate xs each)

  -- of entries that come from the same sources
  pub near_mapped : {S X : Type 0} (f f' : X → Fraction) (a b : S → X) (rate : S → ℕ) (xs : List S) → ((s : S) → In xs s → IsNear d (rate s) (f (a s)) (f' (b s))) →
      IsNear d (total_rate rate xs) (fraction_total f (map a xs)) (fraction_total f' (map b xs))
  near_mapped f f' a b rate [] each = near_itself d some (whole (pos 0))
  near_mapped f f' a b rate (x ∷ xs) each = near_plus d some (rate x) (total_rate rate xs) _ _ _ _ (each x (inl refl)) (near_mapped f f' a b rate xs (λ s i. each s (inr i)))

  -- before others
  pub near_front : {S X : Type 0} (f f' : X → Fraction) (a b : S → X) (rate : S → ℕ) (xs : List S) (rest : List X) (k : ℕ) →
      ((s : S) → In xs s → IsNear d (rate s) (f (a s)) (f' (b s))) → IsNear d k (fraction_total f rest) (fraction_total f' rest) →
      IsNear d (total_rate rate xs + k) (fraction_total f (map a xs ++ rest)) (fraction_total f' (map b xs ++ rest))
  near_front f f' a b rate [] rest k each more = near_weaker d some k (0 + k) _ _ (omega arith) more
  near_front f f' a b rate (x ∷ xs) rest k each more =
      near_weaker d some (rate x + (total_rate rate xs + k)) (rate x + total_rate rate xs + k) _ _ (omega arith)
      (near_plus d some (rate x) (total_rate rate xs + k) _ _ _ _ (each x (inl refl)) (near_front f f' a b rate xs rest k (λ s i. each s (inr i)) more))
