-- More water is stored at a higher head, and a cell gives more from storage from a higher old head and to a lower new one.
use Rattle.water_table.proofs.Common.{refl, ℕ, Bool, true, false, cond, pos, Fraction, AtMost, as_fraction, number, whole, minus, FlowModel, ConvertibleLayers, over, one, period_at, step_length}
use Rattle.water_table.proofs.Common.{storage_capacity, top_at, compressed_water, drainable_water, is_convertible}
use Rattle.decimal_input.specs.Fractions.{plus, times}
use Rattle.water_table.proofs.Orders.{AtMost-of, plus_rises, minus_rises, times_rises, lesser_rises, greater_rises}
unfoldable use Rattle.water_table.specs.{storage_flow, stored_water}

module _ (m : FlowModel) (w : ConvertibleLayers) (c : ℕ) where
  water_by : (v v' : Fraction) → AtMost v v' → (b : Bool) →
      AtMost (cond b (plus (drainable_water m w c v) (compressed_water m w c v)) (times (as_fraction (storage_capacity m c)) v))
      (cond b (plus (drainable_water m w c v') (compressed_water m w c v')) (times (as_fraction (storage_capacity m c)) v'))
  water_by v v' h true =
      let top = number (top_at m c) in
      plus_rises _ _ _ _ (times_rises _ _ _ (lesser_rises v v' top h))
      (times_rises _ _ _ (greater_rises (minus v top) (minus v' top) (whole (pos 0)) (minus_rises v v' top top h (AtMost-of top top refl))))
  water_by v v' h false = times_rises (storage_capacity m c) v v' h

  pub stored_water_rises : (v v' : Fraction) → AtMost v v' → AtMost (stored_water m w c v) (stored_water m w c v')
  unfolding stored_water
  stored_water_rises v v' h = water_by v v' h (is_convertible m w c)

  pub storage_flow_rises : (p n : ℕ) (old old' v v' : Fraction) → AtMost old old' → AtMost v' v → AtMost (storage_flow m w p n c old v) (storage_flow m w p n c old' v')
  unfolding storage_flow
  storage_flow_rises p n old old' v v' h k = by_steady (period_at m p).steady
    where
      by_steady : (b : Bool) →
          AtMost (cond b (whole (pos 0)) (times (as_fraction (over one (step_length (period_at m p) n))) (minus (stored_water m w c old) (stored_water m w c v))))
          (cond b (whole (pos 0)) (times (as_fraction (over one (step_length (period_at m p) n))) (minus (stored_water m w c old') (stored_water m w c v'))))
      by_steady true = AtMost-of (whole (pos 0)) (whole (pos 0)) refl
      by_steady false = times_rises _ _ _ (minus_rises _ _ _ _ (stored_water_rises old old' h) (stored_water_rises v' v k))
