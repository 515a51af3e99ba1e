-- Storage by the option STORAGECOEFFICIENT.
use Rattle.flow_equations.proofs.Common.{◌≡◌, ℕ, Bool, true, false, cond, ap, arith, size, Ratio, times, Same, Same-trans, Same-of, FlowModel, Period, dec_at, delr_at, delc_at, area, thickness}
use Rattle.flow_equations.proofs.Common.{storage, step_length, Lasts, StoresByOption}
use Rattle.flow_equations.proofs.{StepSums.storage_times_length, Downwards.own_value, Downwards.value_times, Downwards.same_by}

-- a storativity times a length and a width
by_area : (s a b : Ratio) → Same (times (times s a) b) (times s (times a b))
by_area s a b = same_by (value_times (value_times (own_value s) (own_value a)) (own_value b)) (value_times (own_value s) (value_times (own_value a) (own_value b))) (omega arith)

module _ (m : FlowModel) (c : ℕ) where
  abbrev storativity_by : Bool → Ratio
  storativity_by b = cond b (size (dec_at m.ss c)) (times (size (dec_at m.ss c)) (thickness m c))

  by_option : (p : Period) (n : ℕ) → Lasts p → (b : Bool) → m.coefficient ≡ b → Same (times (storage m p n c) (step_length p n)) (times (storativity_by b) (area m c))
  unfolding area
  by_option p n h b e = Same-trans (storage_times_length p h m n c)
      (Same-trans (Same-of (ap (λ (o : Bool). times (times (storativity_by o) (size (delr_at m c))) (size (delc_at m c))) e)) (by_area (storativity_by b) (size (delr_at m c)) (size (delc_at m c))))

pub stores_by_option : (m : FlowModel) (p : Period) (n c : ℕ) → Lasts p → StoresByOption m p n c
stores_by_option m p n c h = record { coefficient = λ e. by_option m c p n h true e; specific = λ e. by_option m c p n h false e }
