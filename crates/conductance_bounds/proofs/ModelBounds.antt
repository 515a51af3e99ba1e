-- The pairs of a valid model's storages, recharges, evapotranspirations and given heads enclose its exact numbers.
use Rattle.conductance_bounds.proofs.Common.{◌≡◌, ℕ, ◌-◌, Bool, true, false, cond, Some, None, refl, subst, size, Ratio, times, over, FlowModel, area, dec_at, delr_at, delc_at, thickness, geometric}
use Rattle.conductance_bounds.proofs.Common.{power, IsModel, exact, Holds, storativity_term, thick_term, storage_term, storativity, storage, EvapsEnclose, HeadsEnclose, RechargesEnclose}
use Rattle.conductance_bounds.proofs.Common.{StoragesEnclose, ◌<◌, Period, EvapSource, IsPositive, IsTimed, cell_count, is_active, FormulasHold, evap_term}
use Rattle.conductance_bounds.proofs.{Sides.number_is_factor, Sides.size_positive, GivenHeads.given_encloses, Manual.Gives, Manual.term_pair_encloses, Manual.pair_encloses, PartBounds.part_encloses}
use Rattle.conductance_bounds.proofs.{PartBounds.multiplier_positive, Ready.is_ready, FaceBounds.face_gives, Recharged.flow_encloses, StorageBounds.storage_gives}

module _ (m : FlowModel) where
  storativity_is : (c : ℕ) → exact (storativity_term (size (dec_at m.ss c)) (cond m.coefficient None (Some (thick_term m c)))) ≡ storativity m c
  storativity_is c = by_option m.coefficient
    where
      by_option : (b : Bool) → exact (storativity_term (size (dec_at m.ss c)) (cond b None (Some (thick_term m c)))) ≡ cond b (size (dec_at m.ss c)) (times (size (dec_at m.ss c)) (thickness m c))
      by_option true = refl
      by_option false = refl

  storativity_holds : (c : ℕ) → Holds (thick_term m c) → Holds (storativity_term (size (dec_at m.ss c)) (cond m.coefficient None (Some (thick_term m c))))
  storativity_holds c h = by_option m.coefficient
    where
      by_option : (b : Bool) → Holds (storativity_term (size (dec_at m.ss c)) (cond b None (Some (thick_term m c))))
      by_option true = tt
      by_option false = (tt, h)

  -- of an active cell at a step of a transient period
  storage_at : IsModel m → (p : Period) (n c : ℕ) → IsTimed p → p.steady ≡ false → c < cell_count m.grid → is_active m c ≡ true → Gives (storage_term m p n c) (storage m p n c)
  unfolding storage
  storage_at valid p n c timed transient lt active =
      let ready = is_ready m c valid lt active in
      subst (λ (k : Ratio). Gives (storage_term m p n c)
      (over (times (times (times k (size (delr_at m c))) (size (delc_at m c))) (geometric (size p.tsmult) p.nstp))
      (times (size p.perlen) (power (size p.tsmult) (n - 1))))) (storativity_is c)
      (storage_gives (storativity_term (size (dec_at m.ss c)) (cond m.coefficient None (Some (thick_term m c)))) (size (delr_at m c)) (size (delc_at m c)) (size p.tsmult) (size p.perlen) p.nstp n
      timed.nstp.0 (size_positive p.perlen (timed.lasts transient)) (size_positive p.tsmult timed.tsmult) (storativity_holds c ready.thick.holds))

  pub storages_enclose : IsModel m → StoragesEnclose m
  storages_enclose valid p n c s timed transient lt active = term_pair_encloses s (storage_at valid p n c timed transient lt active)

  pub recharges_enclose : RechargesEnclose m
  unfolding area
  recharges_enclose rate c s = flow_encloses rate (size (delr_at m c)) (size (delc_at m c)) s

  pub evap_holds : (x : EvapSource) (c : ℕ) → IsPositive x.depth → Holds (evap_term m x.rate x.depth c)
  evap_holds x c depth = ((tt, (tt, tt)), tt, (number_is_factor (size x.depth) (size_positive x.depth depth)).some)

  pub evaps_enclose : EvapsEnclose m
  unfolding area
  evaps_enclose x c s depth = pair_encloses _ s (evap_holds x c depth)

  -- no divisor of a formula of a valid model has a bound of 0
  pub formulas_hold : IsModel m → FormulasHold m
  formulas_hold valid = record {
    faces = λ axis a lt x y. (face_gives m valid axis a lt x y).holds;
    storages = λ p n c timed transient lt active. (storage_at valid p n c timed transient lt active).holds;
    recharges = λ rate c. ((tt, tt), tt);
    evaps = evap_holds;
  }

-- of an entry of a CHD list at step n of its period
pub heads_enclose : HeadsEnclose
heads_enclose p n x timed some few = given_encloses x _ _ (part_encloses p n some few (multiplier_positive p timed))
