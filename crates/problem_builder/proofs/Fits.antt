-- Rivers, drains and evapotranspirations of a cell: bounds in order, heads in range.
use Rattle.problem_builder.proofs.Common.{Pair, Encloses, Option, Ratio, map, FlowPair, PairEncloses, capped_pair, cond_pair, head_bound, real_pair, unwrap_or, whole_drain, whole_evap, whole_river}
use Rattle.problem_builder.proofs.Common.{◌≡◌, ℕ, ◌≤◌, ◌^◌, Bool, Some, refl, sym, subst, arith, All, ℤ, pos, ◌≤ℤ◌, ◌<◌, true, ◌-ℤ◌, ints, by_lt_z, none-some, Fraction, with_sign, number, size}
use Rattle.problem_builder.proofs.Common.{IsSignedFloor, IsSignedCeiling, cancel_right, mul_mono_right, one_floor, one_ceiling, floor_ceiling_enclose, Dec, RiverFits, EvapFits, DrainFits, Entry}
use Rattle.problem_builder.proofs.Common.{FlowModel, IsPositive, IsNotNegative, IsHeadNumber, EvapSource, RiverSource, as_river, local_entries, river_sources, evap_sources, IsEntryValid, IsEvapValid}
use Rattle.problem_builder.proofs.Common.{DrainSource, as_drain, drain_sources, IsModel, IsPeriod, period_at, cell_count, is_variable, In-All, filter_map-In, Term, Number, evap_term, IsDepth, w64}
use Rattle.problem_builder.proofs.Common.{den, capped_ordered, evap_holds, Wide, most_cells}
use Rattle.conductance_bounds.proofs.Manual.{pair_encloses}
use Rattle.model_types.specs.declared.entry.Entry.TheVariants.{River as RiverEntry, Drain as DrainEntry}
use Rattle.problem_builder.proofs.{Members.variable_active, Members.some_same, HeadRange.AreHeads, HeadRange.floor_in_range, HeadRange.head_floor, HeadRange.head_ceiling, HeadRange.head_range_of}
use Rattle.problem_builder.proofs.{Zipped.all_mapped, ValidEntries.local_valid}
use Rattle.std.specs.Prelude.{FitsSigned}

-- what a table keeps of a pair, and of a flow, that may be too large
abbrev pub kept_pair : Option Pair → Pair
kept_pair o = unwrap_or o (record { lo = 1; hi = 2 ^ 60 })

abbrev pub kept_flow : Option FlowPair → FlowPair
kept_flow o = unwrap_or o (record { lo = pos (2 ^ 109); hi = pos (2 ^ 109) })

-- what encloses a number, where the table keeps it
pub capped_encloses : (t : Term) (s : ℕ) (r : Ratio) → PairEncloses t s r → (capped_pair t s).hi < 2 ^ 60 → Encloses (capped_pair t s).lo (capped_pair t s).hi s r
capped_encloses t s r h lt = subst (λ (p : Pair). Encloses p.lo p.hi s r) (sym (real_pair t s lt)) h

pub cond_ordered : (s : ℕ) (d : Dec) → (cond_pair s d).lo ≤ (cond_pair s d).hi
cond_ordered s d = capped_ordered (Number (size d)) s tt

pub cond_encloses : (s : ℕ) (d : Dec) → (cond_pair s d).hi < 2 ^ 60 → Encloses (cond_pair s d).lo (cond_pair s d).hi s (size d)
cond_encloses s d = capped_encloses (Number (size d)) s (size d) (pair_encloses (Number (size d)) s tt)

-- a river of the lists has heads in range
pub river_valid : (y : Entry) (r : RiverSource) → as_river y ≡ Some r → IsEntryValid (most_cells Wide) y → IsHeadNumber r.stage × IsNotNegative r.cond × IsHeadNumber r.bottom
river_valid (RiverEntry cell a k b) r e h = let P : RiverSource → Type 0 = λ z. IsHeadNumber z.stage × IsNotNegative z.cond × IsHeadNumber z.bottom in subst P (some_same e) (h.1, h.2, h.3)
river_valid y r e h = absurd (none-some r e)

river_fits : (s : ℕ) (r : RiverSource) → IsHeadNumber r.stage → IsHeadNumber r.bottom → RiverFits (whole_river s r)
river_fits s r p q =
    let a = head_range_of r.stage p in
    let b = head_range_of r.bottom q in
    record { ordered = cond_ordered s r.cond; stage_lo = a.0; stage_hi = a.1; bottom_lo = b.0; bottom_hi = b.1 }

pub drain_valid : (y : Entry) (r : DrainSource) → as_drain y ≡ Some r → IsEntryValid (most_cells Wide) y → IsHeadNumber r.elevation × IsNotNegative r.cond
drain_valid (DrainEntry cell a k) r e h = let P : DrainSource → Type 0 = λ z. IsHeadNumber z.elevation × IsNotNegative z.cond in subst P (some_same e) (h.1, h.2)
drain_valid y r e h = absurd (none-some r e)

drain_fits : (s : ℕ) (r : DrainSource) → IsHeadNumber r.elevation → DrainFits (whole_drain s r)
drain_fits s r p = let a = head_range_of r.elevation p in record { ordered = cond_ordered s r.cond; elev_lo = a.0; elev_hi = a.1 }

pub not_negative : (d : Dec) → IsPositive d → pos 0 ≤ℤ (number d).num
not_negative d h = subst (λ (b : Bool). pos 0 ≤ℤ with_sign b (size d).num) (sym h.sign) (omega (arith, ints))

pub floor_not_negative : (f : Fraction) (z : ℤ) → pos 0 ≤ℤ f.num → IsSignedFloor z f 9 → pos 0 ≤ℤ z
floor_not_negative f z h k = grind (arith, by_lt_z, mul_mono_right)

pub floor_below : (f : Fraction) (s : ℕ) (lo hi : ℤ) → IsSignedFloor lo f s → IsSignedCeiling hi f s → lo ≤ℤ hi
floor_below f s lo hi p q = let e = floor_ceiling_enclose f s lo hi p q in cancel_right (den f) lo hi (omega arith) (omega (arith, ints, e.lower, e.upper))

-- The bounds of a valid evapotranspiration's heads.
module _ (x : EvapSource) (v : IsEvapValid x) where
  -- the least depth of the surface and of the extinction elevation in whole units
  depths : (pos 0 ≤ℤ (head_bound x.depth).low) × ((head_bound x.depth).low ≤ℤ (head_bound x.depth).high)
  depths = (floor_not_negative (number x.depth) _ (not_negative x.depth v.depth) (head_floor x.depth), floor_below (number x.depth) 9 _ _ (head_floor x.depth) (head_ceiling x.depth))

  -- both bounds of an extinction elevation are heads
  pub extinction_bounds_are_heads : AreHeads (record { low = (head_bound x.surface).low -ℤ (head_bound x.depth).high; high = (head_bound x.surface).high -ℤ (head_bound x.depth).low })
  extinction_bounds_are_heads =
      let range = head_range_of x.surface v.surface in
      let order = floor_below (number x.surface) 9 _ _ (head_floor x.surface) (head_ceiling x.surface) in
      let floor = one_floor (number x.surface) (number x.surface) 9 v.floor (head_bound x.surface).low (record { same = refl }) v.is_floor (head_floor x.surface) in
      let ceiling = one_ceiling (number x.depth) (number x.depth) 9 v.ceiling (head_bound x.depth).high (record { same = refl }) v.is_ceiling (head_ceiling x.depth) in (
        record { above = omega (arith, ints, v.extinction, floor, ceiling); below = omega (arith, ints, depths.0, depths.1, range.0.below) },
        record { above = omega (arith, ints, v.extinction, floor, ceiling, order, depths.1); below = omega (arith, ints, depths.0, range.1.below) },
      )

  evap_fits : (m : FlowModel) (s c : ℕ) → EvapFits (whole_evap m s c x)
  evap_fits m s c =
      let surf = head_range_of x.surface v.surface in
      let order = floor_below (number x.surface) 9 _ _ (head_floor x.surface) (head_ceiling x.surface) in
      record {
        ordered = capped_ordered (evap_term m x.rate x.depth c) s (evap_holds m x c v.depth);
        ext_lo = extinction_bounds_are_heads.0;
        ext_hi = extinction_bounds_are_heads.1;
        surf_lo = surf.0;
        surf_hi = surf.1;
        deep = omega (arith, ints, depths.0, depths.1, order);
      }

-- of a cell in a valid model
module _ (m : FlowModel) (s p c : ℕ) (valid : IsModel m) (period : IsPeriod m (period_at m p)) where
  local : All (IsEntryValid (most_cells Wide)) (local_entries m p c)
  local = local_valid m p c valid period

  pub rivers_fit : All RiverFits (map (whole_river s) (river_sources m p c))
  rivers_fit = all_mapped RiverFits (whole_river s) (river_sources m p c)
      (λ r j. let (y, l, q) = filter_map-In as_river (local_entries m p c) r j in
      let w = river_valid y r q (In-All (IsEntryValid (most_cells Wide)) (local_entries m p c) y local l) in
      river_fits s r w.0 w.2)

  pub drains_fit : All DrainFits (map (whole_drain s) (drain_sources m p c))
  drains_fit = all_mapped DrainFits (whole_drain s) (drain_sources m p c)
      (λ r j. let (y, l, q) = filter_map-In as_drain (local_entries m p c) r j in
      drain_fits s r (drain_valid y r q (In-All (IsEntryValid (most_cells Wide)) (local_entries m p c) y local l)).0)

  pub evaps_fit : c < cell_count m.grid → is_variable m p c ≡ true → All EvapFits (map (whole_evap m s c) (evap_sources m p c))
  evaps_fit lt v = all_mapped EvapFits (whole_evap m s c) (evap_sources m p c)
      (λ r j. evap_fits r (In-All IsEvapValid (evap_sources m p c) r (valid.evaps p c lt (variable_active m p c v)) j) m s c)

-- Extinction depths and elevations are in range.
pub depth_is : (x : EvapSource) → IsEvapValid x → IsDepth x.depth
depth_is x v = record {
  positive = v.depth;
  ceiling = v.ceiling;
  is = v.is_ceiling;
  small = omega (arith, ints, v.extinction, (floor_in_range (number x.surface) v.floor v.surface.range v.is_floor).below);
}

-- from 0 to 8000000000 length units
pub record IsDepthUnits (z : ℤ) : Type 0 where
  pub above : pos 0 ≤ℤ z
  pub below : z ≤ℤ pos 8000000000000000000

pub floor_units : (d : Dec) (z : ℤ) → IsDepth d → IsSignedFloor z (number d) 9 → IsDepthUnits z
floor_units d z h k = record {
  above = floor_not_negative (number d) z (not_negative d h.positive) k;
  below = omega (arith, ints, floor_below (number d) 9 z h.ceiling k h.is, h.small);
}

pub ceiling_units : (d : Dec) (z : ℤ) → IsDepth d → IsSignedCeiling z (number d) 9 → IsDepthUnits z
ceiling_units d z h k = record {
  above = cancel_right (den (number d)) (pos 0) z (omega arith) (omega (arith, ints, mul_mono_right (10 ^ 9) (pos 0) (number d).num (not_negative d h.positive), k.at_least));
  below = omega (arith, ints, one_ceiling (number d) (number d) 9 h.ceiling z (record { same = refl }) h.is k, h.small);
}

pub units_64 : (z : ℤ) → IsDepthUnits z → FitsSigned w64 z
units_64 z h = omega (arith, ints, h.above, h.below)
