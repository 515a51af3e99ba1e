-- Saturated thicknesses of a cell at heads between two: from a lower one above 0 to an upper one, and alike where the heads are near.
use Rattle.gentle_histories.proofs.Common.{thick_rises, is_convertible, ℕ, ◌+◌, ◌*◌, ◌<◌, ◌≤◌, ℤ, pos, ◌+ℤ◌, ◌-ℤ◌, ◌*ℤ◌, ◌≤ℤ◌, [], ◌∷◌, ap, arith, mul-le-mul_left, ints, Fraction, IsShare, Ratio}
use Rattle.gentle_histories.proofs.Common.{number, AtMost, den, add_times, mul_mono_right, below_over, over_le, FlowModel, IsModel, bottom_at, top_at, among, common_denominator_exists}
use Rattle.gentle_histories.proofs.Common.{ConvertibleLayers, bottom_is_below_top, CellAt, IsWetCell, share_g, share_h, some_g, some_h, thick_g, thick_h, thinner_within}
use Rattle.water_enclosure.proofs.Rows.{share_some}
use Rattle.gentle_histories.proofs.{Grows.Grows, Grows.cancel_le, Grows.grows_shares, Near.IsNear, Near.near_to, Branches.AreThicknesses}
unfoldable use Rattle.water_table.specs.{saturated_thickness}

module _ (m : FlowModel) (w : ConvertibleLayers) (valid : IsModel m) (h g : ℕ → Fraction) (c : ℕ) (wet : IsWetCell m w h g c) (falls : AtMost (g c) (h c)) where
  -- both heads in whole numbers
  record InWholes : Type 0 where
    M : ℕ
    some : 0 < M
    cell : CellAt m w h g M c
    order : cell.y ≤ℤ cell.z

  in_wholes : InWholes
  in_wholes =
      let (M, some, at) = common_denominator_exists 4 (among (h c ∷ g c ∷ number (top_at m c) ∷ number (bottom_at m c) ∷ [])) in
      let (z, oz) = at 0 (omega arith) in
      let (y, oy) = at 1 (omega arith) in
      let (T, ot) = at 2 (omega arith) in
      let (B, ob) = at 3 (omega arith) in
      record {
        M = M;
        some = some;
        cell = record {
          cell = record { T = T; B = B; top = ot; bottom = ob; room = below_over M _ _ _ _ some ob ot (bottom_is_below_top m valid c wet.within wet.active) };
          z = z;
          y = y;
          is_z = oz;
          is_y = oy;
          wet_z = λ e. below_over M _ _ _ _ some ob oz (wet.at_h e);
          wet_y = λ e. below_over M _ _ _ _ some ob oy (wet.at_g e);
        };
        order = over_le M _ _ _ _ oy oz falls;
      }

  abbrev upper : Ratio
  upper = saturated_thickness m w h c

  abbrev lower : Ratio
  lower = saturated_thickness m w g c

  abbrev o : InWholes
  o = in_wholes

  rises : thick_g m w h g o.M c o.some o.cell ≤ thick_h m w h g o.M c o.some o.cell
  rises = thick_rises (is_convertible m w c) o.cell.cell.T o.cell.cell.B o.cell.y o.cell.z o.cell.cell.room o.cell.wet_y o.order

  pub upper_some : 0 < upper.num
  upper_some = share_some o.M (thick_h m w h g o.M c o.some o.cell) upper (share_h m w h g o.M c o.some o.cell) (some_h m w h g o.M c o.some o.cell)

  pub lower_some : 0 < lower.num
  lower_some = share_some o.M (thick_g m w h g o.M c o.some o.cell) lower (share_g m w h g o.M c o.some o.cell) (some_g m w h g o.M c o.some o.cell)

  -- the thickness rises with the head
  pub depth_rises : Grows 1 1 lower upper
  depth_rises = grows_shares 1 1 o.M (thick_g m w h g o.M c o.some o.cell) (thick_h m w h g o.M c o.some o.cell) lower upper o.some (share_g m w h g o.M c o.some o.cell)
      (share_h m w h g o.M c o.some o.cell) (omega (arith, rises))

  -- and by little where the heads are near: the lower thickness is at least 1 / n
  pub near_depths : (d n : ℕ) → 0 < d → IsNear d 1 (h c) (g c) → den lower ≤ n * lower.num → AreThicknesses (d + n) d upper lower
  near_depths d n some near least =
      let S = thick_h m w h g o.M c o.some o.cell in
      let T = thick_g m w h g o.M c o.some o.cell in
      let s = share_h m w h g o.M c o.some o.cell in
      let t = share_g m w h g o.M c o.some o.cell in
      let unit : o.M ≤ n * T = least_share n o.M T lower t least in
      let within = thinner_within m w h g o.M c o.some o.cell o.order in
      record {
        some = upper_some;
        more = lower_some;
        alike = record {
          there = grows_shares (d + n) d o.M S T upper lower o.some s t
              (thicker d n o.M S T o.cell.z o.cell.y within (near_to d some 1 o.M (h c) (g c) o.cell.z o.cell.y o.cell.is_z o.cell.is_y near) unit);
          back = grows_shares (d + n) d o.M T S lower upper o.some t s (thinner_too d n S T rises);
        };
      }
    where
      least_share : (n M T : ℕ) (r : Ratio) → IsShare M r T → den r ≤ n * r.num → M ≤ n * T
      least_share n M T r p le = cancel_le (den r) M (n * T) (omega arith) (omega (arith, mul-le-mul_left M le, ap (λ (z : ℕ). n * z) p.is))

      thicker : (d n M S T : ℕ) (z y : ℤ) → (pos S -ℤ pos T) ≤ℤ (z -ℤ y) → (z *ℤ pos d) ≤ℤ (y *ℤ pos d +ℤ pos 1 *ℤ pos M) → M ≤ n * T → S * d ≤ (d + n) * T
      thicker d n M S T z y rise near unit =
          omega (arith, ints, near, unit, mul_mono_right d (pos S +ℤ y) (z +ℤ pos T) (omega (arith, ints, rise)), add_times (pos S) y (pos d), add_times z (pos T) (pos d))

      thinner_too : (d n S T : ℕ) → T ≤ S → T * d ≤ (d + n) * S
      thinner_too d n S T le = omega (arith, mul-le-mul_left d le)
