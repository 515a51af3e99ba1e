-- Two neighbours at two vectors of heads, in whole numbers over one denominator.
use Rattle.water_enclosure.proofs.Common.{◌≡◌, ℕ, ◌<◌, ◌≤◌, ◌⊎◌, inl, inr, true, ℤ, pos, ◌-ℤ◌, ◌≤ℤ◌, ◌<ℤ◌, [], ◌∷◌, arith, ints, below_over, over_le, IsOver-minus, IsOver-signed, IsBelow, Fraction}
use Rattle.water_enclosure.proofs.Common.{IsOver, IsShare, number, AtMost, FlowModel, IsModel, bottom_at, cell_count, is_active, top_at, ConvertibleLayers, FallsWithin, IsFull, is_convertible, among}
use Rattle.water_enclosure.proofs.Common.{common_denominator_exists}
use Rattle.water_enclosure.proofs.{Cells.bottom_is_below_top, Thick.CellOver, Thick.thick, Thick.thick_rises, Thick.thick_share, Thick.thick_some, Thick.thick_stays, Thick.thick_within}
unfoldable use Rattle.water_table.specs.{saturated_thickness}

module _ (m : FlowModel) (w : ConvertibleLayers) where
  abbrev pub IsWetAt : (ℕ → Fraction) → ℕ → Type 0
  IsWetAt f c = is_convertible m w c ≡ true → IsBelow (number (bottom_at m c)) (f c)

  -- an active cell that is wet at both heads
  pub record IsWetCell (h g : ℕ → Fraction) (c : ℕ) : Type 0 where
    pub within : c < cell_count m.grid
    pub active : is_active m c ≡ true
    pub at_h : IsWetAt h c
    pub at_g : IsWetAt g c

  -- the same in whole numbers
  pub record CellAt (h g : ℕ → Fraction) (M c : ℕ) : Type 0 where
    pub cell : CellOver m w c M
    pub z : ℤ
    pub y : ℤ
    pub is_z : IsOver M (h c) z
    pub is_y : IsOver M (g c) y
    pub wet_z : is_convertible m w c ≡ true → cell.B <ℤ z
    pub wet_y : is_convertible m w c ≡ true → cell.B <ℤ y

  module _ (h g : ℕ → Fraction) (M c : ℕ) (some : 0 < M) (s : CellAt h g M c) where
    -- its thicknesses at the heads h and g
    abbrev pub thick_h : ℕ
    thick_h = thick (is_convertible m w c) s.cell.T s.cell.B s.z

    abbrev pub thick_g : ℕ
    thick_g = thick (is_convertible m w c) s.cell.T s.cell.B s.y

    pub share_h : IsShare M (saturated_thickness m w h c) thick_h
    share_h = thick_share m w c M some s.cell h s.z s.is_z s.wet_z

    pub share_g : IsShare M (saturated_thickness m w g c) thick_g
    share_g = thick_share m w c M some s.cell g s.y s.is_y s.wet_y

    pub some_h : 0 < thick_h
    some_h = thick_some (is_convertible m w c) s.cell.T s.cell.B s.z s.cell.room s.wet_z

    pub some_g : 0 < thick_g
    some_g = thick_some (is_convertible m w c) s.cell.T s.cell.B s.y s.cell.room s.wet_y

    pub thinner : s.y ≤ℤ s.z → thick_g ≤ thick_h
    thinner le = thick_rises (is_convertible m w c) s.cell.T s.cell.B s.y s.z s.cell.room s.wet_y le

    pub thinner_within : s.y ≤ℤ s.z → (pos thick_h -ℤ pos thick_g) ≤ℤ (s.z -ℤ s.y)
    thinner_within le = thick_within (is_convertible m w c) s.cell.T s.cell.B s.y s.z s.cell.room s.wet_y le

    pub thicker : s.z ≤ℤ s.y → thick_h ≤ thick_g
    thicker le = thick_rises (is_convertible m w c) s.cell.T s.cell.B s.z s.y s.cell.room s.wet_z le

    pub thicker_within : s.z ≤ℤ s.y → (pos thick_g -ℤ pos thick_h) ≤ℤ (s.y -ℤ s.z)
    thicker_within le = thick_within (is_convertible m w c) s.cell.T s.cell.B s.z s.y s.cell.room s.wet_z le

    -- a cell that is full at the lower of its two heads keeps its thickness
    pub full_g : s.y ≤ℤ s.z → IsFull m w g c → thick_h ≡ thick_g
    full_g le (inl e) = thick_stays (is_convertible m w c) s.cell.T s.cell.B s.z s.y (inl e) (inl e)
    full_g le (inr f) = let k = over_le M _ _ _ _ s.cell.top s.is_y f in thick_stays (is_convertible m w c) s.cell.T s.cell.B s.z s.y (inr (omega (arith, ints, k, le))) (inr k)

    pub full_h : s.z ≤ℤ s.y → IsFull m w h c → thick_g ≡ thick_h
    full_h le (inl e) = thick_stays (is_convertible m w c) s.cell.T s.cell.B s.y s.z (inl e) (inl e)
    full_h le (inr f) = let k = over_le M _ _ _ _ s.cell.top s.is_z f in thick_stays (is_convertible m w c) s.cell.T s.cell.B s.y s.z (inr (omega (arith, ints, k, le))) (inr k)

  cell_at : (h g : ℕ → Fraction) (M c : ℕ) → 0 < M → (valid : IsModel m) → IsWetCell h g c → (z y T B : ℤ) → IsOver M (h c) z → IsOver M (g c) y →
      IsOver M (number (top_at m c)) T → IsOver M (number (bottom_at m c)) B → CellAt h g M c
  cell_at h g M c some valid wet z y T B oz oy ot ob = record {
    cell = record { T = T; B = B; top = ot; bottom = ob; room = below_over M _ _ _ _ some ob ot (bottom_is_below_top m valid c wet.within wet.active) };
    z = z;
    y = y;
    is_z = oz;
    is_y = oy;
    wet_z = λ e. below_over M _ _ _ _ some ob oz (wet.at_h e);
    wet_y = λ e. below_over M _ _ _ _ some ob oy (wet.at_g e);
  }

  -- a cell i whose head doesn't rise from h to g, and a neighbour j whose head doesn't fall
  pub record ArePair (h g : ℕ → Fraction) (i j : ℕ) : Type 0 where
    pub M : ℕ
    pub some : 0 < M
    pub here : CellAt h g M i
    pub there : CellAt h g M j
    pub falls : here.y ≤ℤ here.z
    pub rises : there.z ≤ℤ there.y

  pub are_pair : (h g : ℕ → Fraction) (i j : ℕ) → IsModel m → IsWetCell h g i → IsWetCell h g j → AtMost (g i) (h i) → AtMost (h j) (g j) → ArePair h g i j
  unfolding cell_at
  are_pair h g i j valid wet_i wet_j falls rises =
      let (M, some, at) = common_denominator_exists 8 (among (h i ∷ g i ∷ number (top_at m i) ∷ number (bottom_at m i) ∷ h j ∷ g j ∷ number (top_at m j) ∷ number (bottom_at m j) ∷ [])) in
      let (zi, ozi) = at 0 (omega arith) in
      let (yi, oyi) = at 1 (omega arith) in
      let (Ti, oti) = at 2 (omega arith) in
      let (Bi, obi) = at 3 (omega arith) in
      let (zj, ozj) = at 4 (omega arith) in
      let (yj, oyj) = at 5 (omega arith) in
      let (Tj, otj) = at 6 (omega arith) in
      let (Bj, obj) = at 7 (omega arith) in
      record {
        M = M;
        some = some;
        here = cell_at h g M i some valid wet_i zi yi Ti Bi ozi oyi oti obi;
        there = cell_at h g M j some valid wet_j zj yj Tj Bj ozj oyj otj obj;
        falls = over_le M _ _ _ _ oyi ozi falls;
        rises = over_le M _ _ _ _ ozj oyj rises;
      }

  -- what gentle falls say of the two
  module _ (h g : ℕ → Fraction) (i j : ℕ) (o : ArePair h g i j) where
    pub into : IsFull m w g i ⊎ FallsWithin m w g i j → ((o.there.y -ℤ o.here.y) ≤ℤ pos (thick_g h g o.M i o.some o.here)) ⊎ (thick_h h g o.M i o.some o.here ≡ thick_g h g o.M i o.some o.here)
    into (inl full) = inr (full_g h g o.M i o.some o.here o.falls full)
    into (inr within) = inl (over_le o.M _ _ _ _ (IsOver-minus o.M (g j) (g i) o.there.y o.here.y o.there.is_y o.here.is_y) (IsOver-signed o.M _ _ (share_g h g o.M i o.some o.here)) within)

    pub out : IsFull m w h j ⊎ FallsWithin m w h j i → ((o.here.z -ℤ o.there.z) ≤ℤ pos (thick_h h g o.M j o.some o.there)) ⊎ (thick_g h g o.M j o.some o.there ≡ thick_h h g o.M j o.some o.there)
    out (inl full) = inr (full_h h g o.M j o.some o.there o.rises full)
    out (inr within) = inl (over_le o.M _ _ _ _ (IsOver-minus o.M (h i) (h j) o.here.z o.there.z o.here.is_z o.there.is_z) (IsOver-signed o.M _ _ (share_h h g o.M j o.some o.there)) within)
