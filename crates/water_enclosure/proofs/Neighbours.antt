-- Over the faces of a variable cell: at two vectors of gentle heads of one step each flow is in order.
use Rattle.water_enclosure.proofs.Common.{◌≡◌, ℕ, ◌+◌, ◌-◌, ◌<◌, ◌⊎◌, inl, inr, true, ap, sym, ◌∙◌, subst, arith, mod-le, minus, Fraction, as_fraction, AtMost, times, IsFaceOf, before_le, end_within}
use Rattle.water_enclosure.proofs.Common.{face_back, passing_have, turned, In-All, Axis, Vertical, Face, FlowModel, IsModel, cell_count, is_active, is_variable, layer_size, span, stride}
use Rattle.water_enclosure.proofs.Common.{variable_faces, ConvertibleLayers, FallsGently, IsGentle, conductance_at}
use Rattle.water_enclosure.proofs.{Faces.AreOverBottom, Faces.over_after, Faces.over_before, Pairs.IsWetCell, Pairs.are_pair}

module _ (m : FlowModel) (w : ConvertibleLayers) (valid : IsModel m) (p : ℕ) (h g : ℕ → Fraction) (gentle_h : IsGentle m w p h) (gentle_g : IsGentle m w p g) where
  -- an active cell is wet at both
  wet : (c : ℕ) → c < cell_count m.grid → is_active m c ≡ true → IsWetCell m w h g c
  wet c lt active = record { within = lt; active = active; at_h = λ converts. gentle_h.wet c lt active converts; at_g = λ converts. gentle_g.wet c lt active converts }

  below : (u : ℕ) → u + layer_size m.grid < cell_count m.grid → is_active m u ≡ true → is_active m (u + layer_size m.grid) ≡ true → AreOverBottom m w h g u (u + layer_size m.grid)
  below u lt upper lower converts = (gentle_h.over_bottom u lt upper lower converts, gentle_g.over_bottom u lt upper lower converts)

  over_of : (u l : ℕ) (axis : Axis) → l ≡ u + stride m.grid axis → l < cell_count m.grid → is_active m u ≡ true → is_active m l ≡ true → axis ≡ Vertical → AreOverBottom m w h g u l
  over_of u l axis e lt upper lower is =
      let same : l ≡ u + layer_size m.grid = e ∙ ap (λ (x : Axis). u + stride m.grid x) is in
      subst (λ (x : ℕ). AreOverBottom m w h g u x) (sym same) (below u (omega (arith, same, lt)) upper (subst (λ (x : ℕ). is_active m x ≡ true) same lower))

  -- into cell i over the face x
  pub face_in_order : (i : ℕ) (x : Face) → i < cell_count m.grid → is_active m i ≡ true → IsFaceOf m.grid i x → is_active m x.end ≡ true → AtMost (g i) (h i) → AtMost (h x.end) (g x.end) →
      FallsGently m w g i x.axis x.end → FallsGently m w h x.end x.axis i ⊎ AtMost (g x.end) (h x.end) →
      AtMost (times (as_fraction (conductance_at m w h x.axis x.first)) (minus (h x.end) (h i))) (times (as_fraction (conductance_at m w g x.axis x.first)) (minus (g x.end) (g i)))
  face_in_order i x lt active face active_end falls rises into out =
      let lt' = end_within m.grid i x valid.grid.size lt face in
      let wet_i = wet i lt active in
      let wet_j = wet x.end lt' active_end in
      let pair = are_pair m w h g i x.end valid wet_i wet_j falls rises in
      elim face [
        | inl (has, first, end) ↦
            let e : i ≡ x.end + stride m.grid x.axis = omega (arith, end, before_le m.grid x.axis i has, mod-le i (span m.grid x.axis)) in
            let same : x.end ≡ x.first = end ∙ sym first in
            subst (λ (f : ℕ). AtMost (times (as_fraction (conductance_at m w h x.axis f)) (minus (h x.end) (h i))) (times (as_fraction (conductance_at m w g x.axis f)) (minus (g x.end) (g i)))) same
            (over_before m w valid h g i x.end wet_i wet_j pair x.axis e into out (over_of x.end i x.axis e lt active_end active))
        | inr (has, first, end) ↦
            subst (λ (f : ℕ). AtMost (times (as_fraction (conductance_at m w h x.axis f)) (minus (h x.end) (h i)))
            (times (as_fraction (conductance_at m w g x.axis f)) (minus (g x.end) (g i)))) (sym first)
            (over_after m w valid h g i x.end wet_i wet_j pair x.axis end into out (over_of i x.end x.axis end lt' active active_end))
      ]

  -- a variable neighbour falls gently to i, as i does to it
  pub variable_in_order : (i : ℕ) (x : Face) → i < cell_count m.grid → is_active m i ≡ true → is_active m x.end ≡ true → is_variable m p i ≡ true →
      IsFaceOf m.grid i x → is_variable m p x.end ≡ true → AtMost (g i) (h i) → AtMost (h x.end) (g x.end) →
      AtMost (times (as_fraction (conductance_at m w h x.axis x.first)) (minus (h x.end) (h i))) (times (as_fraction (conductance_at m w g x.axis x.first)) (minus (g x.end) (g i)))
  variable_in_order i x lt active active_end variable face ends falls rises =
      let lt' = end_within m.grid i x valid.grid.size lt face in
      let there = passing_have m.grid (is_variable m p) i x face ends in
      let back = passing_have m.grid (is_variable m p) x.end (turned i x) (face_back m.grid i x valid.grid.size face) variable in
      face_in_order i x lt active face active_end falls rises
      (In-All (λ (f : Face). FallsGently m w g i f.axis f.end) (variable_faces m p i) x (gentle_g.falls i lt variable).0 there)
      (inl (In-All (λ (f : Face). FallsGently m w h x.end f.axis f.end) (variable_faces m p x.end) (turned i x) (gentle_h.falls x.end lt' ends).0 back))
