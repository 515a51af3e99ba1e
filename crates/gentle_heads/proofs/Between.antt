-- All heads between listed heads that pass the test are gentle.
use Rattle.gentle_heads.proofs.Common.{◌≡◌, ℕ, ◌+◌, ◌<◌, ◌⊎◌, inl, inr, Bool, true, false, cond, refl, sym, subst, arith, pos, ◌*ℤ◌, ◌-ℤ◌, All, List, Option, Some, None, [], ◌∷◌, cases_Bool, by_lt_z}
use Rattle.gentle_heads.proofs.Common.{clamps, ints, unsigned_abs, le_over, over_le, IsOver-lesser, lesser, minus, AtMost-trans, mul_mono_right, neg_times, Fraction, as_fraction, number, AtMost, den}
use Rattle.gentle_heads.proofs.Common.{Face, FlowModel, IsModel, bottom_at, cell_count, faces, gap, is_active, is_constant, is_variable, layer_size, thickness, through, top_at, Bound, AtMost-of}
use Rattle.gentle_heads.proofs.Common.{among, below_then_at_most, common_denominator_exists, minus_rises, ConvertibleLayers, FallsGently, FallsWithin, IsFull, IsGentle, is_convertible}
use Rattle.gentle_heads.proofs.Common.{AllBetweenAreGentle, AreGentleBetween, FallsAlong, FallsFrom, FallsThrough, lower_head, upper_head}
use Rattle.std.specs.List.{filter_map}
use Rattle.model_types.proofs.{Members.All-In, Members.In, Members.In-All, Members.filter_map-In, Leads.end_within, Leads.passing_are}
use Rattle.model_types.specs.{declared.face.Axis.Axis, declared.face.Axis.TheVariants.Column, declared.face.Axis.TheVariants.Row, declared.face.Axis.TheVariants.Vertical}
use Rattle.problem_builder.proofs.Members.{constant_active, variable_active}
use Rattle.problem_builder.specs.{HeadsEnclose}
unfoldable use Rattle.water_table.specs.{saturated_thickness}

-- a difference is at most the gap, which is its magnitude
gap_reaches : (f g : Fraction) → AtMost (minus f g) (as_fraction (gap f g))
gap_reaches f g = record {
  at_most = mul_mono_right (den (minus f g)) (minus f g).num (pos (unsigned_abs (f.num *ℤ pos (den g) -ℤ g.num *ℤ pos (den f))))
      (omega (arith, ints, neg_times g.num (pos (den f))));
}

lesser_keeps : (f g : Fraction) → AtMost f g → AtMost f (lesser f g)
lesser_keeps f g p =
    let (M, some, at) = common_denominator_exists 2 (among (f ∷ g ∷ [])) in
    let (a, oa) = at 0 (omega arith) in
    let (b, ob) = at 1 (omega arith) in
    le_over M _ _ _ _ some oa (IsOver-lesser M f g a b oa ob) (omega (arith, ints, clamps, over_le M f g a b oa ob p))

through_some : (test : ℕ → Bool) (y : Option Face) (f : Face) → through test y ≡ Some f → y ≡ Some f
through_some test None f e = absurd cc
through_some test (Some x) f e = by_test (test x.end) e
  where
    by_test : (b : Bool) → cond b (Some x) None ≡ Some f → Some x ≡ Some f
    by_test true k = k
    by_test false k = absurd cc

module _ (m : FlowModel) (w : ConvertibleLayers) (p : ℕ) (listed : List Bound) (h : ℕ → Fraction) (within : HeadsEnclose m listed h) where
  low : (c : ℕ) → c < cell_count m.grid → is_active m c ≡ true → AtMost (lower_head listed c) (h c)
  low c lt active = record { at_most = (within c (record { within = lt; active = active })).lower }

  high : (c : ℕ) → c < cell_count m.grid → is_active m c ≡ true → AtMost (h c) (upper_head listed c)
  high c lt active = record { at_most = (within c (record { within = lt; active = active })).upper }

  module _ (c : ℕ) (lt : c < cell_count m.grid) (active : is_active m c ≡ true) where
    abbrev top : Fraction
    top = number (top_at m c)

    abbrev bottom : Fraction
    bottom = number (bottom_at m c)

    abbrev thick_by : Bool → Fraction
    thick_by b = as_fraction (cond b (gap (lesser (h c) top) bottom) (thickness m c))

    within_wet : (n : ℕ) → n < cell_count m.grid → is_active m n ≡ true → AtMost (minus (upper_head listed n) (lower_head listed c)) (minus (lower_head listed c) bottom) →
        AtMost (h c) top → is_convertible m w c ≡ true → FallsWithin m w h c n
    unfolding saturated_thickness
    within_wet n there other fall partly converts =
        let to : AtMost (minus (h n) (h c)) (minus (upper_head listed n) (lower_head listed c)) =
        minus_rises (h n) (upper_head listed n) (h c) (lower_head listed c) (high n there other) (low c lt active) in
        let on : AtMost (minus (lower_head listed c) bottom) (minus (h c) bottom) = minus_rises (lower_head listed c) (h c) bottom bottom (low c lt active) (AtMost-of bottom bottom refl) in
        let up : AtMost (minus (h c) bottom) (minus (lesser (h c) top) bottom) = minus_rises (h c) (lesser (h c) top) bottom bottom (lesser_keeps (h c) top partly) (AtMost-of bottom bottom refl) in
        subst (λ (b : Bool). AtMost (minus (h n) (h c)) (thick_by b)) (sym converts)
        (AtMost-trans to (AtMost-trans fall (AtMost-trans on (AtMost-trans up (gap_reaches (lesser (h c) top) bottom)))))

    from : (n : ℕ) → n < cell_count m.grid → is_active m n ≡ true → FallsFrom m w listed n c → IsFull m w h c ⊎ FallsWithin m w h c n
    from n there other (inl confined) = inl (inl confined)
    from n there other (inr (inl full)) = inl (inr (AtMost-trans full (low c lt active)))
    from n there other (inr (inr fall)) = elim (cases_Bool (is_convertible m w c)) [
      | inr confined ↦ inl (inl confined)
      | inl converts ↦ by_lt_z (top.num *ℤ pos (den (h c))) ((h c).num *ℤ pos (den top))
          (λ less. inl (inr (record { at_most = omega (arith, ints, less) })))
          (λ least. inr (within_wet n there other fall (record { at_most = least }) converts))
    ]

    along : (axis : Axis) (n : ℕ) → n < cell_count m.grid → is_active m n ≡ true → FallsAlong m w listed c axis n → FallsGently m w h c axis n
    along Row n there other k = from n there other k
    along Column n there other k = from n there other k
    along Vertical n there other k = tt

  module _ (valid : IsModel m) (passes : AreGentleBetween m w p listed) where
    faces_fall : (test : ℕ → Bool) → ((n : ℕ) → test n ≡ true → is_active m n ≡ true) → (c : ℕ) → c < cell_count m.grid → is_variable m p c ≡ true →
        All (λ x. FallsGently m w h c x.axis x.end) (filter_map (through test) (faces m.grid c))
    faces_fall test active c lt v = All-In (λ (x : Face). FallsGently m w h c x.axis x.end) (filter_map (through test) (faces m.grid c)) each
      where
        each : (f : Face) → In (filter_map (through test) (faces m.grid c)) f → FallsGently m w h c f.axis f.end
        each f j =
            let (y, i, e) = filter_map-In (through test) (faces m.grid c) f j in
            let (g, passed) = passing_are m.grid test c f j in
            let here = variable_active m p c v in
            let falls = In-All (FallsThrough m w listed c) (faces m.grid c) y ((passes c (record { within = lt; active = here })).falls v) i in
            along c lt here f.axis f.end (end_within m.grid c f valid.grid.size lt g) (active f.end passed)
            (subst (FallsThrough m w listed c) (through_some test y f e) falls (active f.end passed))

    gentle : IsGentle m w p h
    gentle = record {
      wet = (λ c lt active converts. below_then_at_most _ _ _ ((passes c (record { within = lt; active = active })).wet converts) (low c lt active));
      falls = (λ c lt v. (
        faces_fall (is_variable m p) (λ n. variable_active m p n) c lt v,
        faces_fall (is_constant m p) (λ n. constant_active m p n) c lt v,
      ));
      over_bottom = (λ u lt upper lower converts. AtMost-trans ((passes (u + layer_size m.grid) (record { within = lt; active = lower })).over_bottom u refl upper converts)
          (low (u + layer_size m.grid) lt lower));
    }

pub all_between_are_gentle : AllBetweenAreGentle
all_between_are_gentle m w p listed h valid passes within = gentle m w p listed h within valid passes
