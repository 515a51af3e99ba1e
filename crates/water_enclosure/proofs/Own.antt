-- Flows that follow from a cell's own head fall weakly with it.
use Rattle.water_enclosure.proofs.Common.{◌*◌, ◌++◌, List, [], ◌∷◌, All, map, arith, mul-pos, refl, clamps, ints, All-head, All-tail, le_over, over_le, DrainOver, EvapOver, FixedOver, RiverOver}
use Rattle.water_enclosure.proofs.Common.{drain_over, evap_over, fixed_over, river_over, WholeEntry, ExactDrain, ExactEvap, ExactFixed, ExactRiver, drain_flow, evap_flow, fixed_flow, river_flow}
use Rattle.water_enclosure.proofs.Common.{Fraction, fraction_total, AtMost, den, mul_mono, AtMost-of, among, common_denominator_exists, plus_rises}
use Rattle.step_problem.proofs.Falls.{loss_falls}

module _ (v v' : Fraction) (falls : AtMost v' v) where
  pub fixed_falls : (x : ExactFixed) → AtMost (fixed_flow v x) (fixed_flow v' x)
  fixed_falls x =
      let (M, some, at) = common_denominator_exists 3 (among (v ∷ v' ∷ x.head ∷ [])) in
      let (y, oy) = at 0 (omega arith) in
      let (y', oy') = at 1 (omega arith) in
      let (t, ot) = at 2 (omega arith) in
      let le = over_le M v' v y' y oy' oy falls in
      let e : WholeEntry = record { c = x.conductance.num; top = t; foot = t } in
      let o : FixedOver (den x.conductance) M x e = record { c = record { is = refl }; top = ot; foot = ot } in
      le_over (den x.conductance * M) _ _ _ _ (mul-pos (omega arith) some) (fixed_over (den x.conductance) M v y oy x e o)
      (fixed_over (den x.conductance) M v' y' oy' x e o) (mul_mono x.conductance.num _ _ (omega (arith, ints, le)))

  pub river_falls : (x : ExactRiver) → AtMost (river_flow v x) (river_flow v' x)
  river_falls x =
      let (M, some, at) = common_denominator_exists 4 (among (v ∷ v' ∷ x.stage ∷ x.bottom ∷ [])) in
      let (y, oy) = at 0 (omega arith) in
      let (y', oy') = at 1 (omega arith) in
      let (t, ot) = at 2 (omega arith) in
      let (b, ob) = at 3 (omega arith) in
      let le = over_le M v' v y' y oy' oy falls in
      let e : WholeEntry = record { c = x.conductance.num; top = t; foot = b } in
      let o : RiverOver (den x.conductance) M x e = record { c = record { is = refl }; top = ot; foot = ob } in
      le_over (den x.conductance * M) _ _ _ _ (mul-pos (omega arith) some) (river_over (den x.conductance) M v y oy x e o)
      (river_over (den x.conductance) M v' y' oy' x e o) (mul_mono x.conductance.num _ _ (omega (arith, ints, clamps, le)))

  pub drain_falls : (x : ExactDrain) → AtMost (drain_flow v x) (drain_flow v' x)
  drain_falls x =
      let (M, some, at) = common_denominator_exists 3 (among (v ∷ v' ∷ x.elevation ∷ [])) in
      let (y, oy) = at 0 (omega arith) in
      let (y', oy') = at 1 (omega arith) in
      let (t, ot) = at 2 (omega arith) in
      let le = over_le M v' v y' y oy' oy falls in
      let e : WholeEntry = record { c = x.conductance.num; top = t; foot = t } in
      let o : DrainOver (den x.conductance) M x e = record { c = record { is = refl }; top = ot; foot = ot } in
      le_over (den x.conductance * M) _ _ _ _ (mul-pos (omega arith) some) (drain_over (den x.conductance) M v y oy x e o)
      (drain_over (den x.conductance) M v' y' oy' x e o) (loss_falls x.conductance.num _ _ (omega (arith, ints, clamps, le)))

  pub evap_falls : (x : ExactEvap) → AtMost (evap_flow v x) (evap_flow v' x)
  evap_falls x =
      let (M, some, at) = common_denominator_exists 4 (among (v ∷ v' ∷ x.surface ∷ x.extinction ∷ [])) in
      let (y, oy) = at 0 (omega arith) in
      let (y', oy') = at 1 (omega arith) in
      let (t, ot) = at 2 (omega arith) in
      let (b, ob) = at 3 (omega arith) in
      let le = over_le M v' v y' y oy' oy falls in
      let e : WholeEntry = record { c = x.conductance.num; top = t; foot = b } in
      let o : EvapOver (den x.conductance) M x e = record { c = record { is = refl }; top = ot; foot = ob } in
      le_over (den x.conductance * M) _ _ _ _ (mul-pos (omega arith) some) (evap_over (den x.conductance) M v y oy x e o)
      (evap_over (den x.conductance) M v' y' oy' x e o) (loss_falls x.conductance.num _ _ (omega (arith, ints, clamps, le)))

-- sums of flows that fall
pub total_falls : {X : Type 0} (f f' : X → Fraction) → ((x : X) → AtMost (f x) (f' x)) → (xs : List X) → AtMost (fraction_total f xs) (fraction_total f' xs)
total_falls f f' each [] = AtMost-of _ _ refl
total_falls f f' each (x ∷ xs) = plus_rises _ _ _ _ (each x) (total_falls f f' each xs)

-- of entries that come from the same sources, before the others
pub front_falls : {S X : Type 0} (f f' : X → Fraction) (a b : S → X) (xs : List S) (rest : List X) → All (λ s. AtMost (f (a s)) (f' (b s))) xs →
    AtMost (fraction_total f rest) (fraction_total f' rest) →
    AtMost (fraction_total f (map a xs ++ rest)) (fraction_total f' (map b xs ++ rest))
front_falls f f' a b [] rest each more = more
front_falls f f' a b (s ∷ xs) rest each more =
    plus_rises _ _ _ _ (All-head (λ s. AtMost (f (a s)) (f' (b s))) s xs each)
    (front_falls f f' a b xs rest (All-tail (λ s. AtMost (f (a s)) (f' (b s))) s xs each) more)
