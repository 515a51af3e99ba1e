-- The balance of a cell at gentle heads: it doesn't fall as other heads rise, and falls by at most a rate over d as heads rise by at most 1 / d.
use Rattle.gentle_histories.proofs.Common.{◌≡◌, ℕ, ◌+◌, ◌<◌, true, List, [], ◌∷◌, All, inr, refl, ap, sym, ◌∙◌, subst, map, and_parts, All-head, All-tail, Fraction, as_fraction, fraction_total}
use Rattle.gentle_histories.proofs.Common.{AtMost, times, drain_flow, evap_flow, fixed_flow, link_flow, minus, river_flow, FlowModel, Face, TimeStep, IsModel, cell_count, constant_faces, is_active}
use Rattle.gentle_histories.proofs.Common.{is_constant, is_variable, variable_faces, IsFaceOf, end_within, passing_are, All-In, In, In-All, AtMost-of, plus_rises, ConvertibleLayers, FallsGently}
use Rattle.gentle_histories.proofs.Common.{IsGentle, conductance_at, constant_branch, convertible_cell, general_branches, variable_branch, variable_cell, water_balance, variable_active}
use Rattle.gentle_histories.proofs.Common.{index_names_cell}
use Rattle.water_table.proofs.Waters.{storage_flow_rises}
use Rattle.water_enclosure.proofs.{Neighbours.face_in_order, Neighbours.variable_in_order, Own.drain_falls, Own.evap_falls, Own.fixed_falls, Own.front_falls, Own.river_falls, Own.total_falls}
use Rattle.gentle_histories.proofs.{Branches.IsCell, Boxes.IsBox, Boxes.LieIn, Boxes.face_cells, Boxes.face_near, Boxes.face_rate, Flows.drain_near, Flows.evap_near, Flows.fixed_near}
use Rattle.gentle_histories.proofs.{Flows.near_front, Flows.near_mapped, Flows.near_total, Flows.river_near, Flows.near_itself, Flows.storage_near, Flows.storage_rate, Flows.total_rate, Near.IsNear}
use Rattle.gentle_histories.proofs.{Near.near_plus}
unfoldable use Rattle.model_types.specs.{constant_head}

-- of entries that come from the same sources
mapped_falls : {S X : Type 0} (f f' : X → Fraction) (a b : S → X) (xs : List S) → All (λ s. AtMost (f (a s)) (f' (b s))) xs →
    AtMost (fraction_total f (map a xs)) (fraction_total f' (map b xs))
mapped_falls f f' a b [] each = AtMost-of _ _ refl
mapped_falls f f' a b (x ∷ xs) each = plus_rises _ _ _ _ (All-head (λ s. AtMost (f (a s)) (f' (b s))) x xs each) (mapped_falls f f' a b xs (All-tail (λ s. AtMost (f (a s)) (f' (b s))) x xs each))

-- the rate at which the balance of cell c falls
abbrev pub balance_rate : (m : FlowModel) (w : ConvertibleLayers) (at : TimeStep) (valid : IsModel m) (low high : ℕ → Fraction) (n : ℕ) (box : IsBox m w low high n) → ℕ → ℕ
balance_rate m w at valid low high n box c = 0 + (total_rate (face_rate m w valid low high n box) (variable_faces m at.period c)
    + (total_rate (face_rate m w valid low high n box) (constant_faces m at.period c) + total_rate (λ x. x.conductance.num) (general_branches m w at low c)
    + (total_rate (λ x. x.conductance.num) (convertible_cell m w at low c).rivers + (total_rate (λ x. x.conductance.num) (convertible_cell m w at low c).drains
    + total_rate (λ x. x.conductance.num) (convertible_cell m w at low c).evaps)))) + storage_rate m w c at.period at.step

module _ (m : FlowModel) (w : ConvertibleLayers) (at : TimeStep) (valid : IsModel m) (h g : ℕ → Fraction) (c : ℕ) (lt : c < cell_count m.grid)
    (variable : is_variable m at.period c ≡ true)
    (known_h : (c : ℕ) → is_constant m at.period c ≡ true → h c ≡ constant_head m at.period at.step c)
    (known_g : (c : ℕ) → is_constant m at.period c ≡ true → g c ≡ constant_head m at.period at.step c) where
  here : IsCell m c
  here = record { within = lt; active = variable_active m at.period c variable }

  -- a face to a variable neighbour, and one to a constant-head neighbour
  record IsTo (x : Face) : Type 0 where
    face : IsFaceOf m.grid c x
    active : is_active m x.end ≡ true
    within : x.end < cell_count m.grid

  variable_to : (x : Face) → In (variable_faces m at.period c) x → IsTo x × (is_variable m at.period x.end ≡ true)
  variable_to x i = let (face, ends) = passing_are m.grid (is_variable m at.period) c x i in
      (record { face = face; active = variable_active m at.period x.end ends; within = end_within m.grid c x valid.grid.size lt face }, ends)

  constant_to : (x : Face) → In (constant_faces m at.period c) x → IsTo x × (is_constant m at.period x.end ≡ true)
  constant_to x i = let (face, ends) = passing_are m.grid (is_constant m at.period) c x i in
      (record { face = face; active = (and_parts (is_active m x.end) _ ends).0; within = end_within m.grid c x valid.grid.size lt face }, ends)

  -- the flow over a face at heads f, by the head of the cell at its other end
  abbrev over_face : (ℕ → Fraction) → Face → Fraction
  over_face f x = times (as_fraction (conductance_at m w f x.axis x.first)) (minus (f x.end) (f c))

  abbrev linked : (ℕ → Fraction) → Face → Fraction
  linked f x = link_flow (λ k. f (variable_cell m at.period k)) (f c) (variable_branch m w at f x)

  is_linked : (f : ℕ → Fraction) (x : Face) → In (variable_faces m at.period c) x → over_face f x ≡ linked f x
  is_linked f x i =
      let (to, ends) = variable_to x i in
      ap (λ (k : ℕ). times (as_fraction (conductance_at m w f x.axis x.first)) (minus (f k) (f c))) (sym (index_names_cell m at valid.grid.size x.end ends to.within))

  is_fixed : (f : ℕ → Fraction) (x : Face) → f x.end ≡ constant_head m at.period at.step x.end → over_face f x ≡ fixed_flow (f c) (constant_branch m w at f x)
  is_fixed f x e = ap (λ (z : Fraction). times (as_fraction (conductance_at m w f x.axis x.first)) (minus z (f c))) e

  module _ (old older : ℕ → Fraction) (gentle_h : IsGentle m w at.period h) (gentle_g : IsGentle m w at.period g) (olds : AtMost (old c) (older c)) (own : AtMost (g c) (h c))
      (others : (n : ℕ) → IsCell m n → AtMost (h n) (g n)) where
    link_order : (x : Face) → In (variable_faces m at.period c) x → AtMost (linked h x) (linked g x)
    link_order x i =
        let (to, ends) = variable_to x i in
        subst (λ (f : Fraction). AtMost f (linked g x)) (is_linked h x i) (subst (AtMost (over_face h x)) (is_linked g x i)
        (variable_in_order m w valid at.period h g gentle_h gentle_g c x lt here.active to.active variable to.face ends own
        (others x.end (record { within = to.within; active = to.active }))))

    constant_order : (x : Face) → In (constant_faces m at.period c) x → AtMost (fixed_flow (h c) (constant_branch m w at h x)) (fixed_flow (g c) (constant_branch m w at g x))
    constant_order x i =
        let (to, ends) = constant_to x i in
        let eh = known_h x.end ends in
        let eg = known_g x.end ends in
        subst (λ (f : Fraction). AtMost f (fixed_flow (g c) (constant_branch m w at g x))) (is_fixed h x eh) (subst (AtMost (over_face h x)) (is_fixed g x eg)
        (face_in_order m w valid at.period h g gentle_h gentle_g c x lt here.active to.face to.active own (AtMost-of (h x.end) (g x.end) (eh ∙ sym eg))
        (In-All (λ (f : Face). FallsGently m w g c f.axis f.end) (constant_faces m at.period c) x (gentle_g.falls c lt variable).1 i)
        (inr (AtMost-of (g x.end) (h x.end) (eg ∙ sym eh)))))

    -- with the same own head, and others at least as high, the balance is at least as great
    pub balance_order : AtMost (water_balance m w at old h c) (water_balance m w at older g c)
    balance_order = plus_rises _ _ _ _
        (plus_rises _ _ _ _ (AtMost-of _ _ refl)
        (plus_rises _ _ _ _ (mapped_falls (link_flow (λ k. h (variable_cell m at.period k)) (h c)) (link_flow (λ k. g (variable_cell m at.period k)) (g c)) (variable_branch m w at h)
        (variable_branch m w at g) (variable_faces m at.period c)
        (All-In (λ (x : Face). AtMost (linked h x) (linked g x)) (variable_faces m at.period c) link_order))
        (plus_rises _ _ _ _ (front_falls (fixed_flow (h c)) (fixed_flow (g c)) (constant_branch m w at h) (constant_branch m w at g) (constant_faces m at.period c) _
        (All-In (λ (x : Face). AtMost (fixed_flow (h c) (constant_branch m w at h x)) (fixed_flow (g c) (constant_branch m w at g x))) (constant_faces m at.period c) constant_order)
        (total_falls (fixed_flow (h c)) (fixed_flow (g c)) (fixed_falls (h c) (g c) own) _))
        (plus_rises _ _ _ _ (total_falls (river_flow (h c)) (river_flow (g c)) (river_falls (h c) (g c) own) _)
        (plus_rises _ _ _ _ (total_falls (drain_flow (h c)) (drain_flow (g c)) (drain_falls (h c) (g c) own) _)
        (total_falls (evap_flow (h c)) (evap_flow (g c)) (evap_falls (h c) (g c) own) _))))))
        (storage_flow_rises m w c at.period at.step (old c) (older c) (h c) (g c) olds own)

  module _ (low high : ℕ → Fraction) (n : ℕ) (box : IsBox m w low high n) where
    module _ (d : ℕ) (some : 0 < d) (old : ℕ → Fraction) (p : LieIn m w low high h) (q : LieIn m w low high g) (rises : (n : ℕ) → IsCell m n → AtMost (h n) (g n))
        (near : (n : ℕ) → IsCell m n → IsNear d 1 (g n) (h n)) where
      over_near : (x : Face) → IsTo x → IsNear d (face_rate m w valid low high n box x) (over_face h x) (over_face g x)
      over_near x to = face_near m w valid low high n box d some h g p q rises near x (face_cells m w valid low high n box c x here to.active to.face) c x.end here
          (record { within = to.within; active = to.active })

      -- as heads rise by at most 1 / d
      pub balance_near : IsNear d (balance_rate m w at valid low high n box c) (water_balance m w at old h c) (water_balance m w at old g c)
      balance_near = near_plus d some _ _ _ _ _ _
          (near_plus d some _ _ _ _ _ _ (near_itself d some _)
          (near_plus d some _ _ _ _ _ _ (near_mapped d some (link_flow (λ k. h (variable_cell m at.period k)) (h c)) (link_flow (λ k. g (variable_cell m at.period k)) (g c))
          (variable_branch m w at h) (variable_branch m w at g) (face_rate m w valid low high n box) (variable_faces m at.period c)
          (λ x i. subst (λ (f : Fraction). IsNear d (face_rate m w valid low high n box x) f (linked g x)) (is_linked h x i)
          (subst (IsNear d (face_rate m w valid low high n box x) (over_face h x)) (is_linked g x i) (over_near x (variable_to x i).0))))
          (near_plus d some _ _ _ _ _ _ (near_front d some (fixed_flow (h c)) (fixed_flow (g c)) (constant_branch m w at h) (constant_branch m w at g)
          (face_rate m w valid low high n box) (constant_faces m at.period c) _ _
          (λ x i. let (to, ends) = constant_to x i in
          subst (λ (f : Fraction). IsNear d (face_rate m w valid low high n box x) f (fixed_flow (g c) (constant_branch m w at g x))) (is_fixed h x (known_h x.end ends))
          (subst (IsNear d (face_rate m w valid low high n box x) (over_face h x)) (is_fixed g x (known_g x.end ends)) (over_near x to)))
          (near_total d some (fixed_flow (h c)) (fixed_flow (g c)) (λ x. x.conductance.num) _ (fixed_near d some (h c) (g c) (near c here))))
          (near_plus d some _ _ _ _ _ _ (near_total d some (river_flow (h c)) (river_flow (g c)) (λ x. x.conductance.num) _ (river_near d some (h c) (g c) (near c here)))
          (near_plus d some _ _ _ _ _ _ (near_total d some (drain_flow (h c)) (drain_flow (g c)) (λ x. x.conductance.num) _ (drain_near d some (h c) (g c) (near c here)))
          (near_total d some (evap_flow (h c)) (evap_flow (g c)) (λ x. x.conductance.num) _ (evap_near d some (h c) (g c) (near c here))))))))
          (storage_near d some (h c) (g c) (near c here) m w c at.period at.step (old c))
