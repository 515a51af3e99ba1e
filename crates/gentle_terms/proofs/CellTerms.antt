-- The single flows of a term into a cell, at two vectors of heads.
use Rattle.gentle_terms.proofs.Common.{◌≡◌, ℕ, List, [], ◌∷◌, ◌++◌, ◌∙◌, map, refl, ap, subst, sym, Fraction, fraction_total, exact_part, ExactFixed, drain_flow, evap_flow, fixed_flow, river_flow}
use Rattle.gentle_terms.proofs.Common.{InOrder, FlowModel, TimeStep, Dir, Term, OwnFlowsAreAtMost, constant_branch, convertible_cell, general_branches, ConvertibleLayers, ConstantHead, Drains, Et}
use Rattle.gentle_terms.proofs.Common.{HeadDepBounds, Recharge, RiverLeakage, Storage, Wells, FixedSource, ToGeneral, as_general, constant_faces, local_entries, start_head, exact_fixed_of}
use Rattle.model_types.specs.{declared.face.Face.Face, declared.entry.Entry.Entry, declared.entry.Entry.TheVariants.Drain, declared.entry.Entry.TheVariants.General}
use Rattle.model_types.specs.{declared.entry.Entry.TheVariants.River, declared.entry.Entry.TheVariants.Well}
use Rattle.std.proofs.lemmas.List.{append-nil}
use Rattle.std.specs.List.{filter_map}
use Rattle.flow_equations.specs.{exact_fixed}
use Rattle.gentle_terms.proofs.Parts.{list_order, same_order, source_order}
unfoldable use Rattle.budget_bounds.specs.{exact_singles}

module _ (m : FlowModel) (w : ConvertibleLayers) (at : TimeStep) (c : ℕ) where
  abbrev general : FixedSource → ExactFixed
  general = exact_fixed m at.period at.step (start_head m) c

  -- of a term: the branches to constant-head neighbours, or the general heads, or none
  module _ (h : ℕ → Fraction) where
    abbrev branch : Face → ExactFixed
    branch = constant_branch m w at h

    constants_kept : (faces : List Face) (rest : List ExactFixed) → exact_fixed_of ConstantHead (map branch faces ++ rest) ≡ map branch faces ++ exact_fixed_of ConstantHead rest
    constants_kept [] rest = refl
    constants_kept (x ∷ faces) rest = ap (λ xs. branch x ∷ xs) (constants_kept faces rest)

    constants_left : (faces : List Face) (rest : List ExactFixed) → exact_fixed_of HeadDepBounds (map branch faces ++ rest) ≡ exact_fixed_of HeadDepBounds rest
    constants_left [] rest = refl
    constants_left (x ∷ faces) rest = constants_left faces rest

    no_storage : (faces : List Face) (rest : List ExactFixed) → exact_fixed_of Storage (map branch faces ++ rest) ≡ exact_fixed_of Storage rest
    no_storage [] rest = refl
    no_storage (x ∷ faces) rest = no_storage faces rest

  generals_kept : (xs : List Entry) → exact_fixed_of HeadDepBounds (map general (filter_map as_general xs)) ≡ map general (filter_map as_general xs)
  generals_kept [] = refl
  generals_kept (Well cell q ∷ xs) = generals_kept xs
  generals_kept (River cell stage k bottom ∷ xs) = generals_kept xs
  generals_kept (Drain cell elevation k ∷ xs) = generals_kept xs
  generals_kept (General cell head k ∷ xs) = ap (λ ys. general (ToGeneral head k) ∷ ys) (generals_kept xs)

  generals_left : (xs : List Entry) → exact_fixed_of ConstantHead (map general (filter_map as_general xs)) ≡ []
  generals_left [] = refl
  generals_left (Well cell q ∷ xs) = generals_left xs
  generals_left (River cell stage k bottom ∷ xs) = generals_left xs
  generals_left (Drain cell elevation k ∷ xs) = generals_left xs
  generals_left (General cell head k ∷ xs) = generals_left xs

  no_stored : (xs : List Entry) → exact_fixed_of Storage (map general (filter_map as_general xs)) ≡ []
  no_stored [] = refl
  no_stored (Well cell q ∷ xs) = no_stored xs
  no_stored (River cell stage k bottom ∷ xs) = no_stored xs
  no_stored (Drain cell elevation k ∷ xs) = no_stored xs
  no_stored (General cell head k ∷ xs) = no_stored xs

  abbrev faces : List Face
  faces = constant_faces m at.period c

  abbrev entries : List Entry
  entries = local_entries m at.period c

  abbrev fixed : (ℕ → Fraction) → List ExactFixed
  fixed h = (convertible_cell m w at h c).fixed

  constants_are : (h : ℕ → Fraction) → exact_fixed_of ConstantHead (fixed h) ≡ map (branch h) faces
  constants_are h =
      constants_kept h faces (general_branches m w at h c) ∙ ap (λ xs. map (branch h) faces ++ xs) (generals_left entries) ∙ append-nil (map (branch h) faces)

  generals_are : (h : ℕ → Fraction) → exact_fixed_of HeadDepBounds (fixed h) ≡ map general (filter_map as_general entries)
  generals_are h = constants_left h faces (general_branches m w at h c) ∙ generals_kept entries

  none_are : (h : ℕ → Fraction) → exact_fixed_of Storage (fixed h) ≡ []
  none_are h = no_storage h faces (general_branches m w at h c) ∙ no_stored entries

  -- the parts of the flows of a term, summed
  abbrev parts : Dir → Term → (ℕ → Fraction) → Fraction
  parts dir t h = fraction_total (exact_part dir) (exact_singles t (convertible_cell m w at h c) (h c))

  module _ (old h older g : ℕ → Fraction) (own : OwnFlowsAreAtMost m w at old h older g c) (dir : Dir) where
    abbrev over : (ℕ → Fraction) → List ExactFixed → Fraction
    over f xs = fraction_total (exact_part dir) (map (fixed_flow (f c)) xs)

    constants_order : InOrder dir (over h (exact_fixed_of ConstantHead (fixed h))) (over g (exact_fixed_of ConstantHead (fixed g)))
    constants_order =
        let P : List ExactFixed → List ExactFixed → Type 0 = λ xs ys. InOrder dir (over h xs) (over g ys) in
        subst (λ xs. P xs (exact_fixed_of ConstantHead (fixed g))) (sym (constants_are h)) (subst (P (map (branch h) faces)) (sym (constants_are g))
        (source_order dir (fixed_flow (h c)) (fixed_flow (g c)) (branch h) (branch g) faces own.constants))

    generals_order : InOrder dir (over h (exact_fixed_of HeadDepBounds (fixed h))) (over g (exact_fixed_of HeadDepBounds (fixed g)))
    generals_order =
        let xs = map general (filter_map as_general entries) in
        let P : List ExactFixed → List ExactFixed → Type 0 = λ xs ys. InOrder dir (over h xs) (over g ys) in
        subst (λ ys. P ys (exact_fixed_of HeadDepBounds (fixed g))) (sym (generals_are h)) (subst (P xs) (sym (generals_are g))
        (list_order dir (fixed_flow (h c)) (fixed_flow (g c)) xs own.generals))

    stored_order : InOrder dir (over h (exact_fixed_of Storage (fixed h))) (over g (exact_fixed_of Storage (fixed g)))
    stored_order =
        let P : List ExactFixed → List ExactFixed → Type 0 = λ xs ys. InOrder dir (over h xs) (over g ys) in
        subst (λ ys. P ys (exact_fixed_of Storage (fixed g))) (sym (none_are h)) (subst (P []) (sym (none_are g)) (same_order dir _ _ refl))

    pub parts_order : (t : Term) → InOrder dir (parts dir t h) (parts dir t g)
    unfolding exact_singles
    parts_order Storage = stored_order
    parts_order ConstantHead = constants_order
    parts_order Wells = same_order dir _ _ refl
    parts_order Drains = list_order dir (drain_flow (h c)) (drain_flow (g c)) (convertible_cell m w at h c).drains own.drains
    parts_order RiverLeakage = list_order dir (river_flow (h c)) (river_flow (g c)) (convertible_cell m w at h c).rivers own.rivers
    parts_order HeadDepBounds = generals_order
    parts_order Recharge = same_order dir _ _ refl
    parts_order Et = list_order dir (evap_flow (h c)) (evap_flow (g c)) (convertible_cell m w at h c).evaps own.evaps
