-- The cells of three lists of bounds, and the lists of cells.
use Rattle.plan_listing.proofs.Common.{◌≡◌, ℕ, List, [], ◌∷◌, length, map, refl, arith, ap, AllZip, Bound, FlowModel, IsCellBound, PlanCell, plan_cells}

abbrev pub bases : List PlanCell → List Bound
bases xs = map (λ x. x.base) xs

abbrev pub planneds : List PlanCell → List Bound
planneds xs = map (λ x. x.planned) xs

abbrev pub differences : List PlanCell → List Bound
differences xs = map (λ x. x.difference) xs

-- the lists of cells have these cells
pub same_cells : (xs : List PlanCell) → plan_cells (bases xs) (planneds xs) (differences xs) ≡ xs
same_cells [] = refl
same_cells (x ∷ xs) = ap (λ (t : List PlanCell). x ∷ t) (same_cells xs)

-- the cells of lists of one length have these lists
pub record HaveLists (xs : List PlanCell) (a b d : List Bound) : Type 0 where
  pub base : bases xs ≡ a
  pub planned : planneds xs ≡ b
  pub difference : differences xs ≡ d

pub lists_of : (a b d : List Bound) → length a ≡ length b → length a ≡ length d → HaveLists (plan_cells a b d) a b d
lists_of [] [] [] h k = record { base = refl; planned = refl; difference = refl }
lists_of (x ∷ a) (y ∷ b) (z ∷ d) h k =
    let more = lists_of a b d (omega (arith, h)) (omega (arith, k)) in
    record { base = ap (λ (t : List Bound). x ∷ t) more.base; planned = ap (λ (t : List Bound). y ∷ t) more.planned; difference = ap (λ (t : List Bound). z ∷ t) more.difference }
lists_of [] (y ∷ b) d h k = absurd (omega (arith, h))
lists_of [] [] (z ∷ d) h k = absurd (omega (arith, k))
lists_of (x ∷ a) [] d h k = absurd (omega (arith, h))
lists_of (x ∷ a) (y ∷ b) [] h k = absurd (omega (arith, k))

-- the bounds of a cell
pub record IsPlanCell (m : FlowModel) (c : ℕ) (x : PlanCell) : Type 0 where
  pub base : IsCellBound m c x.base
  pub planned : IsCellBound m c x.planned
  pub difference : IsCellBound m c x.difference

module _ (m : FlowModel) where
  pub cells_are : (cs : List ℕ) (a b d : List Bound) → AllZip (IsCellBound m) cs a → AllZip (IsCellBound m) cs b → AllZip (IsCellBound m) cs d → AllZip (IsPlanCell m) cs (plan_cells a b d)
  cells_are [] [] [] [] h k l = tt
  cells_are (c ∷ cs) (x ∷ a) (y ∷ b) (z ∷ d) h k l = (record { base = h.0; planned = k.0; difference = l.0 }, cells_are cs a b d h.1 k.1 l.1)
  cells_are [] (x ∷ a) b d h k l = absurd h
  cells_are [] [] (y ∷ b) d h k l = absurd k
  cells_are [] [] [] (z ∷ d) h k l = absurd l
  cells_are (c ∷ cs) [] b d h k l = absurd h
  cells_are (c ∷ cs) (x ∷ a) [] d h k l = absurd k
  cells_are (c ∷ cs) (x ∷ a) (y ∷ b) [] h k l = absurd l

  -- the bounds of one list
  pub bounds_are : (f : PlanCell → Bound) → ((c : ℕ) (x : PlanCell) → IsPlanCell m c x → IsCellBound m c (f x)) → (cs : List ℕ) (xs : List PlanCell) →
      AllZip (IsPlanCell m) cs xs → AllZip (IsCellBound m) cs (map f xs)
  bounds_are f each [] [] h = tt
  bounds_are f each (c ∷ cs) (x ∷ xs) h = (each c x h.0, bounds_are f each cs xs h.1)
  bounds_are f each [] (x ∷ xs) h = absurd h
  bounds_are f each (c ∷ cs) [] h = absurd h
