-- At any heads of two plans there is a step of their differences.
use Rattle.plan_difference.proofs.Common.{◌≡◌, ℕ, suc, ◌<◌, ap, refl, arith, ℤ, ◌-ℤ◌, List, [], ◌∷◌, ◌++◌, length, zero, AllZip, ExactCell, cell_at, drain_flow, evap_flow, river_flow, share}
use Rattle.plan_difference.proofs.Common.{DifferenceStepExists, IsDifferenceCell, IsRampBranch, ExactFlow, known_differences}
use Rattle.plan_difference.proofs.RampBranches.{river_branch, drain_branch, evap_branch}

-- what each element has, a list has
chosen : {X Z : Type 0} (R : X → Z → Type 0) → ((x : X) → (z : Z) × R x z) → (xs : List X) → (zs : List Z) × AllZip R xs zs
chosen R each [] = ([], tt)
chosen R each (x ∷ xs) =
    let (z, r) = each x in
    let (zs, all) = chosen R each xs in
    (z ∷ zs, (r, all))

module _ (d : ℕ) (some : 0 < d) where
  difference_cell : (X Y : ℤ) (qs : List ExactFlow) (x y : ExactCell) → (g : ExactCell) × IsDifferenceCell (share d X) (share d Y) (share d (X -ℤ Y)) qs x y g
  difference_cell X Y qs x y =
      let (rs, rivers) = chosen (λ r. IsRampBranch x.id (share d (X -ℤ Y)) r.conductance (river_flow (share d X) r) (river_flow (share d Y) r)) (river_branch x.id d some X Y) x.rivers in
      let (ds, drains) = chosen (λ r. IsRampBranch x.id (share d (X -ℤ Y)) r.conductance (drain_flow (share d X) r) (drain_flow (share d Y) r)) (drain_branch x.id d some X Y) x.drains in
      let (es, evaps) = chosen (λ r. IsRampBranch x.id (share d (X -ℤ Y)) r.conductance (evap_flow (share d X) r) (evap_flow (share d Y) r)) (evap_branch x.id d some X Y) x.evaps in (
        record { id = x.id; flows = qs; links = x.links; fixed = known_differences x.fixed y.fixed ++ (rs ++ (ds ++ es)); rivers = []; drains = []; evaps = [] },
        record {
          id = refl;
          flows = refl;
          links = refl;
          of_rivers = rs;
          of_drains = ds;
          of_evaps = es;
          fixed = refl;
          rivers = rivers;
          drains = drains;
          evaps = evaps;
          no_ramps = (refl, refl, refl);
        },
      )

  difference_cells : (qs : ℕ → List ExactFlow) (e : List ExactCell) (f : ℕ → ExactCell) (X Y : ℕ → ℤ) → (g : List ExactCell) × (length g ≡ length e)
      × ((c : ℕ) → c < length e → IsDifferenceCell (share d (X c)) (share d (Y c)) (share d (X c -ℤ Y c)) (qs c) (cell_at e c) (f c) (cell_at g c))
  difference_cells qs [] f X Y = ([], refl, λ c h. absurd (omega arith))
  difference_cells qs (x ∷ e) f X Y =
      let (g, is) = difference_cell (X 0) (Y 0) (qs 0) x (f 0) in
      let (gs, as_many, each) = difference_cells (λ c. qs (suc c)) e (λ c. f (suc c)) (λ c. X (suc c)) (λ c. Y (suc c)) in
      (g ∷ gs, ap suc as_many, at g gs is each)
    where
      at : (g : ExactCell) (gs : List ExactCell) → IsDifferenceCell (share d (X 0)) (share d (Y 0)) (share d (X 0 -ℤ Y 0)) (qs 0) x (f 0) g →
          ((c : ℕ) → c < length e → IsDifferenceCell (share d (X (suc c))) (share d (Y (suc c))) (share d (X (suc c) -ℤ Y (suc c))) (qs (suc c)) (cell_at e c) (f (suc c)) (cell_at gs c)) →
          (c : ℕ) → c < suc (length e) → IsDifferenceCell (share d (X c)) (share d (Y c)) (share d (X c -ℤ Y c)) (qs c) (cell_at (x ∷ e) c) (f c) (cell_at (g ∷ gs) c)
      at g gs is each zero h = is
      at g gs is each (suc c) h = each c (omega arith)

pub difference_step_exists : DifferenceStepExists
difference_step_exists d X Y qs e f some =
    let (g, as_many, cells) = difference_cells d some qs e (cell_at f) X Y in
    (g, record { as_many = as_many; cells = cells })
