-- Where all checks passed, no cell has a fault.
use Rattle.number_limits.proofs.Common.{◌≡◌, ℕ, ◌<◌, Bool, true, false, List, Option, Some, None, Ok, refl, arith, cell_count, is_active, FlowModel, at_cell, cell_step, check_result, code_of}
use Rattle.number_limits.proofs.Common.{fault_at, passes, each_step, not, ◌||◌, if◌then◌else◌}
use Rattle.outside.specs.declared.codes.Code.{Code}
use Rattle.model_types.specs.declared.grid.Grid.{Grid}
use Rattle.number_limits.specs.declared.passing.Check.{Check}

no_fault : (g : Grid) (file : List ℕ) (c : ℕ) (x : Option Code) → at_cell g file c x ≡ Ok tt → x ≡ None
no_fault g file c None h = refl
no_fault g file c (Some code) h = absurd cc

pub all_passed : (m : FlowModel) (file : List ℕ) (check : Check) → check_result m file check ≡ Ok tt → (c : ℕ) → c < cell_count m.grid → fault_at check m c ≡ None
unfolding check_result
all_passed m file check h c lt = no_fault m.grid file c (fault_at check m c) (each_step (cell_step m file check) (cell_count m.grid) 0 h c (omega arith) (omega (arith, lt)))

passed_of : (check : Check) (m : FlowModel) (c : ℕ) → fault_at check m c ≡ None → is_active m c ≡ true → passes check m c ≡ true
unfolding fault_at
passed_of check m c e active = by_case (is_active m c) (passes check m c) active e
  where
    by_case : (a b : Bool) → a ≡ true → (if not a || b then None else Some (code_of check)) ≡ None → b ≡ true
    by_case a true f g = refl
    by_case true false f g = absurd cc
    by_case false false f g = absurd (let clash : false ≡ true = f in cc)

-- an active cell passes a check that refused none
pub each_passed : (m : FlowModel) (file : List ℕ) (check : Check) → check_result m file check ≡ Ok tt → (c : ℕ) → c < cell_count m.grid → is_active m c ≡ true → passes check m c ≡ true
each_passed m file check h c lt active = passed_of check m c (all_passed m file check h c lt) active
