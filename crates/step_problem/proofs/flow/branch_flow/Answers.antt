use Rattle.step_problem.proofs.Common.{◌∙◌, ◌^◌, ◌*ℤ◌, ◌≡◌, ◌<◌, ◌≤◌, ℕ, ℤ, pos, arith, sym, FitsSigned, to_z, ◌*◌, w128, w64, ints, to_z-of_z, to_z_pos, IsMagnitudeAtMost, branch_flow, of_z, ◌-◌}
use Rattle.step_problem.proofs.{Sums.FitsSigned-within, Sums.IsWithin-product, Leasts.flow_up, Leasts.flow_down}
use Rattle.step_problem.proofs.flow.branch_flow.Goals.{then-difference-ge0, else-difference-ge0}
use Rattle.step_problem.proofs.flow.branch_flow.Goals as goal

-- the product of a number of 64 bits and a signed one, as it is computed in 128 bits
product_fits : (k : ℕ) (d : ℤ) → k < 2 ^ 64 → FitsSigned w64 d → FitsSigned w128 (to_z w128 k *ℤ to_z w128 (of_z w128 (to_z w64 (of_z w64 d))))
product_fits k d small fits =
    let near : IsMagnitudeAtMost d (2 ^ 63) = record { above = omega (arith, ints); below = omega (arith, ints) } in
    let wide : to_z w128 k ≡ pos k = to_z_pos w128 k (omega (arith, small)) in
    let fits_d : FitsSigned w128 d = omega (arith, ints) in
    simp (to_z-of_z, wide) (FitsSigned-within _ _ (IsWithin-product k (2 ^ 64 - 1) (2 ^ 63) d (omega (arith, small)) near) (omega arith))

pub overflow_mul-result : goal.overflow_mul-result
overflow_mul-result c = product_fits c.if-difference-ge0.conductance c.args.difference (omega arith) c.ranges.difference

pub returns : goal.returns
returns c =
    let k = c.if-difference-ge0.conductance in
    let d = c.args.difference in
    let both : (branch_flow c.args.side c.args.lo c.args.hi d ≡ pos k *ℤ d) × (k ≤ c.args.hi) = elim c.if-difference-ge0.branch [
      | then-difference-ge0 w ↦ flow_up c.args.side c.args.lo c.args.hi k d c.requires (w.conductance-is ∙ w.bound_of-conductance.ensures) (omega (arith, ints))
      | else-difference-ge0 w ↦ flow_down c.args.side c.args.lo c.args.hi k d c.requires (w.conductance-is ∙ w.bound_of-conductance-else-difference-ge0.ensures) (omega (arith, ints))
    ] in
    let near : IsMagnitudeAtMost d (2 ^ 63) = record { above = omega (arith, ints); below = omega (arith, ints) } in
    let fits_i : FitsSigned w64 d = c.ranges.difference in
    let wide : to_z w128 k ≡ pos k = to_z_pos w128 k (omega (arith, both.1)) in
    let w : IsMagnitudeAtMost (pos k *ℤ d) (c.args.hi * 2 ^ 63) = IsWithin-product _ _ _ _ both.1 near in
    let fits_d : FitsSigned w128 d = omega (arith, ints) in
    let fits : FitsSigned w128 (pos k *ℤ d) = omega (arith, ints, w.above, w.below) in
    simp (to_z-of_z, wide) (record { value = sym both.0; within = w })
