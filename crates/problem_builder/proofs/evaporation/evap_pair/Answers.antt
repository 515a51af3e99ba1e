use Rattle.problem_builder.proofs.Common.{◌-ℤ◌, ◌∙◌, ap, arith, ints, rules, subst, sym, size, Bound, EvapSource, evap_formula, FitsSigned, to_z-of_z, w64, IsPositive, delr_positive, delc_positive}
use Rattle.problem_builder.proofs.Common.{capped_pair, small_pair}
use Rattle.problem_builder.proofs.Fits.{depth_is, extinction_bounds_are_heads, kept_pair}
use Rattle.problem_builder.proofs.evaporation.evap_pair.Goals as goal

pub depth_pair-depth-requires : goal.depth_pair-depth-requires
depth_pair-depth-requires c = record { depth = depth_is (record { rate = c.args.rate; surface = c.args.surface; depth = c.args.depth }) c.requires.source }

pub evap_branch-requires-clause-delr : goal.evap_branch-requires-clause-delr
evap_branch-requires-clause-delr c = subst IsPositive (sym c.delr_at.ensures) (delr_positive c.args.model.now c.args.cell c.requires.model)

pub evap_branch-requires-clause-delc : goal.evap_branch-requires-clause-delc
evap_branch-requires-clause-delc c = subst IsPositive (sym c.delc_at.ensures) (delc_positive c.args.model.now c.args.cell c.requires.model)

pub overflow_sub-result : goal.overflow_sub-result
overflow_sub-result c =
    let k = (extinction_bounds_are_heads (record { rate = c.args.rate; surface = c.args.surface; depth = c.args.depth }) c.requires.source).0 in
    let a = ap (λ (b : Bound). b.low) c.head_pair-surface.ensures in
    let b = ap (λ (b : Bound). b.high) c.depth_pair-depth.ensures in
    omega (arith, ints, k.above, k.below, a, b)

pub overflow_sub-result-2 : goal.overflow_sub-result-2
overflow_sub-result-2 c =
    let k = (extinction_bounds_are_heads (record { rate = c.args.rate; surface = c.args.surface; depth = c.args.depth }) c.requires.source).1 in
    let a = ap (λ (b : Bound). b.high) c.head_pair-surface.ensures in
    let b = ap (λ (b : Bound). b.low) c.depth_pair-depth.ensures in
    omega (arith, ints, k.above, k.below, a, b)

pub returns : goal.returns
unfolding capped_pair
returns c =
    let x : EvapSource = record { rate = c.args.rate; surface = c.args.surface; depth = c.args.depth } in
    let (low, high) = extinction_bounds_are_heads x c.requires.source in
    let surface = c.head_pair-surface.ensures in
    let depth = c.depth_pair-depth.ensures in
    let a : FitsSigned w64 c.head_pair-surface.result.low = search rules in
    let b : FitsSigned w64 c.head_pair-surface.result.high = search rules in
    let d : FitsSigned w64 c.depth_pair-depth.result.low = search rules in
    let e : FitsSigned w64 c.depth_pair-depth.result.high = search rules in
    let lowest : FitsSigned w64 (c.head_pair-surface.result.low -ℤ c.depth_pair-depth.result.high) =
    omega (arith, ints, low.above, low.below, ap (λ (b : Bound). b.low) surface, ap (λ (b : Bound). b.high) depth) in
    let highest : FitsSigned w64 (c.head_pair-surface.result.high -ℤ c.depth_pair-depth.result.low) =
    omega (arith, ints, high.above, high.below, ap (λ (b : Bound). b.high) surface, ap (λ (b : Bound). b.low) depth) in
    let pair = c.capped_pair-pair.ensures ∙ ap kept_pair
    (c.evap_branch.ensures.rounded ∙ (λ t. small_pair (evap_formula (size c.args.rate) (size (c.delr_at.ensures t)) (size (c.delc_at.ensures t))
    (size c.args.depth)) c.args.s)) in
    simp to_z-of_z (λ t. record {
      lo = (pair t).lo;
      hi = (pair t).hi;
      ext_lo = (surface t).low -ℤ (depth t).high;
      ext_hi = (surface t).high -ℤ (depth t).low;
      surf_lo = (surface t).low;
      surf_hi = (surface t).high;
    })
