use Rattle.step_problem.proofs.Common.{◌≡◌, ◌∙◌, rules, unsigned_abs, FitsSigned, w128, to_z-of_z, deep_river, Low, High}
use Rattle.step_problem.proofs.Sums.{deep_is}
use Rattle.step_problem.proofs.fitting.sums.deep_flow.Goals as goal

pub returns : goal.returns
returns c =
    let fits_l : FitsSigned w128 c.flow_at-low.result = search rules in
    let fits_h : FitsSigned w128 c.flow_at-high.result = search rules in
    let low : c.flow_at-low.result ≡ deep_river Low c.args.x.now = c.flow_at-low.ensures.value ∙ deep_is Low c.args.x.now c.requires in
    let high : c.flow_at-high.result ≡ deep_river High c.args.x.now = c.flow_at-high.ensures.value ∙ deep_is High c.args.x.now c.requires in
    let size_low : c.unsigned_abs.result ≡ unsigned_abs c.flow_at-low.result = simp to_z-of_z at c.unsigned_abs.ensures.value in
    let size_high : c.unsigned_abs-2.result ≡ unsigned_abs c.flow_at-high.result = simp to_z-of_z at c.unsigned_abs-2.ensures.value in
    cc (c.max.ensures, size_low, size_high, low, high)
