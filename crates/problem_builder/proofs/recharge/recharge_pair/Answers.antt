use Rattle.problem_builder.proofs.Common.{recharge_formula, ◌∙◌, ap, size, small_flow, capped_flow, ◌+◌}
use Rattle.problem_builder.proofs.Fits.{kept_flow}
use Rattle.problem_builder.proofs.recharge.recharge_pair.Goals as goal

pub returns : goal.returns
unfolding capped_flow
returns c = c.capped_flow.ensures ∙ ap kept_flow
    (c.recharge_flow.ensures.rounded ∙ (λ t. small_flow
    (recharge_formula (size c.args.rate) (size (c.delr_at.ensures t)) (size (c.delc_at.ensures t))) c.args.rate.neg (c.args.s + 9)))
