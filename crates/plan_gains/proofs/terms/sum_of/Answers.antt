use Rattle.plan_gains.proofs.Common.{lower_at, upper_at, ◌∙◌, sum_or_large, term_gain, In, Out}
use Rattle.plan_gains.proofs.Limits.{net_capped}
use Rattle.plan_gains.proofs.terms.sum_of.Goals as goal

pub returns-clause-value : goal.returns-clause-value
unfolding sum_or_large
returns-clause-value c =
    (rw (c.term_gain-more.ensures.value, c.term_gain-less.ensures.value) at c.net_or_large.ensures.value)
    ∙ net_capped c.args.term
    (term_gain c.args.base.now c.args.p.now (lower_at c.args.bounds.now) (upper_at c.args.bounds.now) In c.args.term)
    (term_gain c.args.base.now c.args.p.now (lower_at c.args.bounds.now) (upper_at c.args.bounds.now) Out c.args.term)
