use Rattle.plan_chain.proofs.Common.{ap, replicate, no_bound, ◌∙◌, ℕ}
use Rattle.plan_chain.proofs.Walking.{zeros_are_heads}
use Rattle.plan_chain.proofs.walk.start_heads.Goals as goal

pub returns-clause-start : goal.returns-clause-start
returns-clause-start c = record {
  base = c.in_ok-base.ensures.bounds;
  planned = c.in_ok-planned.ensures.bounds;
  differences = c.new-differences.ensures ∙ c.in_ok-no_differences.ensures ∙ ap (λ (n : ℕ). replicate n no_bound) c.cell_count.ensures;
}

pub returns-clause-fit : goal.returns-clause-fit
returns-clause-fit c = record {
  base = c.in_ok-base.ensures.heads;
  planned = c.in_ok-planned.ensures.heads;
  differences = zeros_are_heads c.args.task.now.base.first _ (c.new-differences.ensures ∙ c.in_ok-no_differences.ensures ∙ ap (λ (n : ℕ). replicate n no_bound) c.cell_count.ensures);
}
