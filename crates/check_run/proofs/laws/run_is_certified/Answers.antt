use Rattle.check_run.proofs.RunSteps.{run_certified}
use Rattle.check_run.proofs.laws.run_is_certified.Goals as goal

pub returns : goal.returns
returns c = run_certified (record {
  start_fits = c.start_heads.ensures.fit;
  problem_fits = c.problems_fit.ensures.fit;
  pair_one = c.constant_pairs.ensures.one;
  heads_fit = c.heads_fit.ensures;
})
