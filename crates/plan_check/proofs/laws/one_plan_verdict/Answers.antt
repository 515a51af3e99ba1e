use Rattle.plan_check.proofs.OneVerdict.{verdicts_one}
use Rattle.plan_check.proofs.laws.one_plan_verdict.Goals as goal

pub returns : goal.returns
returns c = verdicts_one (record {
  start_one = c.start_heads.ensures.one;
  start_fits = c.start_heads.ensures.fit;
  problem_fits = c.problems_fit.ensures.fit;
  barrier_one = c.one_cut_barrier.ensures;
  barrier_excludes = c.no_barrier_beside_a_refusal.ensures;
  cut_excludes = c.no_cut_barrier_beside_a_refusal.ensures;
  barrier_refusal_one = c.one_refusal.ensures;
  cut_refusal_one = c.one_cut_refusal.ensures;
}) c.constant_pairs.ensures.one
