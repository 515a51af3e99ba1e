use Rattle.check_run.proofs.OneVerdict.{verdicts_one}
use Rattle.check_run.proofs.laws.one_verdict.Goals as goal

pub returns : goal.returns
returns c = verdicts_one (record {
  start_one = c.start_heads.ensures.one;
  start_fits = c.start_heads.ensures.fit;
  problem_fits = c.problems_fit.ensures.fit;
  barrier_one = c.one_cut_barrier.ensures;
  barrier_excludes = c.no_barrier_beside_a_refusal.ensures;
  cut_excludes = c.no_cut_barrier_beside_a_refusal.ensures;
  barrier_refusal_one = c.one_refusal.ensures;
  cut_refusal_one = c.one_cut_refusal.ensures;
})
