use Rattle.std.proofs.Common.{arith, ◌≡◌, subst, ℕ, length}
use Rattle.barrier_vector.proofs.Gathering.{extended_more, these_have, Extended}
use Rattle.barrier_vector.proofs.search.extend_paths.Goals as goal

pub loop-c-preserved : goal.loop-c-preserved
loop-c-preserved c = extended_more c.args.p.now c.args.q c.args.levels.now c.args.level c.args.frontier.now c.args.paths.now c.requires.past c.loop-c.paths
    c.loop-c.c-index c.path_from.result c.loop-c-test.true (let h = c.requires.frontier c.loop-c.c-index 0 c.loop-c-test.true in omega (
      arith,
      h,
      c.requires.paths,
      c.loop-c.auto.paths,
    )) c.loop-c.invariant c.path_from.ensures

pub returns-clause-paths : goal.returns-clause-paths
returns-clause-paths c = let at : c.loop-c.c-index ≡ length c.args.frontier.now = omega (arith, c.loop-c-test.false, c.loop-c.auto.c-index-end) in these_have
    c.args.p.now c.args.q c.args.levels.now c.args.level c.args.frontier.now c.args.paths.now c.requires.past c.loop-c.paths
    (subst (λ (n : ℕ). Extended c.args.p.now c.args.q c.args.levels.now c.args.level c.args.frontier.now c.args.paths.now c.loop-c.paths n) at
    c.loop-c.invariant)
