use Rattle.dis_package.proofs.Common.{◌∙◌, err_from_is_err_and, bottoms_of, step_goes_on, steps_stop, steps_done}
use Rattle.dis_package.proofs.bottoms.bottoms_of.Goals as goal

pub returns-in_err-more-clause-bottoms : goal.returns-in_err-more-clause-bottoms
unfolding bottoms_of
returns-in_err-more-clause-bottoms g c = λ files agree.
    let p = err_from_is_err_and c.from_residual.result c.from_residual.ensures.1 in
    rw (p.1, p.2) (steps_stop _ c.in_err-more.field-0.0 c.args.count c.loop-k.k _ _ c.loop-k-test.true (c.in_err-more.ensures.bottoms files agree)
    (c.loop-k.invariant.0 files (c.in_err-more.ensures.folder.since files agree)))

pub loop-k-preserved : goal.loop-k-preserved
loop-k-preserved g c = (
  (λ files agree.
      step_goes_on _ c.args.count c.loop-k.k _ _ _ c.loop-k-test.true (c.in_ok-more.ensures.bottoms files agree) (c.loop-k.invariant.0 files (c.in_ok-more.ensures.folder.since files agree))),
  (λ files agree. c.loop-k.invariant.1 files (c.in_ok-more.ensures.folder.since files agree)),
  c.in_ok-more.ensures.folder.counts ∙ c.loop-k.invariant.2,
  (λ name h. c.in_ok-more.ensures.folder.still name (c.loop-k.invariant.3 name h)),
  c.in_ok-more.ensures.lines,
)

pub returns-clause-bottoms : goal.returns-clause-bottoms
unfolding bottoms_of
returns-clause-bottoms g c = λ files agree. steps_done _ c.args.count c.loop-k.k _ _ c.loop-k-test.false (c.loop-k.invariant.0 files agree)
