use Rattle.convertible_reader.proofs.Common.{◌∙◌, layers_of, err_from_is_err_and, step_goes_on, steps_stop, steps_done}
use Rattle.convertible_reader.proofs.layers.layers_of.Goals as goal

pub returns-in_err-more-clause-properties : goal.returns-in_err-more-clause-properties
unfolding layers_of
returns-in_err-more-clause-properties g c = λ files agree.
    let p = err_from_is_err_and c.from_residual.result c.from_residual.ensures.1 in
    rw (p.1, p.2) (steps_stop _ c.in_err-more.field-0.0 c.args.count c.loop-k.k _ _ c.loop-k-test.true (c.in_err-more.ensures.properties files agree)
    (c.loop-k.invariant.0 files (c.in_err-more.ensures.folder.since files agree)))

pub loop-k-preserved : goal.loop-k-preserved
loop-k-preserved g c = (
  (λ files agree.
      step_goes_on _ c.args.count c.loop-k.k _ _ _ c.loop-k-test.true (c.in_ok-more.ensures.properties files agree) (c.loop-k.invariant.0 files (c.in_ok-more.ensures.folder.since files agree))),
  (λ files agree. c.loop-k.invariant.1 files (c.in_ok-more.ensures.folder.since files agree)),
  c.in_ok-more.ensures.folder.counts ∙ c.loop-k.invariant.2,
  (λ name h. c.in_ok-more.ensures.folder.still name (c.loop-k.invariant.3 name h)),
  c.in_ok-more.ensures.lines,
)

pub returns-clause-properties : goal.returns-clause-properties
unfolding layers_of
returns-clause-properties g c = λ files agree. steps_done _ c.args.count c.loop-k.k _ _ c.loop-k-test.false (c.loop-k.invariant.0 files agree)
