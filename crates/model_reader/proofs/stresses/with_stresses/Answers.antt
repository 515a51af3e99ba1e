use Rattle.model_reader.proofs.Common.{err_from_is_err_and, names_still, refl, stresses, Dis}
use Rattle.model_reader.proofs.ReadLemmas.{both_read, reads_nothing, stress_read, stress_stops, stresses_done}
use Rattle.model_reader.proofs.stresses.with_stresses.Goals as goal

pub loop-asked-init : goal.loop-asked-init
loop-asked-init g c = (reads_nothing, (λ files agree. refl), c.requires.names, c.requires.size)

pub loop-asked-preserved : goal.loop-asked-preserved
loop-asked-preserved g c = (
  both_read c.loop-asked.invariant.0 c.in_ok-next.ensures.folder,
  (λ files agree. stress_read c.args.limits files c.args.names.now stresses c.loop-asked.asked-index Dis c.loop-asked-test.true c.loop-asked.model _ _
      (c.in_ok-next.ensures.model files agree) (c.loop-asked.invariant.1 files (c.in_ok-next.ensures.folder.since files agree))),
  names_still _ _ _ (λ name h. c.in_ok-next.ensures.folder.still name h) c.loop-asked.invariant.2,
  rw c.in_ok-next.ensures.grid c.loop-asked.invariant.3,
)

pub returns-in_err-next-clause-model : goal.returns-in_err-next-clause-model
returns-in_err-next-clause-model g c = λ files agree.
    let p = err_from_is_err_and c.from_residual.result c.from_residual.ensures.1 in
    rw (p.1, p.2) (stress_stops c.args.limits files c.args.names.now stresses c.loop-asked.asked-index Dis c.loop-asked-test.true c.loop-asked.model _ _
    (c.in_err-next.ensures.model files agree) (c.loop-asked.invariant.1 files (c.in_err-next.ensures.folder.since files agree)))

pub returns-in_err-next-clause-folder : goal.returns-in_err-next-clause-folder
returns-in_err-next-clause-folder g c =
    let p = err_from_is_err_and c.from_residual.result c.from_residual.ensures.1 in
    rw (p.1, p.2) (both_read c.loop-asked.invariant.0 c.in_err-next.ensures.folder)

pub returns-clause-model : goal.returns-clause-model
returns-clause-model g c = λ files agree.
    stresses_done c.args.limits files c.args.names.now stresses c.loop-asked.asked-index c.loop-asked.model _ c.loop-asked-test.false
    (c.loop-asked.invariant.1 files agree)
