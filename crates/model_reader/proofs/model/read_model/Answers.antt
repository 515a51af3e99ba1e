use Rattle.model_reader.proofs.Common.{err_from_is_err_and, Err, model_of, file_named, names_still, stops_all}
use Rattle.model_reader.proofs.{ReadLemmas.both_read, ReadLemmas.goes_on, ModelLimits.read_valid}
use Rattle.model_reader.proofs.model.read_model.Goals as goal

pub returns-in_err-flow-clause-model : goal.returns-in_err-flow-clause-model
unfolding model_of
returns-in_err-flow-clause-model g c = λ files agree.
    let p = err_from_is_err_and c.from_residual-in_err-flow.result c.from_residual-in_err-flow.ensures.1 in
    let basic = c.in_err-flow.ensures.folder.since files agree in
    rw (p.1, p.2) (goes_on (λ m. m) (Err c.in_err-flow.field-0.0) _ _ _ (rw c.file_needed-dis.ensures.file at (c.in_ok-begun.ensures.model files (c.in_ok-basic.ensures.folder.since files basic)))
    (goes_on (λ m. m) (Err c.in_err-flow.field-0.0) _ _ _ (rw (c.file_needed-dis.ensures.file, c.file_needed-bas.ensures.file) at (c.in_ok-basic.ensures.model files basic))
    (stops_all c.in_err-flow.field-0.0 _ _ (rw c.file_needed-lpf.ensures.file at (c.in_err-flow.ensures.model files agree)))))

pub returns-clause-folder : goal.returns-clause-folder
returns-clause-folder g c =
    both_read c.in_ok-begun.ensures.folder (both_read c.in_ok-basic.ensures.folder (both_read c.in_ok-flow.ensures.folder c.with_stresses-read.ensures.folder))

pub returns-clause-model : goal.returns-clause-model
unfolding model_of
returns-clause-model g c = λ files agree.
    let flow = c.with_stresses-read.ensures.folder.since files agree in
    let basic = c.in_ok-flow.ensures.folder.since files flow in
    goes_on (λ m. m) c.with_stresses-read.result _ _ _ (rw c.file_needed-dis.ensures.file at (c.in_ok-begun.ensures.model files (c.in_ok-basic.ensures.folder.since files basic)))
    (goes_on (λ m. m) c.with_stresses-read.result _ _ _ (rw (c.file_needed-dis.ensures.file, c.file_needed-bas.ensures.file) at (c.in_ok-basic.ensures.model files basic))
    (goes_on (λ m. m) c.with_stresses-read.result _ _ _ (rw c.file_needed-lpf.ensures.file at (c.in_ok-flow.ensures.model files flow))
    (c.with_stresses-read.ensures.model files agree)))

pub returns-clause-form : goal.returns-clause-form
returns-clause-form g c =
    let some = c.some_agree.ensures in
    read_valid c.args.limits some.0 c.args.names.now c.with_stresses-read.result (returns-clause-model g c some.0 some.1)

pub dis_in-requires-clause-may : goal.dis_in-requires-clause-may
dis_in-requires-clause-may g c = file_named _ _ _ _ c.requires.names c.file_needed-dis.ensures.pair

pub bas_in-requires-clause-may : goal.bas_in-requires-clause-may
bas_in-requires-clause-may g c = c.in_ok-begun.ensures.folder.still _ (file_named _ _ _ _ c.requires.names c.file_needed-bas.ensures.pair)

pub lpf_in-requires-clause-may : goal.lpf_in-requires-clause-may
lpf_in-requires-clause-may g c = c.in_ok-basic.ensures.folder.still _ (c.in_ok-begun.ensures.folder.still _ (file_named _ _ _ _ c.requires.names c.file_needed-lpf.ensures.pair))

pub bas_in-requires-clause-grid : goal.bas_in-requires-clause-grid
bas_in-requires-clause-grid g c = c.in_ok-begun.ensures.form.discretized.grid

pub with_stresses-read-requires-clause-size : goal.with_stresses-read-requires-clause-size
with_stresses-read-requires-clause-size g c = c.in_ok-flow.ensures.grid.size

pub with_stresses-read-requires-clause-names : goal.with_stresses-read-requires-clause-names
with_stresses-read-requires-clause-names g c =
    names_still _ _ _ (λ name h. c.in_ok-flow.ensures.folder.still name (c.in_ok-basic.ensures.folder.still name (c.in_ok-begun.ensures.folder.still name h)))
    c.requires.names
