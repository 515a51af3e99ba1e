use Rattle.convertible_reader.proofs.Common.{Err, Ok, convertible_model_of, err_from_is_err_and, refl, both_read, stops_all}
use Rattle.convertible_reader.proofs.{FolderLemmas.read_of_fault, FolderLemmas.read_of_value, ModelForms.read_valid}
use Rattle.model_reader.proofs.ReadLemmas.{goes_on}
use Rattle.name_file.proofs.Forward.{file_named, names_still}
use Rattle.convertible_reader.proofs.model.read_convertible_model.Goals as goal

pub returns-in_err-flow-clause-model : goal.returns-in_err-flow-clause-model
unfolding convertible_model_of
returns-in_err-flow-clause-model g c = λ files agree.
    let p = err_from_is_err_and c.from_residual-in_err-flow.result c.from_residual-in_err-flow.ensures.1 in
    let basic = c.in_err-flow.ensures.folder.since files agree in
    rw (p.1, p.2) (goes_on (λ x. x) (Err c.in_err-flow.field-0.0) _ _ _ (rw c.file_needed-dis.ensures.file at (c.in_ok-begun.ensures.model files (c.in_ok-basic.ensures.folder.since files basic)))
    (goes_on (λ x. x) (Err c.in_err-flow.field-0.0) _ _ _ (rw (c.file_needed-dis.ensures.file, c.file_needed-bas.ensures.file) at (c.in_ok-basic.ensures.model files basic))
    (stops_all c.in_err-flow.field-0.0 _ _ (rw c.file_needed-lpf.ensures.file at (c.in_err-flow.ensures.model files agree)))))

pub returns-in_err-model-clause-model : goal.returns-in_err-model-clause-model
unfolding convertible_model_of
returns-in_err-model-clause-model g c = λ files agree.
    let p = err_from_is_err_and c.from_residual-in_err-model.result c.from_residual-in_err-model.ensures.1 in
    let flow = c.in_err-model.ensures.folder.since files agree in
    let basic = c.in_ok-flow.ensures.folder.since files flow in
    rw (p.1, p.2) (goes_on (λ x. x) (Err c.in_err-model.field-0.0) _ _ _ (rw c.file_needed-dis.ensures.file at (c.in_ok-begun.ensures.model files (c.in_ok-basic.ensures.folder.since files basic)))
    (goes_on (λ x. x) (Err c.in_err-model.field-0.0) _ _ _ (rw (c.file_needed-dis.ensures.file, c.file_needed-bas.ensures.file) at (c.in_ok-basic.ensures.model files basic))
    (goes_on (λ x. x) (Err c.in_err-model.field-0.0) _ _ _ (rw c.file_needed-lpf.ensures.file at (c.in_ok-flow.ensures.model files flow))
    (stops_all c.in_err-model.field-0.0 _ _ (c.in_err-model.ensures.model files agree)))))

pub convertible_lpf_in-requires-clause-may : goal.convertible_lpf_in-requires-clause-may
convertible_lpf_in-requires-clause-may g c = c.in_ok-basic.ensures.folder.still _ (c.in_ok-begun.ensures.folder.still _ (file_named _ _ _ _ c.requires.names c.file_needed-lpf.ensures.pair))

pub dis_in-requires-clause-may : goal.dis_in-requires-clause-may
dis_in-requires-clause-may g c = file_named _ _ _ _ c.requires.names c.file_needed-dis.ensures.pair

pub bas_in-requires-clause-may : goal.bas_in-requires-clause-may
bas_in-requires-clause-may g c = c.in_ok-begun.ensures.folder.still _ (file_named _ _ _ _ c.requires.names c.file_needed-bas.ensures.pair)

pub bas_in-requires-clause-grid : goal.bas_in-requires-clause-grid
bas_in-requires-clause-grid g c = c.in_ok-begun.ensures.form.discretized.grid

pub with_stresses-requires-clause-size : goal.with_stresses-requires-clause-size
with_stresses-requires-clause-size g c = c.in_ok-flow.ensures.grid.size

pub with_stresses-requires-clause-names : goal.with_stresses-requires-clause-names
with_stresses-requires-clause-names g c =
    names_still _ _ _ (λ name h. c.in_ok-flow.ensures.folder.still name (c.in_ok-basic.ensures.folder.still name (c.in_ok-begun.ensures.folder.still name h)))
    c.requires.names

pub returns-clause-model : goal.returns-clause-model
unfolding convertible_model_of
returns-clause-model g c = λ files agree.
    let flow = c.in_ok-model.ensures.folder.since files agree in
    let basic = c.in_ok-flow.ensures.folder.since files flow in
    goes_on (λ x. x) (Ok _) _ _ _ (rw c.file_needed-dis.ensures.file at (c.in_ok-begun.ensures.model files (c.in_ok-basic.ensures.folder.since files basic)))
    (goes_on (λ x. x) (Ok _) _ _ _ (rw (c.file_needed-dis.ensures.file, c.file_needed-bas.ensures.file) at (c.in_ok-basic.ensures.model files basic))
    (goes_on (λ x. x) (Ok _) _ _ _ (rw c.file_needed-lpf.ensures.file at (c.in_ok-flow.ensures.model files flow))
    (rw (c.in_ok-model.ensures.model files agree) refl)))

pub returns-clause-form : goal.returns-clause-form
returns-clause-form g c =
    let some = c.some_agree.ensures in
    (read_valid c.args.limits some.0 c.args.names.now _ (returns-clause-model g c some.0 some.1)).model

pub returns-clause-layers : goal.returns-clause-layers
returns-clause-layers g c =
    let some = c.some_agree.ensures in
    (read_valid c.args.limits some.0 c.args.names.now _ (returns-clause-model g c some.0 some.1)).laytyp

pub returns-clause-yields : goal.returns-clause-yields
returns-clause-yields g c =
    let some = c.some_agree.ensures in
    (read_valid c.args.limits some.0 c.args.names.now _ (returns-clause-model g c some.0 some.1)).yields

pub returns-in_err-model-clause-folder : goal.returns-in_err-model-clause-folder
returns-in_err-model-clause-folder g c =
    let p = err_from_is_err_and c.from_residual-in_err-model.result c.from_residual-in_err-model.ensures.1 in
    rw (p.1, p.2) (read_of_fault c.in_err-model.field-0.0
    (both_read c.in_ok-begun.ensures.folder (both_read c.in_ok-basic.ensures.folder (both_read c.in_ok-flow.ensures.folder c.in_err-model.ensures.folder))))

pub returns-clause-folder : goal.returns-clause-folder
returns-clause-folder g c = read_of_value
    (both_read c.in_ok-begun.ensures.folder (both_read c.in_ok-basic.ensures.folder (both_read c.in_ok-flow.ensures.folder c.in_ok-model.ensures.folder)))
