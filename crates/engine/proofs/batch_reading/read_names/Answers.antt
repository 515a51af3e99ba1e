use Rattle.engine.proofs.Common.{List, ℕ, subst, StopsText, batch_of, read_by_name, names_read, Err, Global, Ok, Vec, file_at, input_fault}
use Rattle.batch_list.specs.{names_in}
use Rattle.batch_list.proofs.LineLemmas.{names_named}
use Rattle.engine.proofs.Readings.{read_then, passed_reading, text_read, unread_then}
use Rattle.engine.proofs.batch_reading.read_names.Goals as goal

abbrev view : Vec (List ℕ) Global → List (List ℕ)
view v = v.items

pub returns-in_err-bytes-clause-reads : goal.returns-in_err-bytes-clause-reads
returns-in_err-bytes-clause-reads g c = λ files agree.
    passed_reading view (names_read files (batch_of c.args.asked)) c.from_residual.result _ c.from_residual.ensures.1
    (unread_then view (read_by_name c.args.asked.list.now (file_at files)) (names_in c.args.asked.list.now) (λ (v : Vec ℕ Global).
    v.items) c.in_err-bytes.field-0.0 (c.in_err-bytes.ensures.reads files agree))

pub returns-in_err-names-clause-reads : goal.returns-in_err-names-clause-reads
returns-in_err-names-clause-reads g c = λ files agree.
    let list = c.args.asked.list.now in
    let P : List ℕ → Type 0 = λ t. StopsText c.in_err-names.field-0.0 (names_in list t) in
    passed_reading view (names_read files (batch_of c.args.asked)) c.from_residual-in_err-names.result _ c.from_residual-in_err-names.ensures.1
    (read_then view (read_by_name list (file_at files)) (names_in list) c.in_ok-bytes.bytes.items (Err (input_fault c.in_err-names.field-0.0))
    (c.in_ok-bytes.ensures.reads files agree) (text_read view (names_in list c.in_ok-bytes.bytes.items) c.in_err-names.field-0.0
    (subst P c.as_slice.ensures.value c.in_err-names.ensures.names)))

pub returns-clause-reads : goal.returns-clause-reads
returns-clause-reads g c = λ files agree.
    read_then view (read_by_name c.args.asked.list.now (file_at files)) (names_in c.args.asked.list.now) c.in_ok-bytes.bytes.items (Ok c.in_ok-names.names)
    (c.in_ok-bytes.ensures.reads files agree) (rw c.as_slice.ensures.value at c.in_ok-names.ensures.names)

pub returns-clause-may : goal.returns-clause-may
returns-clause-may g c = names_named _ _ c.in_ok-bytes.bytes.items c.in_ok-names.names.items (rw c.as_slice.ensures.value at c.in_ok-names.ensures.names) c.in_ok-bytes.ensures.words
