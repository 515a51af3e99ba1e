use Rattle.engine.proofs.Common.{Vec, Global, ℕ, List, Result, subst, StopsText, PlannedDecks, planned_in, read_by_name, Refusal, Ok, Err, file_at, input_fault, wells_read}
use Rattle.engine.proofs.Readings.{read_then, passed_reading, text_read, unread_then}
use Rattle.engine.proofs.planning.read_wells.Goals as goal

pub returns-in_err-bytes-clause-reads : goal.returns-in_err-bytes-clause-reads
returns-in_err-bytes-clause-reads g c = λ files agree.
    passed_reading (λ (w : PlannedDecks). w) (wells_read files c.args.limits c.args.wells.now c.args.decks.now) c.from_residual.result _
    c.from_residual.ensures.1
    (unread_then (λ (w : PlannedDecks). w) (read_by_name c.args.wells.now (file_at files)) _ (λ (v : Vec ℕ Global). v.items) c.in_err-bytes.field-0.0
    (c.in_err-bytes.ensures.reads files agree))

pub returns-in_err-planned-clause-reads : goal.returns-in_err-planned-clause-reads
returns-in_err-planned-clause-reads g c = λ files agree.
    let f : List ℕ → Result PlannedDecks Refusal = planned_in c.args.limits c.args.wells.now c.args.decks.now in
    let P : List ℕ → Type 0 = λ b. StopsText c.in_err-planned.field-0.0 (f b) in
    passed_reading (λ (w : PlannedDecks). w) (wells_read files c.args.limits c.args.wells.now c.args.decks.now) c.from_residual-in_err-planned.result
    _ c.from_residual-in_err-planned.ensures.1
    (read_then (λ (w : PlannedDecks). w) (read_by_name c.args.wells.now (file_at files)) f c.in_ok-bytes.bytes.items
    (Err (input_fault c.in_err-planned.field-0.0)) (c.in_ok-bytes.ensures.reads files agree)
    (text_read (λ (w : PlannedDecks). w) _ c.in_err-planned.field-0.0 (subst P c.as_slice.ensures.value c.in_err-planned.ensures.reads)))

pub returns-clause-reads : goal.returns-clause-reads
returns-clause-reads g c = λ files agree.
    read_then (λ (w : PlannedDecks). w) (read_by_name c.args.wells.now (file_at files)) _ c.in_ok-bytes.bytes.items (Ok c.in_ok-planned.planned)
    (c.in_ok-bytes.ensures.reads files agree) (rw c.as_slice.ensures.value at c.in_ok-planned.ensures.reads)
