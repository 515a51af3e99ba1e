use Rattle.std.proofs.lemmas.Result.{err_from_is_err_and}
use Rattle.stated_text.proofs.Readings.{no_files, no_model, whole_part}
use Rattle.stated_text.proofs.parts.read_part.Goals as goal

pub returns-in_err-files-clause-reads : goal.returns-in_err-files-clause-reads
returns-in_err-files-clause-reads c =
    let p = err_from_is_err_and c.from_residual.result c.from_residual.ensures.1 in
    rw (p.1, p.2) (no_files c.args.limits c.args.text.now c.args.line _ c.args.bytes.now c.in_err-files.field-0.0 c.in_err-files.ensures)

pub returns-in-Ok-clause-reads : goal.returns-in-Ok-clause-reads
returns-in-Ok-clause-reads c =
    whole_part c.args.limits c.args.text.now c.args.line _ c.args.bytes.now c.in_ok-files.files.items c.in_ok-files.ensures c.in-Ok.read.0 c.in-Ok.read.1
    (rw c.as_slice.ensures.value at c.in-Ok.ensures.reads) c.part_of.result c.part_of.ensures.reads

pub returns-in-Err-clause-reads : goal.returns-in-Err-clause-reads
returns-in-Err-clause-reads c =
    no_model c.args.limits c.args.text.now c.args.line _ c.args.bytes.now c.in_ok-files.files.items c.in_ok-files.ensures c.in-Err.fault (rw c.as_slice.ensures.value at c.in-Err.ensures.reads)
