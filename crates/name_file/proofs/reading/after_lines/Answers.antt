use Rattle.name_file.proofs.Common.{sym, ◌∙◌, numbered_of}
use Rattle.std.proofs.lemmas.Result.{err_from_is_err_and}
use Rattle.name_file.proofs.NameLemmas.{goes_on, stops, is_over}
use Rattle.name_file.proofs.reading.after_lines.Goals as goal

pub loop-line-preserved : goal.loop-line-preserved
loop-line-preserved c = sym (goes_on c.args.file.now c.loop-line.lines c.next_line.new.self
    (numbered_of c.in-Ok.line) c.loop-line.names _ c.in-Ok.ensures.line c.in_ok-after_line.ensures) ∙ c.loop-line.invariant

pub returns-in_err-after_line : goal.returns-in_err-after_line
returns-in_err-after_line c =
    let p = err_from_is_err_and c.from_residual.result c.from_residual.ensures.1 in
    rw (p.1, p.2, ← c.loop-line.invariant)
    (stops c.args.file.now c.loop-line.lines c.next_line.new.self
    (numbered_of c.in-Ok.line) c.loop-line.names _ c.in-Ok.ensures.line c.in_err-after_line.ensures)

pub returns : goal.returns
returns c = sym c.loop-line.invariant ∙ is_over c.args.file.now c.loop-line.lines _ c.loop-line.names c.in_default.ensures.line.0
