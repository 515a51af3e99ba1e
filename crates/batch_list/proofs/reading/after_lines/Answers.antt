use Rattle.batch_list.proofs.Common.{sym, ◌∙◌, numbered_of}
use Rattle.std.proofs.lemmas.Result.{err_from_is_err_and}
use Rattle.batch_list.proofs.LineLemmas.{goes_on, stops, is_over}
use Rattle.batch_list.proofs.reading.after_lines.Goals as goal

pub loop-line-preserved : goal.loop-line-preserved
loop-line-preserved c = record {
  few = c.after_line.ensures.few;
  good = c.after_line.ensures.good;
  same = sym (goes_on c.args.file.now c.loop-line.names.items c.loop-line.lines c.next_line.new.self
      (numbered_of c.in-Ok.line) c.in-Ok.ensures.line _ c.in_ok-after_line.ensures.names) ∙ c.loop-line.invariant.same;
}

pub returns-in_err-after_line-clause-names : goal.returns-in_err-after_line-clause-names
returns-in_err-after_line-clause-names c =
    let p = err_from_is_err_and c.from_residual.result c.from_residual.ensures.1 in
    rw (p.1, p.2, ← c.loop-line.invariant.same) (stops c.args.file.now c.loop-line.names.items c.loop-line.lines c.next_line.new.self
    (numbered_of c.in-Ok.line) c.in-Ok.ensures.line _ c.in_err-after_line.ensures.names)

pub returns-clause-names : goal.returns-clause-names
returns-clause-names c = sym c.loop-line.invariant.same ∙ is_over c.args.file.now c.loop-line.names.items c.loop-line.lines _ c.in_default.ensures.line.0
