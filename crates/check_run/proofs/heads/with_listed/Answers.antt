use Rattle.check_run.proofs.Common.{◌<◌, sym, ◌∙◌, arith, cell_count, variable_bounds, variable_kind, kind_variable, partly_other, partly_variable, all_filled}
use Rattle.check_run.proofs.RunText.{variable_listed}
use Rattle.check_run.proofs.heads.with_listed.Goals.{in-Variable, in_default}
use Rattle.check_run.proofs.heads.with_listed.Goals as goal

pub loop-cell-preserved : goal.loop-cell-preserved
loop-cell-preserved c =
    let d = c.args.decks.now in
    let m = d.first in
    let cell = c.loop-cell.cell in
    let within : cell < cell_count m.grid = omega (arith, c.loop-cell-test.true, c.cell_count-count.ensures.count) in
    let kind = c.kind_at.ensures ∙ c.requires.period.1.kinds.each cell within in
    let bounds = variable_bounds d c.args.at c.args.listed.now in
    elim c.match-kind_at.branch [
      | in-Variable w ↦ (let here = variable_kind m c.args.at.period cell (sym kind ∙ w.in-Variable.is) in
          rw (w.heads-is, w.set.ensures) (partly_variable d c.args.at bounds c.loop-cell.heads cell _ within here
          (sym (variable_listed d c.args.at c.args.listed.now cell here within)) c.loop-cell.invariant))
      | in_default w ↦ rw w.heads-is (partly_other d c.args.at bounds c.loop-cell.heads cell (λ v.
          w.in_default.not-Variable (kind ∙ kind_variable m c.args.at.period cell v)) c.loop-cell.invariant)
    ]

pub returns : goal.returns
returns c =
    let bounds = variable_bounds c.args.decks.now c.args.at c.args.listed.now in
    all_filled c.args.decks.now c.args.at bounds c.loop-cell.heads c.loop-cell.cell (omega (arith, c.loop-cell-test.false, c.cell_count-count.ensures.count)) c.loop-cell.invariant
