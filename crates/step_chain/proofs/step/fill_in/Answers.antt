use Rattle.step_chain.proofs.Common.{◌<◌, sym, ap, ◌∙◌, arith, cell_count, bound_at}
use Rattle.problem_builder.proofs.KindsOf.{variable_kind}
use Rattle.step_chain.proofs.Assembled.{kind_variable, partly_other, partly_variable, all_filled}
use Rattle.step_chain.proofs.step.fill_in.Goals.{in-Variable, in_default}
use Rattle.step_chain.proofs.step.fill_in.Goals as goal

pub loop-cell-preserved : goal.loop-cell-preserved
loop-cell-preserved c =
    let d = c.args.decks.now in
    let m = d.first in
    let cell = c.loop-cell.cell in
    let within : cell < cell_count m.grid = omega (arith, c.loop-cell-test.true, c.cell_count-count.ensures.count) in
    let kind = c.kind_at.ensures ∙ c.requires.kinds.each cell within in
    elim c.match-kind_at.branch [
      | in-Variable w ↦ rw (w.heads-is, w.set.ensures) (partly_variable d c.args.at c.args.bounds.now c.loop-cell.heads cell w.bound_at.result within
          (variable_kind m c.args.at.period cell (sym kind ∙ w.in-Variable.is))
          (w.bound_at.ensures ∙ ap (bound_at c.args.bounds.now) (w.index_at.ensures ∙ c.requires.index.each cell within)) c.loop-cell.invariant)
      | in_default w ↦ rw w.heads-is (partly_other d c.args.at c.args.bounds.now c.loop-cell.heads cell (λ v.
          w.in_default.not-Variable (kind ∙ kind_variable m c.args.at.period cell v)) c.loop-cell.invariant)
    ]

pub returns : goal.returns
returns c = all_filled c.args.decks.now c.args.at c.args.bounds.now c.loop-cell.heads c.loop-cell.cell (omega (arith, c.loop-cell-test.false, c.cell_count-count.ensures.count)) c.loop-cell.invariant
