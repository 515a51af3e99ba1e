use Rattle.problem_builder.proofs.Common.{◌∙◌, arith, ap, sym, branches_of, cell_count, Inputs, err_from_is_err_and}
use Rattle.problem_builder.proofs.Steps.{no_cells, next_cell, next_none, first_fault}
use Rattle.problem_builder.proofs.builder.cells.Goals.{then-is_variable+in_ok-made+in_ok-push, else-is_variable}
use Rattle.problem_builder.proofs.builder.cells.Goals as goal

pub loop-number-init : goal.loop-number-init
loop-number-init c = let i = c.args.input.now in rw c.new-cells.ensures.items (no_cells i.model i.tables.digits i.at i.old (branches_of i))

pub returns-in_err-made-clause-fault : goal.returns-in_err-made-clause-fault
returns-in_err-made-clause-fault c =
    let i = c.args.input.now in
    let p = err_from_is_err_and c.from_residual.result c.from_residual.ensures.1 in
    rw (p.1, p.2) (first_fault i.model i.tables.digits i.at i.old (branches_of i) c.loop-number.number c.loop-number.cells.items c.in_err-made.field-0.0
    (omega (arith, c.loop-number-test.true, c.cell_count-count.ensures.count, ap (λ (z : Inputs). cell_count z.model.grid) c.input.view_is))
    (sym c.is_variable.ensures ∙ c.if-is_variable.true) c.in_err-made.ensures.fault c.loop-number.invariant)

pub loop-number-preserved : goal.loop-number-preserved
loop-number-preserved c = let i = c.args.input.now in elim c.if-is_variable.branch [
  | then-is_variable+in_ok-made+in_ok-push w ↦ rw w.cells-is
      (next_cell i.model i.tables.digits i.at i.old (branches_of i) c.loop-number.number c.loop-number.cells.items _ w.in_ok-made.made
      (sym c.is_variable.ensures ∙ w.if-is_variable.true) w.in_ok-push.ensures.items w.in_ok-made.ensures.cell.is w.in_ok-made.ensures.cell.sound
      c.loop-number.invariant)
  | else-is_variable w ↦ rw w.cells-is (next_none i.model i.tables.digits i.at i.old (branches_of i) c.loop-number.number c.loop-number.cells.items
      (sym c.is_variable.ensures ∙ w.if-is_variable.false) c.loop-number.invariant)
]
