use Rattle.problem_builder.proofs.Common.{subst, sym, HasConductance, Axis}
use Rattle.problem_builder.proofs.faces.pair_after.Goals as goal

pub returns-in-Row : goal.returns-in-Row
returns-in-Row c = subst (λ (a : Axis). HasConductance c.args.model.now c.args.s a c.args.cell c.row_pair.result) (sym c.in-Row.is) (λ h x y. c.row_pair.ensures)

pub returns-in-Column : goal.returns-in-Column
returns-in-Column c = subst (λ (a : Axis). HasConductance c.args.model.now c.args.s a c.args.cell c.column_pair.result) (sym c.in-Column.is) (λ h x y. c.column_pair.ensures)
