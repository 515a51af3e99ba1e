use Rattle.problem_builder.proofs.Common.{refl, IsThickness, IsBedBelow, HasConductance, no_span, no_pair, cell_count, Row, Column, Vertical}
use Rattle.problem_builder.proofs.PeriodMade.{filled_as}
use Rattle.problem_builder.proofs.tables.Tables.new.Goals as goal

pub returns : goal.returns
returns c =
    let m = c.args.model.now in
    let s = c.args.s in
    let n = cell_count m.grid in
    record {
      digits = refl;
      thick = filled_as (IsThickness m) no_span n _ _ c.new.ensures c.in_ok-thick.ensures;
      bed = filled_as (IsBedBelow m) no_span n _ _ c.new-2.ensures c.in_ok-bed.ensures;
      row = filled_as (HasConductance m s Row) no_pair n _ _ c.new-3.ensures c.in_ok-row.ensures;
      column = filled_as (HasConductance m s Column) no_pair n _ _ c.new-4.ensures c.in_ok-column.ensures;
      vertical = filled_as (HasConductance m s Vertical) no_pair n _ _ c.new-5.ensures c.in_ok-vertical.ensures;
    }
