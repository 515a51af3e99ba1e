use Rattle.problem_builder.proofs.Common.{◌∙◌, ap, arith, map, range_with_len, Period, known_bound, part}
use Rattle.problem_builder.proofs.CellFits.{grown}
use Rattle.problem_builder.proofs.heads.constant_heads.Goals as goal

pub loop-cell-init : goal.loop-cell-init
loop-cell-init c = c.new-bounds.ensures.items

pub loop-cell-preserved : goal.loop-cell-preserved
loop-cell-preserved c = grown (known_bound c.args.model.now c.args.at) c.loop-cell.cell _ _ _ c.loop-cell.invariant c.in_ok-push.ensures.items c.head_of.ensures

pub head_of-requires-clause-part : goal.head_of-requires-clause-part
head_of-requires-clause-part c =
    let passed = c.time_part-part.ensures in
    record { is = passed.rounded ∙ ap (λ (x : Period). part x c.args.at.step) c.stress_period.ensures; range = (passed.encloses.low_range, passed.encloses.high_range) }

pub returns : goal.returns
returns c = c.loop-cell.invariant ∙ ap (λ n. map (known_bound c.args.model.now c.args.at) (range_with_len 0 n)) (omega (arith, c.cell_count-count.ensures.count, c.loop-cell-test.false))
