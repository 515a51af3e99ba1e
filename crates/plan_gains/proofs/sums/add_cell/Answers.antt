use Rattle.plan_gains.proofs.Common.{Fixed, List, TermPair, ap, branch_gain, capped_term, counts, filter, map, nothing_more, parts, plus_pair, sym, ◌∙◌, ◌≡◌}
use Rattle.plan_gains.proofs.Cells.{gains_by, none_are, wells_are}
use Rattle.plan_gains.proofs.sums.add_cell.Goals as goal

pub returns-in-Recharge-clause-value : goal.returns-in-Recharge-clause-value
returns-in-Recharge-clause-value c =
    sym (nothing_more c.args.dir c.args.sum c.requires.sum)
    ∙ ap (λ (xs : List TermPair). capped_term (plus_pair c.args.sum (parts c.args.dir xs)))
    (sym (none_are c.args.term c.args.base.now c.args.cell.now c.args.own.low c.args.own.high c.in-Recharge.is))

pub returns-in-Wells-clause-value : goal.returns-in-Wells-clause-value
returns-in-Wells-clause-value c =
    let flows : c.deref.result.now ≡ c.args.cell.now.flows = cc (c.deref.ensures.value, c.cell.view_is) in
    (rw flows at c.add_wells.ensures.value)
    ∙ ap (λ (xs : List TermPair). capped_term (plus_pair c.args.sum (parts c.args.dir xs)))
    (wells_are c.args.term c.args.base.now c.args.cell.now c.args.own.low c.args.own.high c.in-Wells.is)

pub returns-in_default-clause-value : goal.returns-in_default-clause-value
returns-in_default-clause-value c =
    c.add_branches.ensures.value
    ∙ ap (λ (xs : List Fixed). capped_term (plus_pair c.args.sum (parts c.args.dir
    (map (branch_gain c.args.own.low c.args.own.high) (filter (λ b. counts c.args.term b) xs))))) c.branches_of.ensures.value
    ∙ ap (λ (xs : List TermPair). capped_term (plus_pair c.args.sum (parts c.args.dir xs)))
    (gains_by c.args.term c.args.base.now c.args.cell.now c.args.own.low c.args.own.high c.in_default.not-Wells c.in_default.not-Recharge)
