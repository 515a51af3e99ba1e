use Rattle.gentle_budget.proofs.Common.{◌≡◌, ◌∙◌, ◌<◌, ap, arith, length, subst, sym, entries_at, Entries, In, Out, TermPair, capped_term, part, plus_pair, cell_count, is_variable, variable_active}
use Rattle.gentle_budget.proofs.Common.{variable_place}
use Rattle.model_types.proofs.Ranks.{IsAt}
use Rattle.gentle_budget.proofs.Sums.{sum_ends, sum_goes_on, sum_starts}
use Rattle.gentle_budget.proofs.stored.stored_sums.Goals as goal

pub loop-index-init : goal.loop-index-init
loop-index-init c = record { into = sum_starts In _ _; out = sum_starts Out _ _ }

pub stored_pair-flow-requires-clause-cell : goal.stored_pair-flow-requires-clause-cell
stored_pair-flow-requires-clause-cell c =
    let id = ap (λ (e : Entries). e.id) (c.behind-problem.view_is ∙ c.cell.ensures) in
    let there = variable_place c.args.model.now c.args.at c.requires.model c.args.problem.now c.requires.cells c.loop-index.index (omega (arith, c.loop-index-test.true)) in
    omega (arith, id, there.within)

pub stored_pair-flow-requires-clause-active : goal.stored_pair-flow-requires-clause-active
stored_pair-flow-requires-clause-active c =
    let m = c.args.model.now in
    let id = ap (λ (e : Entries). e.id) (c.behind-problem.view_is ∙ c.cell.ensures) in
    let there = subst (IsAt (is_variable m c.args.at.period) (cell_count m.grid) c.loop-index.index) (sym id)
    (variable_place m c.args.at c.requires.model c.args.problem.now c.requires.cells c.loop-index.index (omega (arith, c.loop-index-test.true))) in
    variable_active m c.args.at.period c.behind-problem.inside.id there.passes

pub stored_pair-flow-requires-clause-pairs : goal.stored_pair-flow-requires-clause-pairs
stored_pair-flow-requires-clause-pairs c =
    let m = c.args.model.now in
    let id = ap (λ (e : Entries). e.id) (c.behind-problem.view_is ∙ c.cell.ensures) in
    let there = subst (IsAt (is_variable m c.args.at.period) (cell_count m.grid) c.loop-index.index) (sym id)
    (variable_place m c.args.at c.requires.model c.args.problem.now c.requires.cells c.loop-index.index (omega (arith, c.loop-index-test.true))) in
    c.requires.stored c.behind-problem.inside.id there.within there.passes

pub loop-index-preserved : goal.loop-index-preserved
loop-index-preserved c =
    let p = c.args.problem.now in
    let i = c.loop-index.index in
    let lt : i < length p = omega (arith, c.loop-index-test.true) in
    let is = c.behind-problem.view_is ∙ c.cell.ensures in
    let sums = c.loop-index.sums in
    record {
      into = sum_goes_on In _ p i _ sums.into c.with_flow-sums.result.into lt is
          (c.with_flow-sums.ensures.into ∙ ap (λ (x : TermPair). capped_term (plus_pair sums.into (part In x))) c.stored_pair-flow.ensures.value)
          c.with_flow-sums.ensures.into_sum c.loop-index.invariant.into;
      out = sum_goes_on Out _ p i _ sums.out c.with_flow-sums.result.out lt is
          (c.with_flow-sums.ensures.out ∙ ap (λ (x : TermPair). capped_term (plus_pair sums.out (part Out x))) c.stored_pair-flow.ensures.value)
          c.with_flow-sums.ensures.out_sum c.loop-index.invariant.out;
    }

pub returns-clause-into : goal.returns-clause-into
returns-clause-into c = sum_ends In _ c.args.problem.now c.loop-index.index c.loop-index.sums.into (omega (arith, c.loop-index-test.false)) c.loop-index.invariant.into

pub returns-clause-out : goal.returns-clause-out
returns-clause-out c = sum_ends Out _ c.args.problem.now c.loop-index.index c.loop-index.sums.out (omega (arith, c.loop-index-test.false)) c.loop-index.invariant.out
