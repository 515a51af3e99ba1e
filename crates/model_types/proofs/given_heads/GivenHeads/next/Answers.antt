use Rattle.model_types.proofs.Common.{◌++◌, ◌+◌, ◌<◌, ap, sym, ◌∙◌, subst, arith, All, append-nil, take_all, cell_count}
use Rattle.model_types.proofs.GivenTables.{table, last_is, heads_are, length_is, lists_before, period_list, lists_more, names_within, table_step}
use Rattle.model_types.proofs.given_heads.GivenHeads.next.Goals as goal

pub loop-x-init : goal.loop-x-init
loop-x-init c =
    let m = c.args.model.now in
    let p = c.args.self.now.period in
    c.in_ok-last.ensures ∙ last_is m c.args.self.now p c.requires.before ∙ ap (table (cell_count m.grid)) (sym (append-nil (lists_before m p)))

pub set-requires : goal.set-requires
set-requires c =
    let m = c.args.model.now in
    let p = c.args.self.now.period in
    let list = period_list m p _ _ _ c.requires.period c.as_slice.ensures c.index-as_slice-self.is c.as_slice-list.ensures in
    let cells = subst (All (λ x. x.cell.0 < cell_count m.grid)) (sym list) c.requires.cells in
    let within = names_within (cell_count m.grid) c.loop-x.x-index c.as_slice-list.result.now c.loop-x-test.true cells in
    record { place = omega (arith, within, length_is (cell_count m.grid) _ _ c.loop-x.invariant) }

pub loop-x-preserved : goal.loop-x-preserved
loop-x-preserved c =
    let m = c.args.model.now in
    let p = c.args.self.now.period in
    let list = period_list m p _ _ _ c.requires.period c.as_slice.ensures c.index-as_slice-self.is c.as_slice-list.ensures in
    let cells = subst (All (λ x. x.cell.0 < cell_count m.grid)) (sym list) c.requires.cells in
    let within = names_within (cell_count m.grid) c.loop-x.x-index c.as_slice-list.result.now c.loop-x-test.true cells in
    c.in_ok-set.ensures ∙ table_step (cell_count m.grid) c.loop-x.x-index (lists_before m p) c.as_slice-list.result.now _ c.loop-x.invariant c.loop-x-test.true within

pub returns-clause-given : goal.returns-clause-given
returns-clause-given c =
    let m = c.args.model.now in
    let p = c.args.self.now.period in
    let list = period_list m p _ _ _ c.requires.period c.as_slice.ensures c.index-as_slice-self.is c.as_slice-list.ensures in
    let whole = take_all c.loop-x.x-index c.as_slice-list.result.now c.loop-x-test.false in
    heads_are m (p + 1) _ (c.loop-x.invariant ∙ ap (λ ys. table (cell_count m.grid) (lists_before m p ++ ys)) (whole ∙ list) ∙ ap (table (cell_count m.grid)) (lists_more m p c.requires.period))
