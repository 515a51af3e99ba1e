use Rattle.gentle_steps.proofs.Common.{◌≡◌, ◌∙◌, ap, arith, subst, sym, ℤ, heads_on, is_variable, cell_count, bound_at, no_bound, entries_at, Entries, IsTrue, ◌+ℤ◌, FitsSigned, rules, to_z-of_z, IsAt}
use Rattle.gentle_steps.proofs.Common.{balance, stored_flow, one_head, whole_balance, HasSign}
use Rattle.problem_builder.proofs.Members.{variable_active}
use Rattle.std.specs.Int.{w128}
use Rattle.gentle_steps.proofs.Cells.{variable_place}
use Rattle.gentle_steps.proofs.signs.has_sign_at.Goals as goal

pub bounds-old-cell : goal.bounds-old-cell
bounds-old-cell c =
    let id = ap (λ (e : Entries). e.id) (c.behind-problem.view_is ∙ c.cell.ensures) in
    let there = variable_place c.args.model.now c.args.at c.requires.model c.args.problem.now c.requires.cells c.args.index c.requires.index in
    omega (arith, id, there.within, c.requires.old.whole)

pub stored_flow-stored-requires-clause-cell : goal.stored_flow-stored-requires-clause-cell
stored_flow-stored-requires-clause-cell c =
    let id = ap (λ (e : Entries). e.id) (c.behind-problem.view_is ∙ c.cell.ensures) in
    let there = variable_place c.args.model.now c.args.at c.requires.model c.args.problem.now c.requires.cells c.args.index c.requires.index in
    omega (arith, id, there.within)

pub stored_flow-stored-requires-clause-active : goal.stored_flow-stored-requires-clause-active
stored_flow-stored-requires-clause-active c =
    let m = c.args.model.now in
    let p = c.args.problem.now in
    let id = ap (λ (e : Entries). e.id) (c.behind-problem.view_is ∙ c.cell.ensures) in
    let there = subst (IsAt (is_variable m c.args.at.period) (cell_count m.grid) c.args.index) (sym id)
    (variable_place m c.args.at c.requires.model p c.requires.cells c.args.index c.requires.index) in
    variable_active m c.args.at.period c.behind-problem.inside.id there.passes

pub stored_flow-stored-requires-clause-pairs : goal.stored_flow-stored-requires-clause-pairs
stored_flow-stored-requires-clause-pairs c =
    let m = c.args.model.now in
    let p = c.args.problem.now in
    let id = ap (λ (e : Entries). e.id) (c.behind-problem.view_is ∙ c.cell.ensures) in
    let there = subst (IsAt (is_variable m c.args.at.period) (cell_count m.grid) c.args.index) (sym id)
    (variable_place m c.args.at c.requires.model p c.requires.cells c.args.index c.requires.index) in
    c.requires.stored c.behind-problem.inside.id there.within there.passes

pub stored_flow-stored-requires-clause-old : goal.stored_flow-stored-requires-clause-old
stored_flow-stored-requires-clause-old c =
    let id = ap (λ (e : Entries). e.id) (c.behind-problem.view_is ∙ c.cell.ensures) in
    let there = variable_place c.args.model.now c.args.at c.requires.model c.args.problem.now c.requires.cells c.args.index c.requires.index in
    c.requires.old.range c.behind-problem.inside.id no_bound (omega (arith, id, there.within, c.requires.old.whole))

pub returns : goal.returns
returns c =
    let m = c.args.model.now in
    let w = c.args.layers.now in
    let s = c.args.tables.now.digits in
    let at = c.args.at in
    let side = c.args.side in
    let p = c.args.problem.now in
    let old = c.args.old.now in
    let H = heads_on side c.args.bounds.now in
    let i = c.args.index in
    let id : c.behind-problem.inside.id ≡ (entries_at p i).id = ap (λ (e : Entries). e.id) (c.behind-problem.view_is ∙ c.cell.ensures) in
    let own : c.head_on-head.result ≡ H i = search rules in
    let one : c.one_head.result ≡ one_head c.head_on-head.result = search rules in
    let head = one ∙ ap one_head own in
    let balanced : c.balance_in.result ≡ balance side (entries_at p i) (H i) H = search rules in
    let given : c.stored_flow-stored.result ≡ stored_flow m w s at c.behind-problem.inside.id side (bound_at old c.behind-problem.inside.id) c.one_head.result = search rules in
    let stored = given ∙ (λ t. stored_flow m w s at (id t) side (bound_at old (id t)) (head t)) in
    let sum : c.balance_in.result +ℤ c.stored_flow-stored.result ≡ whole_balance m w s at side p old H i = λ t. balanced t +ℤ stored t in
    let P : ℤ → Type 0 = λ z. (IsTrue c.has_sign.result → HasSign side z) × (HasSign side z → IsTrue c.has_sign.result) in
    let p_fits : FitsSigned w128 c.balance_in.result = search rules in
    let q_fits : FitsSigned w128 c.stored_flow-stored.result = search rules in
    let both = simp to_z-of_z at c.has_sign.ensures in
    subst P sum both
