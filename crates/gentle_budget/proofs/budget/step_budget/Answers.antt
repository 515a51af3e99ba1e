use Rattle.gentle_budget.proofs.Common.{◌∙◌, ℕ, ◌<◌, arith, length, sym, High, Low, In, Out, storage_term, side_cells, variable_place}
use Rattle.gentle_budget.proofs.Tested.{all_stored, no_stored_in, no_stored_out, tested, tested_value}
use Rattle.gentle_budget.proofs.budget.step_budget.Goals as goal

pub side_budget-requires-clause-ids : goal.side_budget-requires-clause-ids
side_budget-requires-clause-ids c = λ k lt.
    let m = c.args.model.now in
    let p = c.args.posed.now.low in
    let cells = side_cells m c.args.layers.now c.args.tables.now.digits c.args.at c.args.listed.now Low p c.requires.hold.posed.low in
    let there = variable_place m c.args.at c.requires.model p cells k lt in
    omega (arith, there.within, c.requires.listed.whole)

pub side_budget-requires-2-clause-ids : goal.side_budget-requires-2-clause-ids
side_budget-requires-2-clause-ids c = λ k lt.
    let m = c.args.model.now in
    let p = c.args.posed.now.high in
    let cells = side_cells m c.args.layers.now c.args.tables.now.digits c.args.at c.args.listed.now High p c.requires.hold.posed.high in
    let there = variable_place m c.args.at c.requires.model p cells k lt in
    omega (arith, there.within, c.requires.listed.whole)

pub stored_sums-stored-requires-clause-cells : goal.stored_sums-stored-requires-clause-cells
stored_sums-stored-requires-clause-cells c =
    side_cells c.args.model.now c.args.layers.now c.args.tables.now.digits c.args.at c.args.listed.now Low c.args.posed.now.low c.requires.hold.posed.low

pub returns-in-Ok-stored_term-clause-budget : goal.returns-in-Ok-stored_term-clause-budget
returns-in-Ok-stored_term-clause-budget c =
    let m = c.args.model.now in
    let w = c.args.layers.now in
    let s = c.args.tables.now.digits in
    let p = c.args.posed.now.low in
    let q = c.args.posed.now.high in
    let old = c.args.old.now in
    let listed = c.args.listed.now in
    let sums = c.stored_sums-stored.result in
    let into = tested m w s c.args.at old listed p q In sums.into c.stored_term.result c.stored_sums-stored.ensures.into c.stored_term.ensures in
    let out = tested m w s c.args.at old listed p q Out sums.out c.stored_term-2.result c.stored_sums-stored.ensures.out c.stored_term-2.ensures in
    let x = c.in-Ok.into in
    let y = c.in-Ok-stored_term.out in
    let joined = c.joined_budget.ensures (storage_term m w s c.args.at old listed p) (tested_value m w s c.args.at old listed p q In x c.stored_term.result into c.in-Ok.is)
    (tested_value m w s c.args.at old listed p q Out y c.stored_term-2.result out c.in-Ok-stored_term.is) in
    all_stored m w s c.args.at old listed p q c.in_ok-low.low c.in_ok-high.high c.in_ok-low.ensures.budget c.in_ok-high.ensures.budget x (sym into ∙ c.in-Ok.is) y
    c.joined_budget.result (sym out ∙ c.in-Ok-stored_term.is) joined

pub returns-in-Err-stored_term-clause-refusal : goal.returns-in-Err-stored_term-clause-refusal
returns-in-Err-stored_term-clause-refusal c =
    let m = c.args.model.now in
    let w = c.args.layers.now in
    let s = c.args.tables.now.digits in
    let p = c.args.posed.now.low in
    let q = c.args.posed.now.high in
    let old = c.args.old.now in
    let listed = c.args.listed.now in
    let sums = c.stored_sums-stored.result in
    let into = tested m w s c.args.at old listed p q In sums.into c.stored_term.result c.stored_sums-stored.ensures.into c.stored_term.ensures in
    let out = tested m w s c.args.at old listed p q Out sums.out c.stored_term-2.result c.stored_sums-stored.ensures.out c.stored_term-2.ensures in
    no_stored_out m w s c.args.at old listed p q c.in_ok-low.low c.in_ok-high.high c.in_ok-low.ensures.budget c.in_ok-high.ensures.budget c.in-Ok.into (sym into ∙ c.in-Ok.is)
    c.in-Err-stored_term.refusal (sym out ∙ c.in-Err-stored_term.is)
