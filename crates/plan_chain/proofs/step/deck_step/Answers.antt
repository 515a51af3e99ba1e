use Rattle.plan_chain.proofs.Common.{ℕ, arith, subst, sym, IfErr, IfOk, AreDeckTables, FailsBy, IsStepBy}
use Rattle.plan_chain.proofs.step.deck_step.Goals as goal

pub next_step_with-requires-clause-digits : goal.next_step_with-requires-clause-digits
next_step_with-requires-clause-digits g c = omega (arith, c.requires.tables.first.digits, c.requires.digits)

pub next_step_with-requires-clause-tables : goal.next_step_with-requires-clause-tables
next_step_with-requires-clause-tables g c = let P : ℕ → Type 0 = λ n. AreDeckTables c.args.decks.now n c.args.tables.now in subst P (sym c.requires.tables.first.digits) c.requires.tables

pub returns-clause-tables : goal.returns-clause-tables
returns-clause-tables g c = let P : ℕ → Type 0 = λ n. AreDeckTables c.args.decks.now n c.next_step_with.new.tables in subst P c.requires.tables.first.digits c.next_step_with.ensures.tables

pub returns-clause-step : goal.returns-clause-step
returns-clause-step g c =
    let P : ℕ → Type 0 = λ n. IfOk c.next_step_with.result (IsStepBy c.args.limits c.args.decks.now n c.args.at c.args.old.now g.S.Settler.pairs) in
    subst P c.requires.tables.first.digits c.next_step_with.ensures.step

pub returns-clause-fault : goal.returns-clause-fault
returns-clause-fault g c =
    let P : ℕ → Type 0 = λ n. IfErr c.next_step_with.result (FailsBy c.args.limits c.args.decks.now n c.args.at c.args.old.now (g.S.Settler.rounds c.args.settler.now)) in
    subst P c.requires.tables.first.digits c.next_step_with.ensures.fault
