use Rattle.plan_check.proofs.Common.{arith, subst, sym, ℕ, IfErr, IfOk, AreDeckTables, AreChecked, HeadsFailBy}
use Rattle.plan_check.proofs.step.check_deck.Goals as goal

pub check_heads-requires-clause-digits : goal.check_heads-requires-clause-digits
check_heads-requires-clause-digits c = omega (arith, c.requires.tables.first.digits, c.requires.digits)

pub check_heads-requires-clause-tables : goal.check_heads-requires-clause-tables
check_heads-requires-clause-tables c = let P : ℕ → Type 0 = λ n. AreDeckTables c.args.decks.now n c.args.tables.now in subst P (sym c.requires.tables.first.digits) c.requires.tables

pub returns-clause-tables : goal.returns-clause-tables
returns-clause-tables c = let P : ℕ → Type 0 = λ n. AreDeckTables c.args.decks.now n c.check_heads.new.tables in subst P c.requires.tables.first.digits c.check_heads.ensures.tables

pub returns-clause-step : goal.returns-clause-step
returns-clause-step c =
    let P : ℕ → Type 0 = λ n. IfOk c.check_heads.result (AreChecked c.args.limits c.args.decks.now n c.args.at c.args.old.now c.args.heads.now) in
    subst P c.requires.tables.first.digits c.check_heads.ensures.step

pub returns-clause-fault : goal.returns-clause-fault
returns-clause-fault c =
    let P : ℕ → Type 0 = λ n. IfErr c.check_heads.result (HeadsFailBy c.args.limits c.args.decks.now n c.args.at c.args.old.now c.args.heads.now) in
    subst P c.requires.tables.first.digits c.check_heads.ensures.fault
