use Rattle.problem_builder.proofs.Common.{[], ap, ◌∙◌, arith, take_all, table, table_none, table_step, names_within, length_is}
use Rattle.problem_builder.proofs.CellTables.{named_filled}
use Rattle.problem_builder.proofs.given.last_entries.Goals as goal

pub loop-x-init : goal.loop-x-init
loop-x-init c = c.none-table.ensures ∙ table_none c.args.count

pub set-requires : goal.set-requires
set-requires c = record { place = omega (arith, length_is c.args.count _ _ c.loop-x.invariant, names_within c.args.count c.loop-x.x-index c.args.list.now c.loop-x-test.true c.requires) }

pub loop-x-preserved : goal.loop-x-preserved
loop-x-preserved c = c.in_ok-set.ensures ∙ table_step c.args.count c.loop-x.x-index [] c.args.list.now _ c.loop-x.invariant c.loop-x-test.true
    (names_within c.args.count c.loop-x.x-index c.args.list.now c.loop-x-test.true c.requires)

pub returns : goal.returns
returns c = named_filled c.args.count c.args.list.now _ (c.loop-x.invariant ∙ ap (table c.args.count) (take_all c.loop-x.x-index c.args.list.now c.loop-x-test.false))
