use Rattle.problem_builder.specs.{branches_of}
use Rattle.problem_builder.proofs.{Problems.is_problem_over, Steps.all_cells}
use Rattle.problem_builder.proofs.builder.problem_of.Goals as goal

pub new-requires : goal.new-requires
new-requires c =
    let i = c.args.input.now in
    let are = c.requires in
    is_problem_over i.model i.tables.digits i.at i.old (branches_of i) are.branches are.model are.time are.old c.in_ok-cells.cells.items
    c.in_ok-cells.ensures.cells

pub returns-clause-problem : goal.returns-clause-problem
returns-clause-problem c =
    let i = c.args.input.now in
    rw c.new.ensures (all_cells i.model i.tables.digits i.at i.old (branches_of i) c.in_ok-cells.cells.items c.in_ok-cells.ensures.cells)
