use Rattle.std.proofs.Common.{sym, ◌∙◌}
use Rattle.problem_builder.proofs.{Members.variable_active, KindsOf.variable_kind, KindsOf.constant_no_variable, KindsOf.no_flow_no_variable}
use Rattle.problem_builder.proofs.storages.even_storage.Goals as goal

pub storage_at-requires-clause-active : goal.storage_at-requires-clause-active
storage_at-requires-clause-active c = variable_active c.args.model.now c.args.number c.args.cell
    (variable_kind c.args.model.now c.args.number c.args.cell (sym (c.requires.kinds.each c.args.cell c.requires.cell) ∙ c.in-Variable.is))

pub storage_at-requires-clause-transient : goal.storage_at-requires-clause-transient
storage_at-requires-clause-transient c = (c.requires.factors 0).transient

pub storage_at-requires-clause-factors : goal.storage_at-requires-clause-factors
storage_at-requires-clause-factors c = (c.requires.factors 0).usable

pub returns-in-Constant : goal.returns-in-Constant
returns-in-Constant c = λ n v e. absurd (constant_no_variable c.args.model.now c.args.number c.args.cell (sym (c.requires.kinds.each c.args.cell c.requires.cell) ∙ c.in-Constant.is) v)

pub returns-in-NoFlow : goal.returns-in-NoFlow
returns-in-NoFlow c = λ n v e. absurd (no_flow_no_variable c.args.model.now c.args.number c.args.cell (sym (c.requires.kinds.each c.args.cell c.requires.cell) ∙ c.in-NoFlow.is) v)

pub returns-in-Variable : goal.returns-in-Variable
returns-in-Variable c n v transient = c.storage_at.ensures n (c.requires.factors n).grown
