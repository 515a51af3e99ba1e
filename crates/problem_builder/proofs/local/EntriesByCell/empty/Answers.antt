use Rattle.problem_builder.proofs.Common.{◌∙◌, ap, map, local_in, kept_bounds}
use Rattle.problem_builder.proofs.Appended.{none_kept}
use Rattle.problem_builder.proofs.local.EntriesByCell.empty.Goals as goal

pub returns-clause-empty : goal.returns-clause-empty
returns-clause-empty c = λ d. ap (λ xs. local_in (map kept_bounds xs) d) c.loop-cell.invariant ∙ none_kept c.loop-cell._cell d
