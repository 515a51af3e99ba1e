use Rattle.problem_builder.proofs.Common.{◌≡◌, take, filter_map, option_map, through, is_constant, branches_of, constant_over}
use Rattle.problem_builder.proofs.branches.constants.Given as goal

abbrev pub invariant-loop-face : goal.invariant-loop-face
invariant-loop-face l = l.fixed.items ≡ filter_map (λ o. option_map (constant_over l.input.model l.input.tables.digits l.input.at l.input.old (branches_of l.input))
    (through (is_constant l.input.model l.input.at.period) o)) (take l.face-index l.face-items)
