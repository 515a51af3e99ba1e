use Rattle.problem_builder.proofs.Common.{◌≡◌, take, filter_map, option_map, through, is_variable, branches_of, link_over}
use Rattle.problem_builder.proofs.branches.links.Given as goal

abbrev pub invariant-loop-face : goal.invariant-loop-face
invariant-loop-face l = l.links.items ≡ filter_map (λ o. option_map (link_over l.input.model l.input.tables.digits l.input.at l.input.old (branches_of l.input))
    (through (is_variable l.input.model l.input.at.period) o)) (take l.face-index l.face-items)
