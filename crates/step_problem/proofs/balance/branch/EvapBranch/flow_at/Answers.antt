use Rattle.step_problem.proofs.Common.{◌≡◌, rules, ◌-ℤ◌, pos, int_min, bound_on}
use Rattle.step_problem.proofs.balance.branch.EvapBranch.flow_at.Goals as goal

pub returns-clause-value : goal.returns-clause-value
returns-clause-value c =
    let x = c.args.self.now in
    let gap : c.fall.result ≡ int_min (bound_on c.args.side x.ext_lo x.ext_hi -ℤ int_min c.args.own (bound_on c.args.side x.surf_hi x.surf_lo)) (pos 0) = search rules in
    search rules
