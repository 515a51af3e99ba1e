use Rattle.step_problem.proofs.Common.{◌≡◌, rules, ◌-ℤ◌, int_max, bound_on}
use Rattle.step_problem.proofs.balance.branch.RiverBranch.flow_at.Goals as goal

pub returns-clause-value : goal.returns-clause-value
returns-clause-value c =
    let x = c.args.self.now in
    let gap : c.rise.result ≡ bound_on c.args.side x.stage_lo x.stage_hi -ℤ int_max c.args.own (bound_on c.args.side x.bottom_hi x.bottom_lo) = search rules in
    search rules
