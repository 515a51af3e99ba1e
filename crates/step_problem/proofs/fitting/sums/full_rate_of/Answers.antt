use Rattle.step_problem.proofs.Common.{◌≡◌, ◌*◌, rules, arith, unsigned_abs, ap, ◌-ℤ◌, FitsSigned, w64, ints, to_z-of_z}
use Rattle.step_problem.proofs.fitting.sums.full_rate_of.Goals as goal

pub returns : goal.returns
returns c =
    let fits_1 : FitsSigned w64 c.args.x.now.surf_hi = search rules in
    let fits_2 : FitsSigned w64 c.args.x.now.ext_lo = search rules in
    let fits_d : FitsSigned w64 (c.args.x.now.surf_hi -ℤ c.args.x.now.ext_lo) = omega (arith, ints) in
    let depth : c.unsigned_abs.result ≡ unsigned_abs (c.args.x.now.surf_hi -ℤ c.args.x.now.ext_lo) = simp to_z-of_z at c.unsigned_abs.ensures.value in
    ap (λ n. c.args.x.now.hi * n) depth
