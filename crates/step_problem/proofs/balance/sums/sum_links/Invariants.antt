use Rattle.step_problem.proofs.Common.{◌≡◌, ◌*◌, ◌^◌, ℕ, ℤ, take, drop, ◌+ℤ◌, sum_by, ends_in, total, IsMagnitudeAtMost, link_flow}
use Rattle.step_problem.proofs.balance.sums.sum_links.Given as goal

abbrev pub invariant-loop-i : goal.invariant-loop-i
invariant-loop-i l = record {
  value : (h : ℕ → ℤ) → ends_in h l.links ≡ l.values → l.sum +ℤ total (link_flow l.side h l.own) (drop l.i l.links) ≡ total (link_flow l.side h l.own) l.links;
  within : IsMagnitudeAtMost l.sum (sum_by (λ x. x.hi) (take l.i l.links) * 2 ^ 63);
}
