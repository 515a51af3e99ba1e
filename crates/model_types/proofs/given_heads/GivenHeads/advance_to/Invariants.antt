use Rattle.model_types.proofs.Common.{◌≡◌, ◌≤◌, given_heads}
use Rattle.model_types.proofs.given_heads.GivenHeads.advance_to.Given as goal

abbrev pub invariant-loop : goal.invariant-loop
invariant-loop l = (l.self ≡ given_heads l.model l.self.period) × (l.self.period ≡ l.counter) × (l.counter ≤ l.fn.period)
