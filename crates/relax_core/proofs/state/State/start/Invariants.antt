use Rattle.std.proofs.Common.{◌≡◌, All, vec_len}
use Rattle.relax_core.proofs.state.State.start.Given as goal

abbrev pub invariant-loop : goal.invariant-loop
invariant-loop l = (vec_len l.seen ≡ l.counter) × All (λ v. v.items ≡ l.words.items) l.seen.items
