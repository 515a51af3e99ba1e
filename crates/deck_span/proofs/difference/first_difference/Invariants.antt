use Rattle.deck_span.proofs.Common.{All, take, Shares, comparing_order}
use Rattle.deck_span.proofs.difference.first_difference.Given as goal

abbrev pub invariant-loop-kind : goal.invariant-loop-kind
invariant-loop-kind l = All (λ x. Shares x l.first l.second) (take l.kind-index comparing_order)
