use Rattle.model_types.proofs.Common.{◌≡◌, false, take, ◌==◌, list_any}
use Rattle.model_types.proofs.given_heads.any_names.Given as goal

abbrev pub invariant-loop-p : goal.invariant-loop-p
invariant-loop-p l = list_any (λ p. list_any (λ x. x.cell.0 == l.cell) p.stresses.given) (take l.p-index l.periods) ≡ false
