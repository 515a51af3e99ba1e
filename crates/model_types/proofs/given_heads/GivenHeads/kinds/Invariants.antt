use Rattle.model_types.proofs.Common.{◌≡◌, map, range_with_len, kind_of}
use Rattle.model_types.proofs.given_heads.GivenHeads.kinds.Given as goal

abbrev pub invariant-loop-cell : goal.invariant-loop-cell
invariant-loop-cell l = l.kinds.items ≡ map (kind_of l.model l.self.period) (range_with_len 0 l.cell)
