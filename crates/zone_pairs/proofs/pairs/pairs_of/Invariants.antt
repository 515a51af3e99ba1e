use Rattle.zone_pairs.proofs.Common.{◌≡◌, ◌++◌, map, pair_of}
use Rattle.zone_pairs.proofs.pairs.pairs_of.Given as goal

abbrev pub invariant-loop-key : goal.invariant-loop-key
invariant-loop-key l = l.pairs.items ++ map pair_of l.key-iterator ≡ map pair_of l.keys.keys
