use Rattle.cell_relax.proofs.Common.{◌≡◌, length, take, ends_in, heads_on}
use Rattle.cell_relax.proofs.relax.read_values.Given as goal

abbrev pub invariant-loop-i : goal.invariant-loop-i
invariant-loop-i l = record {
  six : length l.values ≡ 6;
  read : take l.i l.values ≡ ends_in (heads_on l.side l.words) (take l.i l.links);
}
