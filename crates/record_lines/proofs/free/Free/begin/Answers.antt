use Rattle.record_lines.proofs.Common.{refl, words}
use Rattle.record_lines.proofs.free.Free.begin.Goals as goal

pub returns : goal.returns
unfolding words
returns c = rw c.of_bytes.ensures refl
