use Rattle.gentle_heads.proofs.Common.{All, take, FallsThrough}
use Rattle.gentle_heads.proofs.branch.falls.Given as goal

abbrev pub invariant-loop-face : goal.invariant-loop-face
invariant-loop-face l = All (FallsThrough l.model l.layers l.heads l.c) (take l.face-index l.face-items)
