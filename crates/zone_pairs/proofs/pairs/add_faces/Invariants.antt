use Rattle.zone_pairs.proofs.Common.{take, list_any, Gains, joins_by}
use Rattle.zone_pairs.proofs.pairs.add_faces.Given as goal

abbrev pub invariant-loop-face : goal.invariant-loop-face
invariant-loop-face l = Gains l.fn.keys l.keys (λ z. list_any (joins_by l.model l.zones z l.cell) (take l.face-index l.faces))
