use Rattle.zone_pairs.proofs.Common.{None, joins_by}
use Rattle.zone_pairs.proofs.Gains.{gains_all, gains_item, gains_nothing}
use Rattle.zone_pairs.proofs.pairs.add_faces.Goals as goal

pub loop-face-init : goal.loop-face-init
loop-face-init c = gains_nothing c.args.keys.now

pub loop-face-preserved : goal.loop-face-preserved
loop-face-preserved c = gains_item c.args.keys.now c.loop-face.keys c.add_face.new.keys (λ z.
    joins_by c.args.model.now c.args.zones.now z c.args.cell) c.args.faces.now c.loop-face.face-index None c.loop-face-test.true c.loop-face.invariant
    c.in_ok-add_face.ensures

pub returns : goal.returns
returns c = gains_all c.args.keys.now c.loop-face.keys (λ z.
    joins_by c.args.model.now c.args.zones.now z c.args.cell) c.args.faces.now c.loop-face.face-index c.loop-face-test.false c.loop-face.invariant
