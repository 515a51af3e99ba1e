use Rattle.gentle_heads.proofs.Common.{◌≡◌, ◌+◌, ◌-◌, arith, layer_size}
use Rattle.gentle_heads.proofs.Elevations.{over_bottom_is}
use Rattle.gentle_heads.proofs.bottom.is_over_bottom.Goals as goal

pub returns : goal.returns
returns c =
    let m = c.args.model.now in
    let at : c.args.c - c.layer_size-layer.result + layer_size m.grid ≡ c.args.c = omega (arith, c.layer_size-layer.ensures.size, c.if-c-layer.false) in
    over_bottom_is m c.args.layers.now c.args.heads.now c.args.c (c.args.c - c.layer_size-layer.result) at _ c.over_active.ensures
