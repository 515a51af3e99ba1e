-- Elevations are canonical numbers.
use Rattle.number_limits.proofs.Common.{ℕ, ◌-◌, Bool, true, false, cond, nat_lt, FlowModel, layer_size, dec_at, has_bed, bottom_at, lowest, top_at, IsGrid, Dec, IsDec}
use Rattle.number_limits.proofs.Canonical.{dec_at_is}

either : (b : Bool) (x y : Dec) → IsDec x → IsDec y → IsDec (cond b x y)
either true x y p q = p
either false x y p q = q

pub bottom_is : (m : FlowModel) (c : ℕ) → IsGrid m.grid → IsDec (bottom_at m c)
bottom_is m c h = dec_at_is m.grid.bottom c h.bottom.1

pub lowest_is : (m : FlowModel) (c : ℕ) → IsGrid m.grid → IsDec (lowest m c)
lowest_is m c h = either (has_bed m c) (dec_at m.grid.bed_bottom c) (bottom_at m c) (dec_at_is m.grid.bed_bottom c h.bed_bottom.1) (bottom_is m c h)

pub top_is : (m : FlowModel) (c : ℕ) → IsGrid m.grid → IsDec (top_at m c)
top_is m c h = either (nat_lt c (layer_size m.grid)) (dec_at m.grid.top c) (lowest m (c - layer_size m.grid)) (dec_at_is m.grid.top c h.top.1) (lowest_is m (c - layer_size m.grid) h)
