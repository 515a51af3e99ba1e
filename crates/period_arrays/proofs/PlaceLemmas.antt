-- Places of an array of one layer as cells of layer 1.
use Rattle.period_arrays.proofs.Common.{ℕ, ◌*◌, ◌<◌, ◌≤◌, arith, Grid, layer_size, cell_count, HasSize}
use Rattle.std.proofs.Math.Nat.{mul-le-mul_right}

pub in_grid : (g : Grid) (i : ℕ) → HasSize g → i < layer_size g → i < cell_count g
in_grid g i size lt =
    let more : 1 * layer_size g ≤ g.layers * layer_size g = mul-le-mul_right (layer_size g) size.layers.0 in
    omega (arith, lt, more)
