-- The test of a thickness, once passed, tells that there is room.
use Rattle.number_limits.proofs.Common.{◌≡◌, true, Some, None, Option, ℤ, refl, sym, arith, ints, Dec, IsThick, floor, ceiling, has_room, is_thick}
use Rattle.decimal_input.proofs.SignedFloors.{floor_means, ceiling_means}

pub thick_of : (top bottom : Dec) (x y : Option ℤ) → floor top 18 ≡ x → ceiling bottom 18 ≡ y → has_room x y ≡ true → IsThick top bottom
thick_of top bottom None y e f so = absurd cc
thick_of top bottom (Some z) None e f so = absurd cc
thick_of top bottom (Some z) (Some w) e f so =
    let p = floor_means top 18 (Some z) (sym e) in
    let q = ceiling_means bottom 18 (Some w) (sym f) in
    record { floor = z; ceiling = w; is_floor = p.0; is_ceiling = q.0; small = (p.1, q.1); room = grind (arith, ints) }

pub thick_sound : (top bottom : Dec) → is_thick top bottom ≡ true → IsThick top bottom
unfolding is_thick
thick_sound top bottom so = thick_of top bottom (floor top 18) (ceiling bottom 18) refl refl so
