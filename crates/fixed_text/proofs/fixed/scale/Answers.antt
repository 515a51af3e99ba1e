use Rattle.std.proofs.Common.{ℕ, ◌≤◌, ◌^◌, arith, lit<, subst, sym}
use Rattle.std.proofs.Math.Nat.{pow-le-pow_right}
use Rattle.fixed_text.proofs.fixed.scale.Goals as goal

pub overflow_mul-scale : goal.overflow_mul-scale
overflow_mul-scale c =
    let below : c.loop.counter ≤ 26 = omega arith in
    let powers : 10 ^ c.loop.counter ≤ 10 ^ 26 = pow-le-pow_right (lit< tt) below in
    let small : c.loop.scale ≤ 10 ^ 26 = (let P : ℕ → Type 0 = λ n. n ≤ 10 ^ 26 in subst P (sym c.loop.invariant.0) powers) in
    omega (arith, small)
