-- Remainders of a cell's number before and after a step along an axis.
use Rattle.model_types.proofs.Common.{◌≡◌, ℕ, ◌+◌, ◌*◌, ◌-◌, ◌/◌, ◌%◌, ◌<◌, ◌≤◌, arith, div-add-mod', mod-mul-add, mod_below, div_below, mul-le-mul_right}

pub mod_minus : (c k n : ℕ) → 0 < n → k ≤ c % n → (c - k) % n ≡ c % n - k
mod_minus c k n h le = grind (arith, div-add-mod', mod-mul-add, mod_below)

pub mod_plus : (c k n : ℕ) → c % n + k < n → (c + k) % n ≡ c % n + k
mod_plus c k n lt =
    let e : c + k ≡ c / n * n + (c % n + k) = omega (arith, div-add-mod' c n) in
    rw e (mod-mul-add (c / n) n (c % n + k) lt)

-- one more row fits, where the rows are whole
pub plus_below : (c k n q : ℕ) → 0 < n → c < q * n → c % n + k < n → c + k < q * n
plus_below c k n q h lt fits = grind (arith, div_below, mul-le-mul_right, div-add-mod')
