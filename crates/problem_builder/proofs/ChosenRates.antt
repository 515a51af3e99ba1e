-- The numbers of the arrays of RCH and EVT at a cell that an option chooses.
use Rattle.problem_builder.proofs.Common.{◌≡◌, ℕ, zero, suc, true, false, List, refl, arith, ℤ, pos, negsuc, false≢true, ne_eqb, IsDec, FlowModel, place_in_layer, dec_at, is_int, is_chosen, period_at}
use Rattle.problem_builder.proofs.Common.{IsPeriod, dec_at_is}

-- option 0 chooses no cell
pub chosen_some : (m : FlowModel) (z : ℤ) (layers : List ℤ) (c : ℕ) → is_chosen m z layers c ≡ true → is_int z 0 ≡ false
chosen_some m (pos zero) layers c e = absurd (false≢true e)
chosen_some m (pos (suc n)) layers c e = ne_eqb (suc n) 0 (λ q. omega (arith, q))
chosen_some m (negsuc n) layers c e = refl

pub rate_valid : (m : FlowModel) (p c : ℕ) → IsPeriod m (period_at m p) → is_chosen m m.nrchop (period_at m p).stresses.irch c ≡ true →
    IsDec (dec_at (period_at m p).stresses.recharge (place_in_layer m.grid c))
rate_valid m p c valid e = dec_at_is (period_at m p).stresses.recharge (place_in_layer m.grid c) (valid.stresses.recharge (chosen_some m m.nrchop (period_at m p).stresses.irch c e)).decimals
