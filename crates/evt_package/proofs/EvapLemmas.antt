-- What evaporates from a model whose columns passed their tests is in limits.
use Rattle.evt_package.proofs.Common.{◌≡◌, ℕ, zero, suc, ◌+◌, ◌≤◌, ◌<◌, ℤ, pos, neg_ℤ, ◌+ℤ◌, ◌≤ℤ◌, Bool, true, false, not, ◌&&◌, ◌==◌, Option, Some, None, refl, sym, arith, if◌then◌else◌, EvapSource}
use Rattle.evt_package.proofs.Common.{IsEvapValid, is_positive, evap_fault, has_extinction, is_reached, is_head}
use Rattle.std.proofs.lemmas.Int.{ints}
use Rattle.decimal_input.specs.{floor, ceiling, IsDec}
use Rattle.decimal_input.proofs.SignedFloors.{floor_means, ceiling_means}
use Rattle.outside.specs.declared.codes.Code.TheVariants.{BadProperty, HeadTooLarge}
use Rattle.number_limits.proofs.{HeadLemmas.head_of, SignLemmas.positive_of}

-- a source without a fault whose rate isn't 0
pub source_sound : (x : EvapSource) → IsDec x.rate → IsDec x.surface → IsDec x.depth → evap_fault x ≡ None → (x.rate.digits == 0) ≡ false → IsEvapValid x
unfolding has_extinction
source_sound x r s d h some = by_case x.rate.neg refl (is_positive x.depth) refl (is_head x.surface) refl (floor x.surface 9) refl (ceiling x.depth 9) refl (rw some at h)
  where
    above : (n : ℕ) → (n == 0) ≡ false → 0 < n
    above zero e = absurd (let clash : true ≡ false = e in cc)
    above (suc n) e = omega arith

    by_case : (a : Bool) → x.rate.neg ≡ a → (b : Bool) → is_positive x.depth ≡ b → (c : Bool) → is_head x.surface ≡ c → (f : Option ℤ) → floor x.surface 9 ≡ f → (g : Option ℤ) → ceiling x.depth 9 ≡ g
        → (if a then Some BadProperty else (if false then None else (if not b then Some BadProperty else (if c && is_reached f g then None else Some HeadTooLarge)))) ≡ None → IsEvapValid x
    by_case true p b q c u f v g w e = absurd cc
    by_case false p false q c u f v g w e = absurd cc
    by_case false p true q false u f v g w e = absurd cc
    by_case false p true q true u None v g w e = absurd cc
    by_case false p true q true u (Some z) v None w e = absurd cc
    by_case false p true q true u (Some z) v (Some y) w e = record {
      rate = record { decimal = r; sign = p; positive = above x.rate.digits some };
      depth = positive_of x.depth d q;
      surface = head_of x.surface s u;
      floor = z;
      ceiling = y;
      is_floor = (floor_means x.surface 9 (Some z) (sym v)).0;
      is_ceiling = (ceiling_means x.depth 9 (Some y) (sym w)).0;
      extinction = reached (is_reached (Some z) (Some y)) refl e;
    }
      where
        reached : (b : Bool) → is_reached (Some z) (Some y) ≡ b → (if b then None else Some HeadTooLarge) ≡ None → (y +ℤ neg_ℤ (pos 4000000000000000000)) ≤ℤ z
        reached true t e = grind (arith, ints)
        reached false t e = absurd cc
