-- The pair of a storage contains the manual's storage.
use Rattle.conductance_bounds.proofs.Common.{◌≡◌, ℕ, ◌-◌, ◌≤◌, ◌<◌, Option, Some, None, ap, refl, subst, sym, Dec, size, Ratio, times, factors_of, over, Sd, IsPositive, power, geometric, Span}
use Rattle.conductance_bounds.proofs.Common.{AreBounds, Number, Within, Product, Term, exact, Holds, sum_term, power_term, area_formula, storativity_term, storage_formula, thickness_of}
use Rattle.conductance_bounds.proofs.Common.{storativity_exact, storage_of, storage_exact, LiesWithin, PairEncloses, Same-self, times-Same, over-Same}
use Rattle.conductance_bounds.specs.declared.storage.Factors.{Factors}
use Rattle.conductance_bounds.proofs.{Sides.IsFactor, Sides.exact_positive, Sides.number_is_factor, Sides.power_factor, Sides.product_is_factor, Sides.size_positive, Sides.sum_factor, Manual.Gives}
use Rattle.conductance_bounds.proofs.{Manual.term_pair_encloses, PartBounds.power_is, PartBounds.sum_at, Recharged.times_is_associative}

-- of a storativity x, lengths r and d, a multiplier t and a period of length l
pub storage_gives : (x : Term) (r d t l : Ratio) (steps n : ℕ) → 1 ≤ steps → 0 < l.num → 0 < t.num → Holds x →
    Gives (storage_formula x (area_formula r d) (sum_term t (steps - 1)) l (power_term t (n - 1))) (over (times (times (times (exact x) r) d) (geometric t steps)) (times l (power t (n - 1))))
storage_gives x r d t l steps n some length growth holds =
    let length_factor = number_is_factor l length in
    let divisor : IsFactor (Product (Number l) (power_term t (n - 1))) = product_is_factor length_factor (power_factor t growth (n - 1)) in
    let formula = storage_formula x (area_formula r d) (sum_term t (steps - 1)) l (power_term t (n - 1)) in
    subst (λ k. Gives formula (over (times (times (times (exact x) r) d) (geometric t steps)) (times l k))) (power_is t (n - 1)) (record {
      holds = (((holds, (tt, tt)), (sum_factor t growth (steps - 1)).holds), divisor.holds, divisor.some);
      same = over-Same (exact_positive divisor) (exact_positive divisor) (times-Same (times_is_associative (exact x) r d) (sum_at t steps some)) (Same-self _);
    })

storativity_is : (ss : Dec) (thick : Option (Sd × Sd)) (f : Ratio) → exact (storativity_term (size ss) (thickness_of thick f)) ≡ storativity_exact ss thick f
storativity_is ss None f = refl
storativity_is ss (Some (lo, hi)) f = refl

storativity_holds : (ss : Dec) (thick : Option (Sd × Sd)) (f : Ratio) → LiesWithin thick f → Holds (storativity_term (size ss) (thickness_of thick f))
storativity_holds ss None f h = tt
storativity_holds ss (Some (lo, hi)) f h = (tt, h)

pub branch_encloses : (ss : Dec) (thick : Option (Sd × Sd)) (delr delc : Dec) (t : Ratio) (steps n : ℕ) (perlen : Dec) (f : Ratio) (s : ℕ) → IsPositive perlen →
    1 ≤ steps → 0 < t.num → LiesWithin thick f →
    PairEncloses (storage_of ss thick delr delc t steps n perlen f) s (storage_exact ss thick delr delc t steps n perlen f)
branch_encloses ss thick delr delc t steps n perlen f s length some growth within =
    subst (λ k. PairEncloses (storage_of ss thick delr delc t steps n perlen f) s
    (over (times (times (times k (size delr)) (size delc)) (geometric t steps)) (times (size perlen) (power t (n - 1))))) (storativity_is ss thick f)
    (term_pair_encloses s (storage_gives (storativity_term (size ss) (thickness_of thick f)) (size delr) (size delc) t (size perlen) steps n some
    (size_positive perlen length) growth (storativity_holds ss thick f within)))

-- the bounds of SS times a thickness
pub thick_bounds : (ss : Ratio) (thick : Option (Sd × Sd)) (lo hi : Sd) (f : Ratio) (x : Span) → thick ≡ Some (lo, hi) →
    AreBounds (Product (Number ss) (Within lo hi f)) x → AreBounds (storativity_term ss (thickness_of thick f)) x
thick_bounds ss thick lo hi f x e p = subst (λ k. AreBounds (storativity_term ss (thickness_of k f)) x) (sym e) p

-- the factors of a step, as bounds
pub grown_sum : (t : Ratio) (steps n : ℕ) (f : Factors) → f ≡ factors_of t steps n → AreBounds (sum_term t (steps - 1)) (record { lo = f.sum_lo; hi = f.sum_hi })
unfolding factors_of
grown_sum t steps n f e = record { lower = ap (λ (g : Factors). g.sum_lo) e; upper = ap (λ (g : Factors). g.sum_hi) e }

pub grown_power : (t : Ratio) (steps n : ℕ) (f : Factors) → f ≡ factors_of t steps n → AreBounds (power_term t (n - 1)) (record { lo = f.power_lo; hi = f.power_hi })
unfolding factors_of
grown_power t steps n f e = record { lower = ap (λ (g : Factors). g.power_lo) e; upper = ap (λ (g : Factors). g.power_hi) e }

pub factors_are : (t : Ratio) (steps n : ℕ) (f : Factors) → AreBounds (sum_term t (steps - 1)) (record { lo = f.sum_lo; hi = f.sum_hi }) →
    AreBounds (power_term t (n - 1)) (record { lo = f.power_lo; hi = f.power_hi }) → f ≡ factors_of t steps n
unfolding factors_of
factors_are t steps n f p q = λ i. record { sum_lo = p.lower i; sum_hi = p.upper i; power_lo = q.lower i; power_hi = q.upper i }
